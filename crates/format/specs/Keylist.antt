-- The program keylist: the bytes that it writes, for the bytes that it reads.
use Rattle.std.specs.Prelude.{ℕ, zero, suc, ◌+◌, ◌-◌, ◌*◌, ◌/◌, ◌%◌, ◌^◌, List, [], ◌∷◌, ◌++◌, Bool, true, false, ltb, leb, eqb, length}
use Rattle.std.proofs.Math.Option.{Option, some, none}
use Rattle.format.specs.Answer.{if, Answer, ok, refused, BadType, BadLine}
use Rattle.format.specs.Utf8.{within}
use Rattle.format.specs.TypeSheet.{keep, is_some, type_of}
use Rattle.format.specs.Calls.{check_key_call}

-- standard input of at most 65,536 bytes
abbrev pub max_input : ℕ
max_input = 65536

abbrev pub tab : ℕ
tab = 0x09

abbrev pub line_feed : ℕ
line_feed = 0x0A

-- one more in front; nothing where one of the two is missing
abbrev pub add : {A : Type 0} → Option A → Option (List A) → Option (List A)
add (some a) (some l) = some (a ∷ l)
add (some a) none = none
add none l = none

-- ---- lines

-- a line's bytes, and whether it ends with a line feed
pub record Line : Type 0 where
  pub text : List ℕ
  pub ended : Bool

-- a byte more at the front of the first line; behind the last line feed it begins a line that has none
abbrev pub longer : ℕ → List Line → List Line
longer b [] = record { text = b ∷ []; ended = false } ∷ []
longer b (l ∷ ls) = record { text = b ∷ l.text; ended = l.ended } ∷ ls

unfoldable pub lines_of : List ℕ → List Line
lines_of [] = []
lines_of (b ∷ bs) = if (eqb b line_feed) (record { text = []; ended = true } ∷ lines_of bs) (longer b (lines_of bs))

-- what a line holds: one that doesn't end with a line feed is bad
abbrev pub in_line : {A : Type 0} → (List ℕ → Option A) → Line → Option A
in_line f l = keep l.ended (f l.text)

-- ---- the line of type words

-- the parts between tabs
abbrev pub widen : ℕ → List (List ℕ) → List (List ℕ)
widen b [] = (b ∷ []) ∷ []
widen b (p ∷ ps) = (b ∷ p) ∷ ps

unfoldable pub parts_of : List ℕ → List (List ℕ)
parts_of [] = [] ∷ []
parts_of (b ∷ bs) = if (eqb b tab) ([] ∷ parts_of bs) (widen b (parts_of bs))

-- the number of decimal digits, behind those of n
unfoldable pub decimal_from : ℕ → List ℕ → Option ℕ
decimal_from n [] = some n
decimal_from n (b ∷ bs) = if (within 0x30 0x39 b) (decimal_from (n * 10 + (b - 0x30)) bs) none

abbrev pub below : ℕ → Option ℕ → Option ℕ
below m (some n) = if (ltb n m) (some n) none
below m none = none

-- a type word is 1 to 10 digits and below 2^32
unfoldable pub word_of : List ℕ → Option ℕ
word_of s = keep (within 1 10 (length s)) (below (2 ^ 32) (decimal_from 0 s))

unfoldable pub words_of : List (List ℕ) → Option (List ℕ)
words_of [] = some []
words_of (p ∷ ps) = add (word_of p) (words_of ps)

-- words in decimal, parted by tabs
unfoldable pub type_in : List ℕ → Option (List ℕ)
type_in s = words_of (parts_of s)

-- ---- a key line

-- a lowercase hexadecimal digit
unfoldable pub hex_digit : ℕ → Option ℕ
hex_digit b = if (within 0x30 0x39 b) (some (b - 0x30)) (if (within 0x61 0x66 b) (some (b - 0x61 + 10)) none)

abbrev pub pair : Option ℕ → Option ℕ → Option ℕ
pair (some h) (some l) = some (h * 16 + l)
pair (some h) none = none
pair none l = none

-- pairs of digits; no digits are the empty key
unfoldable pub key_in : List ℕ → Option (List ℕ)
key_in [] = some []
key_in (a ∷ []) = none
key_in (a ∷ b ∷ s) = add (pair (hex_digit a) (hex_digit b)) (key_in s)

-- ---- what is written

-- the digits of n, at most k behind the first
unfoldable pub digits : ℕ → ℕ → List ℕ
digits zero n = (0x30 + n) ∷ []
digits (suc k) n = if (ltb n 10) ((0x30 + n) ∷ []) (digits k (n / 10) ++ (0x30 + n % 10) ∷ [])

-- a number has fewer digits behind the first than it counts
unfoldable pub decimal : ℕ → List ℕ
decimal n = digits n n

-- a line's place, refusal, detail and values begun, in decimal, parted by tabs, and a line feed
unfoldable pub row : (place refusal detail begun : ℕ) → List ℕ
row place refusal detail begun = decimal place ++ tab ∷ decimal refusal ++ tab ∷ decimal detail ++ tab ∷ decimal begun ++ line_feed ∷ []

abbrev pub answer_row : ℕ → Answer Unit → ℕ → List ℕ
answer_row place (ok u) begun = row place 0 0 begun
answer_row place (refused n d) begun = row place n d begun

-- a key line's: by decode_key keeping no value; a bad line's
abbrev pub key_row : (ty : List ℕ) → ℕ → Option (List ℕ) → List ℕ
key_row ty place (some key) = answer_row place (check_key_call ty key).answer (check_key_call ty key).begun
key_row ty place none = row place BadLine 0 0

-- one for each key line, their places counted from the one given
unfoldable pub key_rows : (ty : List ℕ) → ℕ → List Line → List ℕ
key_rows ty place [] = []
key_rows ty place (l ∷ ls) = key_row ty place (in_line key_in l) ++ key_rows ty (place + 1) ls

-- a first line that is missing, bad or no admitted type, or input too long
unfoldable pub no_type : List ℕ
no_type = row 0 BadType 0 0

abbrev pub under_type : Option (List ℕ) → List Line → List ℕ
under_type (some ty) ls = if (is_some (type_of ty)) (key_rows ty 1 ls) no_type
under_type none ls = no_type

abbrev pub rows : List Line → List ℕ
rows [] = no_type
rows (l ∷ ls) = under_type (in_line type_in l) ls

unfoldable pub keylist : List ℕ → List ℕ
keylist input = if (leb (length input) max_input) (rows (lines_of input)) no_type

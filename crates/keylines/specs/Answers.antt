-- The parser's and the printer's answers, in keylist's terms.
use Rattle.std.specs.Prelude.{ℕ, ◌+◌, ◌-◌, ◌*◌, ◌≤◌, ◌<◌, ◌≡◌, true, List, [], ◌∷◌, ◌++◌, eqb, length, take, drop, Result, Ok, Err}
use Rattle.std.specs.Prelude as std
use Rattle.std.proofs.Math.Option.{Option, some, none}
use Rattle.std.proofs.lemmas.List.Edits.{sets}
use Rattle.format.specs.Answer.{if}
use Rattle.format.specs.Refusals.{number_of, detail_of}
use Rattle.format.specs.Utf8.{within}
use Rattle.format.specs.TypeSheet.{is_some, type_of}
use Rattle.format.specs.Keylist.{max_input, parts_of, type_in, key_in, lines_of, decimal, row, key_row, key_rows, no_type, keylist}
use Rattle.keylines.specs.Reasons.{bad_word, in_text, reason}
use Rattle.read.specs.declared.Refused.{Refused}
use Rattle.keylines.specs.declared.first.First.{First}
use Rattle.keylines.specs.declared.pieces.Left.{Left}
use Rattle.keylines.specs.declared.pieces.Line.{Line}
use Rattle.keylines.specs.declared.pieces.Piece.{Piece}
use Rattle.keylines.specs.declared.reason.Reason.{Reason}

-- an answer of the code as keylist's definitions have it
abbrev pub option_of : {A : Type 0} → std.Option A → Option A
option_of (std.Some a) = some a
option_of std.None = none

-- a count of a buffer's first elements: both parts are said, so that lending `&buffer[..n]` asks nothing more
abbrev pub Counts : ℕ → List ℕ → Type 0
Counts n buffer = (n ≤ length buffer) × (n ≡ length (take n buffer))

-- ---- the first line

-- the rows of the key lines that are left
abbrev pub rows_left : (ty input : List ℕ) → Left → List ℕ
rows_left ty input left = key_rows ty left.line (lines_of (drop left.at input))

-- what a piece of them asks for
pub record PieceAsked (input ty : List ℕ) (left : Left) : Type 0 where
  pub admitted : is_some (type_of ty) ≡ true
  pub short : length input ≤ max_input
  pub place : left.at ≤ length input
  pub low : left.line ≤ left.at

-- the words at the buffer's front are the input's type, and the rows of the key lines left are what is due
pub record TypeRead (input buffer : List ℕ) (n : ℕ) (left : Left) : Type 0 where
  pub counts : Counts n buffer
  pub asked : PieceAsked input (take n buffer) left
  pub rows : keylist input ≡ rows_left (take n buffer) input left

abbrev pub reason_is : Result First Reason → Option Reason
reason_is (Ok r) = none
reason_is (Err why) = some why

abbrev pub FirstIs : Result First Reason → (input buffer : List ℕ) → Type 0
FirstIs (Ok r) input buffer = TypeRead input buffer r.words r.left
FirstIs (Err why) input buffer = keylist input ≡ no_type

pub record FirstRead (input buffer : List ℕ) (r : Result First Reason) : Type 0 where
  pub why : reason_is r ≡ reason input
  pub is : FirstIs r input buffer

-- ---- pieces

-- the buffer's first bytes are put, and behind them it keeps what it held
pub record FrontPut (buffer after : List ℕ) (n : ℕ) : Type 0 where
  pub counts : Counts n after
  pub kept : drop n after ≡ drop n buffer

pub record PiecePut (ty input : List ℕ) (left : Left) (buffer after : List ℕ) (r : Piece) : Type 0 where
  pub front : FrontPut buffer after r.len
  -- what is put, and then the rows of the lines left, are the rows of the lines that were
  pub rows : rows_left ty input left ≡ take r.len after ++ rows_left ty input r.left
  pub asked : PieceAsked input ty r.left
  -- where a line was left, a row is put
  pub on : left.at < length input → (left.at < r.left.at) × (left.line < r.left.line)

pub record NoTypePut (buffer after : List ℕ) (r : ℕ) : Type 0 where
  pub front : FrontPut buffer after r
  pub row : take r after ≡ no_type

-- ---- within the crate

-- the bytes before the first b: all of them where there is none
unfoldable pub before : ℕ → List ℕ → List ℕ
before b [] = []
before b (x ∷ xs) = if (eqb x b) [] (x ∷ before b xs)

-- the place of the first b from a place on, or the end
pub record Found (s : List ℕ) (at b r : ℕ) : Type 0 where
  pub place : r ≡ at + length (before b (drop at s))
  pub from : at ≤ r
  pub within : r ≤ length s

-- the same of an answer: None where there is none
pub record FoundAt (s : List ℕ) (at b : ℕ) (r : std.Option ℕ) : Type 0 where
  pub found : Found s at b (std.unwrap_or r (length s))
  pub inside : (n : ℕ) → r ≡ std.Some n → n < length s

-- a decimal digit
abbrev pub decimal_digit : ℕ → Option ℕ
decimal_digit b = if (within 0x30 0x39 b) (some (b - 0x30)) none

-- more words than fit
pub record TooMany (text buffer : List ℕ) : Type 0 where
  pub words : List ℕ
  pub are : type_in text ≡ some words
  pub many : length buffer < length words

-- how many, all of which stand in the buffer; or the place of the first bad word; or that there is no room for them
abbrev pub WordsAre : (text buffer : List ℕ) → Result ℕ Reason → Type 0
WordsAre text buffer (Ok n) = (type_in text ≡ some (take n buffer)) × Counts n buffer
WordsAre text buffer (Err Reason.TooLong) = ⊥
WordsAre text buffer (Err Reason.NoLine) = ⊥
WordsAre text buffer (Err Reason.CarriageReturn) = ⊥
WordsAre text buffer (Err (Reason.BadWord place)) = bad_word 1 (parts_of text) ≡ some place
WordsAre text buffer (Err Reason.NotAdmitted) = TooMany text buffer

pub record WordsRead (text buffer : List ℕ) (r : Result ℕ Reason) : Type 0 where
  pub are : WordsAre text buffer r

-- the text of a line is of an admitted type, whose words stand at the buffer's front
pub record TypeTaken (text buffer : List ℕ) (n : ℕ) : Type 0 where
  pub counts : Counts n buffer
  pub words : type_in text ≡ some (take n buffer)
  pub admitted : is_some (type_of (take n buffer)) ≡ true

abbrev pub TypedIs : (text buffer : List ℕ) → Result ℕ Reason → Type 0
TypedIs text buffer (Ok n) = (none ≡ in_text text) × TypeTaken text buffer n
TypedIs text buffer (Err why) = some why ≡ in_text text

pub record TypedRead (text buffer : List ℕ) (r : Result ℕ Reason) : Type 0 where
  pub is : TypedIs text buffer r

abbrev pub key_is : std.Option ℕ → List ℕ → Option (List ℕ)
key_is (std.Some n) buffer = some (take n buffer)
key_is std.None buffer = none

abbrev pub key_counts : std.Option ℕ → List ℕ → Type 0
key_counts (std.Some n) buffer = Counts n buffer
key_counts std.None buffer = Unit

pub record KeyRead (text after : List ℕ) (r : std.Option ℕ) : Type 0 where
  pub is : key_is r after ≡ key_in text
  pub counts : key_counts r after

-- the row that tells an answer: the values begun, or the refusal as well
abbrev pub row_of : (place : ℕ) → Result ℕ Refused → List ℕ
row_of place (Ok begun) = row place 0 0 begun
row_of place (Err e) = row place (number_of e.why) (detail_of e.why) e.begun

-- what the row of a line with this text tells, whatever its place
pub record KeyTold (ty text : List ℕ) (r : Result ℕ Refused) : Type 0 where
  pub told : (place : ℕ) → key_row ty place (key_in text) ≡ row_of place r

-- what the row of the line at a place asks for
pub record LineAsked (input ty key : List ℕ) (at : ℕ) : Type 0 where
  pub admitted : is_some (type_of ty) ≡ true
  pub pairs : length input ≤ 2 * length key
  pub left : at < length input

pub record LineTold (ty input : List ℕ) (at : ℕ) (r : Line) : Type 0 where
  pub rows : (place : ℕ) → key_rows ty place (lines_of (drop at input)) ≡ row_of place r.told ++ key_rows ty (place + 1) (lines_of (drop r.next input))
  pub on : at < r.next
  pub within : r.next ≤ length input

-- the bytes stored from a place on, and the place behind them
pub record Put (buffer after : List ℕ) (at r : ℕ) (xs : List ℕ) : Type 0 where
  pub stored : after ≡ sets buffer at xs
  pub end : r ≡ at + length xs
  pub long : length after ≡ length buffer

-- a row; none is longer than 59 bytes
pub record RowPut (buffer after : List ℕ) (at r : ℕ) (xs : List ℕ) : Type 0 where
  pub put : Put buffer after at r xs
  pub short : length xs ≤ 59

-- a number's digits and the byte behind them
pub record NumberPut (buffer after : List ℕ) (at r n behind : ℕ) : Type 0 where
  pub put : Put buffer after at r (decimal n ++ (behind ∷ []))
  pub end : r ≡ at + length (decimal n) + 1

-- Reading integers, escaped runs and references from the front of bytes.
use Rattle.std.specs.Prelude.{ℕ, ◌+◌, ◌-◌, ◌*◌, ◌^◌, List, [], ◌∷◌, Bool, false, not, ltb, leb, eqb, length, take, drop}
use Rattle.format.specs.Answer.{if, Answer, ok, refused, UnexpectedEof, UnexpectedMark, UnexpectedTerminator, BadString, BadInteger, Overflow, Underflow, ReservedFactId}
use Rattle.format.specs.Scalar.{width, sequence_of}
use Rattle.format.specs.Utf8.{utf8}
use Rattle.format.specs.Encode.{fits_ref}

-- what was read, and the bytes behind it; or a refusal and its detail
pub data Read (A : Type 0) : Type 0 where
  got : A → List ℕ → Read A
  bad : ℕ → ℕ → Read A

-- what is read next, or the refusal kept
abbrev pub then_read : {A B : Type 0} → Read A → (A → List ℕ → Read B) → Read B
then_read (got a rest) f = f a rest
then_read (bad n d) f = bad n d

-- ---- integers: mark, enough bytes, width, range, in this order

-- the number that bytes make, high byte first
unfoldable pub number : ℕ → List ℕ → ℕ
number acc [] = acc
number acc (b ∷ bs) = number (acc * 256 + b) bs

-- the next w bytes as a number, or UnexpectedEof
unfoldable pub get_big : ℕ → List ℕ → Read ℕ
get_big w bs = if (leb w (length bs)) (got (number 0 (take w bs)) (drop w bs)) (bad UnexpectedEof 0)

-- a magnitude has the width that its mark says, or it is BadInteger
unfoldable pub width_is : ℕ → ℕ → List ℕ → Read ℕ
width_is w n rest = if (eqb (width n) w) (got n rest) (bad BadInteger 0)

-- an unsigned integer: marks 48 to 50
unfoldable pub get_uint : List ℕ → Read ℕ
get_uint [] = bad UnexpectedEof 0
get_uint (m ∷ bs) =
    if (ltb m 0x48) (bad UnexpectedMark m)
    (if (leb m 0x50) (then_read (get_big (m - 0x48) bs) (λ n rest. width_is (m - 0x48) n rest))
    (bad UnexpectedMark m))

-- the magnitude behind a negative mark
unfoldable pub get_neg : ℕ → List ℕ → Read ℕ
get_neg w bs = then_read (get_big w bs) (λ n rest. width_is w (256 ^ w - 1 - n) rest)

-- a signed integer as its word
unfoldable pub get_int : List ℕ → Read ℕ
get_int [] = bad UnexpectedEof 0
get_int (m ∷ bs) =
    if (ltb m 0x40) (bad UnexpectedMark m)
    (if (ltb m 0x48) (then_read (get_neg (0x48 - m) bs) (λ mag rest. if (leb mag (2 ^ 63)) (got (2 ^ 64 - mag) rest) (bad Underflow 0)))
    (then_read (get_uint (m ∷ bs)) (λ n rest. if (ltb n (2 ^ 63)) (got n rest) (bad Overflow 0))))

-- ---- runs

unfoldable pub starts_ff : List ℕ → Bool
starts_ff [] = false
starts_ff (b ∷ bs) = eqb b 0xFF

-- a group's end: a 00 not followed by FF
unfoldable pub ends_here : List ℕ → Bool
ends_here [] = false
ends_here (b ∷ bs) = if (eqb b 0) (not (starts_ff bs)) false

abbrev pub cons_read : ℕ → Read (List ℕ) → Read (List ℕ)
cons_read b (got s rest) = got (b ∷ s) rest
cons_read b (bad n d) = bad n d

-- a run's payload: a 00 followed by FF is a 00, a 00 not followed by FF ends the run, also as the last byte
unfoldable mutual
  pub get_run : List ℕ → Read (List ℕ)
  get_run [] = bad UnexpectedEof 0
  get_run (b ∷ bs) = let ended = after_zero bs in let onward = cons_read b (get_run bs) in if (eqb b 0) ended onward

  pub after_zero : List ℕ → Read (List ℕ)
  after_zero [] = got [] []
  after_zero (b ∷ bs) = let onward = cons_read 0 (get_run bs) in if (eqb b 0xFF) onward (got [] (b ∷ bs))

-- ---- fields behind a mark

abbrev pub marked : {A : Type 0} → ℕ → (List ℕ → Read A) → List ℕ → Read A
marked mark f [] = bad UnexpectedEof 0
marked mark f (m ∷ bs) = if (eqb m mark) (f bs) (bad UnexpectedMark m)

-- UTF-8 is judged on the payload
unfoldable pub get_str : List ℕ → Read (List ℕ)
get_str bs = marked 0x21 (λ b. then_read (get_run b) (λ s rest. if (utf8 s) (got s rest) (bad BadString 0))) bs

unfoldable pub get_bytes : List ℕ → Read (List ℕ)
get_bytes bs = marked 0x53 get_run bs

abbrev pub ref_read : ℕ → List ℕ → Answer Unit → Read ℕ
ref_read r rest (ok u) = got r rest
ref_read r rest (refused n d) = bad n d

-- a reference under its declared predicate: eight bytes behind the mark, then sequence and predicate
unfoldable pub get_ref : ℕ → List ℕ → Read ℕ
get_ref p bs = marked 0x51 (λ b. then_read (get_big 8 b) (λ r rest. ref_read r rest (fits_ref p r))) bs

-- a reference where no type is at hand: only its sequence is checked
unfoldable pub get_fact_id : List ℕ → Read ℕ
get_fact_id bs = marked 0x51 (λ b. then_read (get_big 8 b) (λ r rest. if (eqb (sequence_of r) 0) (bad ReservedFactId 0) (got r rest))) bs

-- ---- nulls

-- a null behind its 00: inside a group FF follows, or it is UnexpectedTerminator
abbrev pub null_at : ℕ → List ℕ → Read Unit
null_at depth [] = bad UnexpectedEof 0
null_at depth (b ∷ bs) =
    if (eqb b 0) (if (ltb 0 depth) (if (starts_ff bs) (got tt (drop 1 bs)) (bad UnexpectedTerminator 0)) (got tt bs)) (bad UnexpectedMark b)

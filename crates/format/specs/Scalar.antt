-- Integers, escaped runs, references and union tags as bytes.
use Rattle.std.specs.Prelude.{ℕ, zero, suc, ◌+◌, ◌-◌, ◌/◌, ◌%◌, ◌^◌, List, [], ◌∷◌, ◌++◌, ltb, eqb}
use Rattle.std.specs.Int.Count.{count_leading_zeros}
use Rattle.format.specs.Answer.{if}

-- the low k bytes of n, high byte first
unfoldable pub be : ℕ → ℕ → List ℕ
be zero n = []
be (suc k) n = be k (n / 256) ++ (n % 256) ∷ []

-- the width of a magnitude: 8 less its leading zero bits divided by 8, that quotient rounded down
unfoldable pub width : ℕ → ℕ
width n = 8 - count_leading_zeros 64 n / 8

-- an unsigned integer: the mark 48 + width, and its low bytes; zero is 48 alone
unfoldable pub uint_bytes : ℕ → List ℕ
uint_bytes n = (0x48 + width n) ∷ be (width n) n

-- the magnitude of a negative word
abbrev pub magnitude : ℕ → ℕ
magnitude w = 2 ^ 64 - w

-- a negative integer: the mark 48 - width, and the low bytes of the complemented magnitude
unfoldable pub neg_bytes : ℕ → List ℕ
neg_bytes m = (0x48 - width m) ∷ be (width m) (2 ^ 64 - 1 - m)

-- a signed integer, given as its word: from 2^63 up it means w - 2^64
unfoldable pub int_bytes : ℕ → List ℕ
int_bytes w = if (ltb w (2 ^ 63)) (uint_bytes w) (neg_bytes (magnitude w))

-- a run: each 00 as 00 FF, then 00
unfoldable pub escaped : List ℕ → List ℕ
escaped [] = 0 ∷ []
escaped (b ∷ bs) = if (eqb b 0) (0 ∷ 0xFF ∷ escaped bs) (b ∷ escaped bs)

-- the beginning of a run, before its end: each 00 as 00 FF
unfoldable pub run_start : List ℕ → List ℕ
run_start [] = []
run_start (b ∷ bs) = if (eqb b 0) (0 ∷ 0xFF ∷ run_start bs) (b ∷ run_start bs)

-- Str is 21 and a run
abbrev pub str_bytes : List ℕ → List ℕ
str_bytes s = 0x21 ∷ escaped s

-- Bytes is 53 and a run
abbrev pub bytes_bytes : List ℕ → List ℕ
bytes_bytes s = 0x53 ∷ escaped s

-- a reference is 51 and eight bytes, high first
abbrev pub ref_bytes : ℕ → List ℕ
ref_bytes r = 0x51 ∷ be 8 r

-- the split of a reference: how many of its 64 bits, the low ones, are the sequence; the others are the predicate
abbrev pub sequence_bits : ℕ
sequence_bits = 40

abbrev pub predicate_of : ℕ → ℕ
predicate_of r = r / 2 ^ sequence_bits

abbrev pub sequence_of : ℕ → ℕ
sequence_of r = r % 2 ^ sequence_bits

-- a union's tag: 52 and the discriminant as an unsigned integer
unfoldable pub tag_bytes : ℕ → List ℕ
tag_bytes d = 0x52 ∷ uint_bytes d

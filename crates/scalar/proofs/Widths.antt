-- Widths, and how many bytes integers have.
use Rattle.std.proofs.Common.{◌≡◌, ℕ, zero, suc, ◌+◌, ◌-◌, ◌/◌, ◌%◌, ◌^◌, ◌<◌, ◌≤◌, ltb, List, [], ◌∷◌, length, set, sym, refl, ap, ◌∙◌, append-nil, add-one, arith, length-append, ltb-false, ltb-true, le-ltb, lt-ltb}
use lib.Count.{leading_of_zero}
use Rattle.format.specs.Scalar.{be, width, magnitude, uint_bytes, neg_bytes, int_bytes, ref_bytes, tag_bytes}
use Rattle.format.specs.Fields.{put}
use Rattle.format.proofs.ScalarLaws.{wide}
use Rattle.scalar.proofs.Cases.{by_test}
use Rattle.blocks.proofs.Put.{put_snoc, length_put}
use Rattle.scalar.specs.Answers.{TagIn}
use Rattle.scalar.proofs.Parts.{take_put}

pub length_be : (k n : ℕ) → length (be k n) ≡ k
unfolding be
length_be zero n = refl
length_be (suc k) n = length-append (be k (n / 256)) _ ∙ add-one _ ∙ ap suc (length_be k (n / 256))

-- a store of the lowest byte, before those above it
pub put_be_step : (d : List ℕ) (at j n : ℕ) → 0 < j → at + j ≤ length d → put (set d (at + (j - 1)) (n % 256)) at (be (j - 1) (n / 256)) ≡ put d at (be j n)
unfolding be
put_be_step d at zero n p h = absurd (omega arith)
put_be_step d at (suc i) n p h =
    let e : suc i - 1 ≡ i = omega arith in
    let l : length (be i (n / 256)) ≡ i = length_be i (n / 256) in
    rw (e, l) (rw l at (put_snoc d at (be i (n / 256)) (n % 256) (omega arith)))

pub be_none : (n : ℕ) → be 0 n ≡ []
unfolding be
be_none n = refl

pub width_le : (n : ℕ) → width n ≤ 8
unfolding width
width_le n = omega arith

-- a number has no more bytes than it needs
pub width_lt : (w n : ℕ) → n < 2 ^ 64 → n < 256 ^ w → width n ≤ w
width_lt w n h l =
    by_test (ltb w (width n)) (λ t. absurd (omega (arith, (wide n h).filled w (ltb-true w (width n) t)))) (λ t. ltb-false w (width n) t)

-- zero has no bytes
pub width_some : (n : ℕ) → 0 < width n → 0 < n
unfolding width
width_some zero h = absurd (omega (arith, leading_of_zero 64))
width_some (suc n) h = omega arith

pub length_uint : (n : ℕ) → length (uint_bytes n) ≡ width n + 1
unfolding uint_bytes
length_uint n = omega (arith, length_be (width n) n)

pub length_neg : (m : ℕ) → length (neg_bytes m) ≡ width m + 1
unfolding neg_bytes
length_neg m = omega (arith, length_be (width m) (2 ^ 64 - 1 - m))

-- the bytes of a word by its sign
pub int_pos : {w : ℕ} → w < 2 ^ 63 → int_bytes w ≡ uint_bytes w
unfolding int_bytes
int_pos h = rw (lt-ltb _ _ h)

pub int_neg : {w : ℕ} → 2 ^ 63 ≤ w → int_bytes w ≡ neg_bytes (magnitude w)
unfolding int_bytes
int_neg h = rw (le-ltb _ _ h)

-- a negative integer has as many bytes as its magnitude
pub length_int_neg : {w : ℕ} → 2 ^ 63 ≤ w → length (int_bytes w) ≡ length (uint_bytes (magnitude w))
length_int_neg {w} h = ap length (int_neg h) ∙ length_neg (magnitude w) ∙ sym (length_uint (magnitude w))

-- an integer has 1 to 9 bytes
pub uint_long : (n : ℕ) → (1 ≤ length (uint_bytes n)) × (length (uint_bytes n) ≤ 9)
uint_long n = let l = length_uint n in let w = width_le n in (omega arith, omega arith)

pub int_long : (w : ℕ) → (1 ≤ length (int_bytes w)) × (length (int_bytes w) ≤ 9)
int_long w =
    by_test (ltb w (2 ^ 63)) (λ t. rw (int_pos (ltb-true w (2 ^ 63) t)) (uint_long w))
    (λ t. rw (length_int_neg (ltb-false w (2 ^ 63) t)) (uint_long (magnitude w)))

-- a reference has nine bytes, a union's tag at most six
pub ref_long : (r : ℕ) → length (ref_bytes r) ≡ 9
ref_long r = omega (arith, length_be 8 r)

-- a reference put over nine bytes is all of them
pub ref_over : (r : ℕ) → put (0 ∷ 0 ∷ 0 ∷ 0 ∷ 0 ∷ 0 ∷ 0 ∷ 0 ∷ 0 ∷ []) 0 (ref_bytes r) ≡ ref_bytes r
ref_over r = let n : 0 + length (ref_bytes r) ≡ 9 = omega (arith, ref_long r) in rw n (append-nil (ref_bytes r))

pub tag_long : (d : ℕ) → d < 2 ^ 32 → length (tag_bytes d) ≤ 6
unfolding tag_bytes
tag_long d h = omega (arith, length_uint d, width_lt 4 d (omega arith) (omega arith))

-- a union's mark in front of six bytes, and the discriminant put behind it
pub tag_in : (d n : ℕ) → n ≡ d → d < 2 ^ 32 → {len : ℕ} {bytes : List ℕ}
    → (len ≡ 1 + length (uint_bytes n)) × (bytes ≡ put (0x52 ∷ 0 ∷ 0 ∷ 0 ∷ 0 ∷ 0 ∷ []) 1 (uint_bytes n)) → TagIn d bytes len
unfolding tag_bytes
tag_in d n e h w =
    let six : List ℕ = 0x52 ∷ 0 ∷ 0 ∷ 0 ∷ 0 ∷ 0 ∷ [] in
    let l = tag_long d h in
    let k = length_put six 1 (uint_bytes d) (omega arith) in
    rw (w.0, w.1, e) (record { front = take_put six 1 (uint_bytes d) (omega arith); long = omega arith; within = omega arith })

-- The number that bytes make, byte by byte.
use Rattle.std.proofs.Common.{◌≡◌, ℕ, zero, suc, ◌+◌, ◌-◌, ◌*◌, ◌/◌, ◌^◌, ◌<◌, ◌≤◌, List, [], ◌∷◌, ◌++◌, length, get_or, take, sym, refl, ap, ◌∙◌, lt_of_lt_of_le, suc-mul, pow-suc, add-one, arith, take-suc, pow_mono, pow-add}
use lib.Pow.{ones_split, ones_lt, high}
use Rattle.format.specs.Read.{number}

pub pow_256 : (k : ℕ) → 256 ^ k ≡ 2 ^ (k * 8)
pow_256 zero = refl
pow_256 (suc k) = pow-suc 256 k ∙ ap (λ (x : ℕ). x * 256) (pow_256 k) ∙ sym (ap (λ (x : ℕ). 2 ^ x) (suc-mul k 8) ∙ pow-add 2 (k * 8) 8)

-- one byte more
pub number_snoc : (a : ℕ) (s : List ℕ) (b : ℕ) → number a (s ++ (b ∷ [])) ≡ number a s * 256 + b
unfolding number
number_snoc a [] b = refl
number_snoc a (x ∷ s) b = number_snoc (a * 256 + x) s b

pub number_take_suc : (a : ℕ) (s : List ℕ) (i : ℕ) → i < length s → number a (take (i + 1) s) ≡ number a (take i s) * 256 + get_or s i 0
number_take_suc a s i h = rw (add-one, take-suc s i 0 h) (number_snoc a (take i s) (get_or s i 0))

pub below_suc : (n i b : ℕ) → n < 256 ^ i → b < 256 → n * 256 + b < 256 ^ (i + 1)
below_suc n i b h g = rw (add-one, pow-suc 256 i) (omega arith)

-- with room for one byte more below 2^64
pub below_56 : (n i : ℕ) → n < 256 ^ i → i < 8 → n < 2 ^ 56
below_56 n i h g = lt_of_lt_of_le (rw (pow_256 i) at h) (pow_mono {i = i * 8} {j = 56} (omega arith))

-- the ones of w bytes are those of a word, shifted
pub ones_shift : (w : ℕ) → w ≤ 8 → (2 ^ 64 - 1) / 2 ^ (64 - 8 * w) ≡ 256 ^ w - 1
ones_shift w h =
    let k : w * 8 + (64 - 8 * w) ≡ 64 = omega arith in
    rw (pow_256 w)
    (ap (λ (x : ℕ). x / 2 ^ (64 - 8 * w)) (ap (λ (x : ℕ). 2 ^ x - 1) (sym k) ∙ ones_split (w * 8) (64 - 8 * w))
    ∙ high (2 ^ (w * 8) - 1) (64 - 8 * w) (ones_lt (64 - 8 * w)))

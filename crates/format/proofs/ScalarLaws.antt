-- Integers, references and runs keep their order as bytes.
use mathlib.Core.Path.{◌≡◌, refl, sym, ap, ◌∙◌, subst}
use mathlib.Core.Bool.{Bool, true, false}
use mathlib.Core.Logic.{◌≢◌}
use mathlib.Core.List.{List, [], ◌∷◌, ◌++◌, append_assoc}
use Prim.Native.Nat.{Ordering}
use Prim.Native.Nat.{ℕ, zero, suc, ◌+◌, ◌-◌, ◌*◌, ◌/◌, ◌%◌, ◌^◌, ◌≤◌, ◌<◌, compare}
use native.Mathlib.Nat.{pow-suc, suc-mul, one-le-pow, le_trans}
use native.Mathlib.Omega.{arith}
use lib.Dec.{ltb, eqb, lit<}
use lib.Count.{count_leading_zeros, leading_length}
use lib.Pow.{pow_mono, pow-add}
use Rattle.format.specs.Answer.{if}
use Rattle.format.specs.Scalar.{be, width, uint_bytes, neg_bytes, int_bytes, magnitude, escaped}
use Rattle.format.specs.Order.{then, cmp_bytes, offset}
use Rattle.format.proofs.CompareLaws.{less, more, alike, Tri, lower, equal, higher, tri, flip, then_assoc, cmp_bytes_flip}
use Rattle.format.proofs.Tests.{Test, holds, fails, ltb_test, eqb_test}

-- ---- digits

digits : (m n : ℕ) → compare m n ≡ then (compare (m / 256) (n / 256)) (compare (m % 256) (n % 256))
digits m n = go (tri (m / 256) (n / 256)) (tri (m % 256) (n % 256))
  where
    go : Tri (m / 256) (n / 256) → Tri (m % 256) (n % 256) → compare m n ≡ then (compare (m / 256) (n / 256)) (compare (m % 256) (n % 256))
    go (lower h) t = rw (less h) (less (omega arith))
    go (higher h) t = rw (more h) (more (omega arith))
    go (equal e) (lower h) = rw (e, alike (n / 256), less h) (less (omega arith))
    go (equal e) (equal f) = let g : m ≡ n = omega arith in rw (g, alike n, alike (n / 256), alike (n % 256))
    go (equal e) (higher h) = rw (e, alike (n / 256), more h) (more (omega arith))

pub be_order : (k m n : ℕ) → m < 256 ^ k → n < 256 ^ k → (r s : List ℕ) → cmp_bytes (be k m ++ r) (be k n ++ s) ≡ then (compare m n) (cmp_bytes r s)
unfolding be cmp_bytes
be_order zero m n hm hn r s = let e : m ≡ n = omega arith in rw (e, alike n)
be_order (suc k) m n hm hn r s =
    rw (append_assoc (be k (m / 256)), append_assoc (be k (n / 256)), be_order k (m / 256) (n / 256) (omega (arith, pow-suc 256 k)) (omega (arith, pow-suc 256 k)) (m % 256 ∷ r) (n % 256 ∷ s), digits m n, then_assoc)

-- ---- widths

-- w is the number of base-256 digits of n, at most 8
pub record Wide (n w : ℕ) : Type 0 where
  pub above : n < 256 ^ w
  pub most : w ≤ 8
  pub filled : (j : ℕ) → j < w → 256 ^ j ≤ n

pow_256 : (k : ℕ) → 256 ^ k ≡ 2 ^ (k * 8)
pow_256 zero = refl
pow_256 (suc k) = pow-suc 256 k ∙ ap (λ (x : ℕ). x * 256) (pow_256 k) ∙ sym (ap (λ (x : ℕ). 2 ^ x) (suc-mul k 8) ∙ pow-add 2 (k * 8) 8)

pub wide : (n : ℕ) → n < 2 ^ 64 → Wide n (width n)
unfolding width
wide n h =
    let s = leading_length 64 n h in
    let e : count_leading_zeros 64 n + s.0 ≡ 64 = s.1 in
    record {
      above = rw (pow_256 (8 - count_leading_zeros 64 n / 8)) (le_trans s.2 (pow_mono (omega arith)));
      most = omega arith;
      filled = λ j p. rw (pow_256 j) (omega (arith, le_trans (pow_mono {i = suc (j * 8)} {j = s.0} (omega arith)) s.3, pow-suc 2 (j * 8)));
    }

width_lt : (m n : ℕ) → m < 2 ^ 64 → n < 2 ^ 64 → width m < width n → m < n
width_lt m n hm hn h = le_trans (wide m hm).above ((wide n hn).filled (width m) h)

pub width_pos : (n : ℕ) → 0 < n → n < 2 ^ 64 → 0 < width n
width_pos n p h = go (width n) (wide n h).above
  where
    go : (w : ℕ) → n < 256 ^ w → 0 < w
    go zero l = omega arith
    go (suc w) l = omega arith

-- ---- complemented magnitudes

-- the low bytes do not see what stands above them
be_low : (k q n : ℕ) → be k (q * 256 ^ k + n) ≡ be k n
unfolding be
be_low zero q n = refl
be_low (suc k) q n =
    let p : 256 ^ suc k ≡ 256 ^ k * 256 = pow-suc 256 k in
    let e : (q * (256 ^ k * 256) + n) / 256 ≡ q * 256 ^ k + n / 256 = omega arith in
    let f : (q * (256 ^ k * 256) + n) % 256 ≡ n % 256 = omega arith in
    rw (p, e, f, be_low k q (n / 256))

-- so the complement may be taken in the width's own digits
pub neg_low : (w m : ℕ) → w ≤ 8 → m < 256 ^ w → be w (2 ^ 64 - 1 - m) ≡ be w (256 ^ w - 1 - m)
neg_low w m l h =
    let k : 8 - w + w ≡ 8 = omega arith in
    let p : 256 ^ (8 - w) * 256 ^ w ≡ 2 ^ 64 = sym (pow-add 256 (8 - w) w) ∙ ap (λ (x : ℕ). 256 ^ x) k in
    let one : 1 ≤ 256 ^ (8 - w) = one-le-pow (8 - w) 256 (lit< tt) in
    let q : suc (256 ^ (8 - w) - 1) ≡ 256 ^ (8 - w) = omega arith in
    let f : (256 ^ (8 - w) - 1) * 256 ^ w + 256 ^ w ≡ 2 ^ 64 = sym (suc-mul (256 ^ (8 - w) - 1) (256 ^ w)) ∙ ap (λ (x : ℕ). x * 256 ^ w) q ∙ p in
    let e : 2 ^ 64 - 1 - m ≡ (256 ^ (8 - w) - 1) * 256 ^ w + (256 ^ w - 1 - m) = omega arith in
    rw e (be_low w (256 ^ (8 - w) - 1) (256 ^ w - 1 - m))

-- ---- integers

-- two comparisons that go the same way
same_way : (m n p q : ℕ) → (m < n → p < q) → (m ≡ n → p ≡ q) → (n < m → q < p) → compare m n ≡ compare p q
same_way m n p q l e g = go (tri m n)
  where
    go : Tri m n → compare m n ≡ compare p q
    go (lower h) = rw (less h) (sym (less (l h)))
    go (equal h) = rw (h, e h, alike n) (sym (alike q))
    go (higher h) = rw (more h) (sym (more (g h)))

pub uint_order : (m n : ℕ) → m < 2 ^ 64 → n < 2 ^ 64 → (r s : List ℕ)
    → cmp_bytes (uint_bytes m ++ r) (uint_bytes n ++ s) ≡ then (compare m n) (cmp_bytes r s)
unfolding uint_bytes cmp_bytes
uint_order m n hm hn r s = go (tri (width m) (width n))
  where
    go : Tri (width m) (width n) → cmp_bytes (uint_bytes m ++ r) (uint_bytes n ++ s) ≡ then (compare m n) (cmp_bytes r s)
    go (lower h) = rw (less {m = 0x48 + width m} {n = 0x48 + width n} (omega arith), less (width_lt m n hm hn h))
    go (equal e) = rw (e, alike (0x48 + width n)) (be_order (width n) m n (subst (λ (w : ℕ). m < 256 ^ w) e (wide m hm).above) (wide n hn).above r s)
    go (higher h) = rw (more {m = 0x48 + width m} {n = 0x48 + width n} (omega arith), more (width_lt n m hn hm h))

pub neg_order : (m n : ℕ) → m < 2 ^ 64 → n < 2 ^ 64 → (r s : List ℕ)
    → cmp_bytes (neg_bytes m ++ r) (neg_bytes n ++ s) ≡ then (compare n m) (cmp_bytes r s)
unfolding neg_bytes cmp_bytes
neg_order m n hm hn r s = go (tri (width m) (width n))
  where
    go : Tri (width m) (width n) → cmp_bytes (neg_bytes m ++ r) (neg_bytes n ++ s) ≡ then (compare n m) (cmp_bytes r s)
    go (lower h) = rw (more {m = 0x48 - width m} {n = 0x48 - width n} (omega (arith, (wide n hn).most)), more (width_lt m n hm hn h))
    go (equal e) =
        let l : m < 256 ^ width n = subst (λ (w : ℕ). m < 256 ^ w) e (wide m hm).above in
        let l₂ : n < 256 ^ width n = (wide n hn).above in
        rw (e, alike (0x48 - width n), neg_low (width n) m (wide n hn).most l, neg_low (width n) n (wide n hn).most l₂, same_way n m (256 ^ width n - 1 - m) (256 ^ width n - 1 - n) (λ p. omega arith) (λ p. omega arith) (λ p. omega arith))
        (be_order (width n) (256 ^ width n - 1 - m) (256 ^ width n - 1 - n) (omega arith) (omega arith) r s)
    go (higher h) = rw (less {m = 0x48 - width m} {n = 0x48 - width n} (omega (arith, (wide m hm).most)), less (width_lt n m hn hm h))

neg_uint : (m n : ℕ) → 0 < m → m < 2 ^ 64 → (r s : List ℕ) → cmp_bytes (neg_bytes m ++ r) (uint_bytes n ++ s) ≡ Ordering.lt
unfolding neg_bytes uint_bytes cmp_bytes
neg_uint m n p h r s = rw (less {m = 0x48 - width m} {n = 0x48 + width n} (omega (arith, width_pos m p h)))

uint_neg : (m n : ℕ) → 0 < n → n < 2 ^ 64 → (r s : List ℕ) → cmp_bytes (uint_bytes m ++ r) (neg_bytes n ++ s) ≡ Ordering.gt
uint_neg m n p h r s = rw (cmp_bytes_flip (neg_bytes n ++ s) (uint_bytes m ++ r), neg_uint n m p h s r)

pub int_order : (w v : ℕ) → w < 2 ^ 64 → v < 2 ^ 64 → (r s : List ℕ)
    → cmp_bytes (int_bytes w ++ r) (int_bytes v ++ s) ≡ then (compare (offset w) (offset v)) (cmp_bytes r s)
unfolding int_bytes
int_order w v hw hv r s = go (ltb w (2 ^ 63)) (ltb v (2 ^ 63)) (ltb_test w (2 ^ 63)) (ltb_test v (2 ^ 63))
  where
    go : (b c : Bool) → Test (w < 2 ^ 63) (2 ^ 63 ≤ w) b → Test (v < 2 ^ 63) (2 ^ 63 ≤ v) c
        → cmp_bytes (if b (uint_bytes w) (neg_bytes (magnitude w)) ++ r) (if c (uint_bytes v) (neg_bytes (magnitude v)) ++ s) ≡ then (compare (offset w) (offset v)) (cmp_bytes r s)
    go _ _ (holds p) (holds q) = rw (same_way (offset w) (offset v) w v (λ h. omega arith) (λ h. omega arith) (λ h. omega arith)) (uint_order w v hw hv r s)
    go _ _ (holds p) (fails q) = rw (more {m = offset w} {n = offset v} (omega arith)) (uint_neg w (magnitude v) (omega arith) (omega arith) r s)
    go _ _ (fails p) (holds q) = rw (less {m = offset w} {n = offset v} (omega arith)) (neg_uint (magnitude w) v (omega arith) (omega arith) r s)
    go _ _ (fails p) (fails q) =
        rw (same_way (offset w) (offset v) (magnitude v) (magnitude w) (λ h. omega arith) (λ h. omega arith) (λ h. omega arith))
        (neg_order (magnitude w) (magnitude v) (omega arith) (omega arith) r s)

-- ---- runs

-- what may follow a run: below every FF that has a byte behind it
unfoldable pub Low : List ℕ → Type 0
Low r = (c : ℕ) (z : List ℕ) → cmp_bytes r (0xFF ∷ c ∷ z) ≡ Ordering.lt

pub low_cons : {m : ℕ} (r : List ℕ) → m < 0xFF → Low (m ∷ r)
unfolding Low cmp_bytes
low_cons r h c z = rw (less h)

pub low_nil : Low []
unfolding Low cmp_bytes
low_nil c z = refl

-- FF alone may follow a field too: it is the upper bound's end
pub low_end : Low (0xFF ∷ [])
unfolding Low cmp_bytes
low_end c z = refl

-- what an escaped run begins with
escaped_cons : (s r : List ℕ) → (c : ℕ) × (z : List ℕ) × (escaped s ++ r ≡ c ∷ z)
unfolding escaped
escaped_cons [] r = (0, r, refl)
escaped_cons (b ∷ s) r = go (eqb b 0)
  where
    go : (t : Bool) → (c : ℕ) × (z : List ℕ) × (if t (0 ∷ 0xFF ∷ escaped s) (b ∷ escaped s) ++ r ≡ c ∷ z)
    go true = (0, 0xFF ∷ (escaped s ++ r), refl)
    go false = (b, escaped s ++ r, refl)

-- the empty run comes first
run_first : (b : ℕ) (t r u : List ℕ) → Low r → cmp_bytes (0 ∷ r) (escaped (b ∷ t) ++ u) ≡ Ordering.lt
unfolding escaped cmp_bytes Low
run_first b t r u low = go (eqb b 0) (eqb_test b 0)
  where
    go : (c : Bool) → Test (b ≡ 0) (b ≢ 0) c → cmp_bytes (0 ∷ r) (if c (0 ∷ 0xFF ∷ escaped t) (b ∷ escaped t) ++ u) ≡ Ordering.lt
    go _ (holds e) = let h = escaped_cons t u in rw h.2 (low h.0 h.1)
    go _ (fails e) = rw (less {m = 0} {n = b} (omega arith))

pub run_order : (s t r u : List ℕ) → Low r → Low u → cmp_bytes (escaped s ++ r) (escaped t ++ u) ≡ then (cmp_bytes s t) (cmp_bytes r u)
unfolding escaped cmp_bytes
run_order [] [] r u lr lu = refl
run_order [] (b ∷ t) r u lr lu = run_first b t r u lr
run_order (a ∷ s) [] r u lr lu = cmp_bytes_flip (0 ∷ u) (escaped (a ∷ s) ++ r) ∙ ap flip (run_first a s u r lu)
run_order (a ∷ s) (b ∷ t) r u lr lu = go (eqb a 0) (eqb b 0) (eqb_test a 0) (eqb_test b 0) (run_order s t r u lr lu)
  where
    go : (c d : Bool) → Test (a ≡ 0) (a ≢ 0) c → Test (b ≡ 0) (b ≢ 0) d
        → cmp_bytes (escaped s ++ r) (escaped t ++ u) ≡ then (cmp_bytes s t) (cmp_bytes r u)
        → cmp_bytes (if c (0 ∷ 0xFF ∷ escaped s) (a ∷ escaped s) ++ r) (if d (0 ∷ 0xFF ∷ escaped t) (b ∷ escaped t) ++ u) ≡ then (then (compare a b) (cmp_bytes s t)) (cmp_bytes r u)
    go _ _ (holds p) (holds q) ih = rw (p, q) ih
    go _ _ (holds p) (fails q) ih = rw (p, less {m = 0} {n = b} (omega arith))
    go _ _ (fails p) (holds q) ih = rw (q, more {m = a} {n = 0} (omega arith))
    go _ _ (fails p) (fails q) ih = rw (ih, then_assoc)

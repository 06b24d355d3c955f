-- Laws of decimal digits, and of putting them into a buffer.
use mathlib.Core.Path.{◌≡◌, refl, sym, ap, subst, ◌∙◌}
use mathlib.Core.Bool.{Bool, true, false}
use mathlib.Core.List.{List, [], ◌∷◌, ◌++◌}
use Prim.Native.Nat.{ℕ, zero, suc, ◌+◌, ◌/◌, ◌%◌, ◌^◌, ◌≤◌, ◌<◌}
use native.Mathlib.Omega.{arith}
use native.Mathlib.Nat.{div-lt_self, div-lt_iff_lt-mul, mod-lt, pow-suc}
use borrow.Author.Tests.{lt-ltb, le-ltb}
use lib.Dec.{ltb, lit<}
use lib.ListN.{length, set, length-set, length-append}
use lib.Seq.{sets}
use Rattle.format.specs.Answer.{if}
use Rattle.format.specs.Keylist.{digits, decimal}
use Rattle.format.proofs.Tests.{Test, holds, fails, ltb_test}
use Rattle.keylines.specs.Answers.{Put}

-- ---- digits

tenth : (n : ℕ) → 10 ≤ n → n / 10 < n
tenth n h = div-lt_self (omega arith) (lit< tt)

-- more turns than digits change nothing
same_digits : (k m n : ℕ) → n ≤ k → n ≤ m → digits k n ≡ digits m n
unfolding digits
same_digits zero zero n h l = refl
same_digits zero (suc m) n h l = rw (lt-ltb n 10 (omega arith))
same_digits (suc k) zero n h l = rw (lt-ltb n 10 (omega arith))
same_digits (suc k) (suc m) n h l = go (ltb n 10) (ltb_test n 10) (λ a b. same_digits k m (n / 10) a b)
  where
    go : (t : Bool) → Test (n < 10) (10 ≤ n) t → (n / 10 ≤ k → n / 10 ≤ m → digits k (n / 10) ≡ digits m (n / 10))
        → if t ((0x30 + n) ∷ []) (digits k (n / 10) ++ (0x30 + n % 10) ∷ []) ≡ if t ((0x30 + n) ∷ []) (digits m (n / 10) ++ (0x30 + n % 10) ∷ [])
    go true (holds q) ih = refl
    go false (fails q) ih = ap (λ (l : List ℕ). l ++ (0x30 + n % 10) ∷ []) (ih (omega (arith, tenth n q)) (omega (arith, tenth n q)))

pub decimal_one : (n : ℕ) → n < 10 → decimal n ≡ (48 + n) ∷ []
unfolding decimal digits
decimal_one zero h = refl
decimal_one (suc k) h = rw (lt-ltb (suc k) 10 h)

pub decimal_more : (n : ℕ) → 10 ≤ n → decimal n ≡ decimal (n / 10) ++ (48 + n % 10) ∷ []
unfolding decimal digits
decimal_more zero h = absurd (omega arith)
decimal_more (suc k) h =
    rw (le-ltb (suc k) 10 h) (ap (λ (l : List ℕ). l ++ (48 + suc k % 10) ∷ []) (same_digits k (suc k / 10) (suc k / 10) (omega (arith, tenth (suc k) h)) (omega arith)))

-- a number below a power of ten has no more digits
pub decimal_short : (d n : ℕ) → n < 10 ^ suc d → length (decimal n) ≤ suc d
decimal_short zero n h = omega (arith, ap length (decimal_one n h))
decimal_short (suc d) n h = go (ltb n 10) (ltb_test n 10) (λ k. decimal_short d (n / 10) k)
  where
    go : (t : Bool) → Test (n < 10) (10 ≤ n) t → (n / 10 < 10 ^ suc d → length (decimal (n / 10)) ≤ suc d) → length (decimal n) ≤ suc (suc d)
    go true (holds q) ih = omega (arith, ap length (decimal_one n q))
    go false (fails q) ih =
        let less : n / 10 < 10 ^ suc d = (div-lt_iff_lt-mul {k = 10} {x = n} {y = 10 ^ suc d} (lit< tt)).1 (subst (λ (m : ℕ). n < m) (pow-suc 10 (suc d)) h) in
        omega (arith, ih less, ap length (decimal_more n q), length-append (decimal (n / 10)) ((48 + n % 10) ∷ []))

-- ---- stores

pub sets_append : (l : List ℕ) (i : ℕ) (xs ys : List ℕ) → sets (sets l i xs) (i + length xs) ys ≡ sets l i (xs ++ ys)
sets_append l i [] ys = ap (λ (k : ℕ). sets l k ys) (omega arith)
sets_append l i (x ∷ xs) ys =
    let e : i + suc (length xs) ≡ suc i + length xs = omega arith in
    ap (λ (k : ℕ). sets (sets (set l i x) (suc i) xs) k ys) e ∙ sets_append (set l i x) (suc i) xs ys

-- one byte
pub put_byte : (l : List ℕ) (at x : ℕ) → Put l (set l at x) at (at + 1) (x ∷ [])
put_byte l at x = record { stored = refl; end = refl; long = length-set l at x }

-- bytes, and then others behind them
pub put_both : {l m k : List ℕ} {at i j : ℕ} {xs ys : List ℕ} → Put l m at i xs → Put m k i j ys → Put l k at j (xs ++ ys)
put_both {l} {m} {k} {at} {i} {j} {xs} {ys} p q =
    record {
      stored = q.stored ∙ (λ t. sets (p.stored t) (p.end t) ys) ∙ sets_append l at xs ys;
      end = omega (arith, p.end, q.end, length-append xs ys);
      long = q.long ∙ p.long;
    }

-- what is put is what is due
pub put_is : {l m : List ℕ} {at r : ℕ} {xs ys : List ℕ} → xs ≡ ys → Put l m at r xs → Put l m at r ys
put_is {l} {m} {at} {r} e p = subst (Put l m at r) e p

-- ---- a number

pub put_one : {out : List ℕ} {at n x : ℕ} → n < 10 → x ≡ n → Put out (set out at (48 + x)) at (at + 1) (decimal n)
put_one {out} {at} {n} {x} h e = put_is (ap (λ (y : ℕ). (48 + y) ∷ []) e ∙ sym (decimal_one n h)) (put_byte out at (48 + x))

pub put_more : {out mid : List ℕ} {at end n x : ℕ} → 10 ≤ n → Put out mid at end (decimal (n / 10)) → x ≡ n % 10 → Put out (set mid end (48 + x)) at (end + 1) (decimal n)
put_more {out} {mid} {at} {end} {n} {x} h p e =
    put_is (ap (λ (y : ℕ). decimal (n / 10) ++ (48 + y) ∷ []) e ∙ sym (decimal_more n h)) (put_both p (put_byte mid end (48 + x)))

-- its room
pub room_one : (n : ℕ) → n < 10 → length (decimal n) ≡ 1
room_one n h = ap length (decimal_one n h)

pub room_more : (n : ℕ) → 10 ≤ n → length (decimal n) ≡ length (decimal (n / 10)) + 1
room_more n h = ap length (decimal_more n h) ∙ length-append (decimal (n / 10)) ((48 + n % 10) ∷ [])

pub digit_low : (n : ℕ) → n % 10 < 10
digit_low n = mod-lt n (lit< tt)

pub tenth_less : (n : ℕ) → 10 ≤ n → n / 10 < n
tenth_less n h = tenth n h

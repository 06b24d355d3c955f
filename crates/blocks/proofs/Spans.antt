-- What holds of each place between two, and the parts of a list that they bound.
use mathlib.Core.Path.{◌≡◌, sym, ap, subst, ◌∙◌}
use mathlib.Core.List.{List, ◌++◌}
use mathlib.Core.Bool.{Bool}
use Prim.Native.Nat.{ℕ, ◌+◌, ◌-◌, ◌≤◌, ◌<◌}
use native.Mathlib.Omega.{arith}
use lib.Bits.{bit_or, or_add_and, and_le_l, and_le_r}
use lib.ListN.{length, get_or, take, drop, take-append-drop, length-take, length-drop}
use lib.Seq.{slice, length-slice, get_or-drop, get_or-take, drop-append-le, length-take-le, take-take}
use Rattle.std.proofs.lemmas.List.{drop-take}
use Rattle.format.proofs.Tests.{Test, holds, fails, ltb_test}

module _ (P : ℕ → Type 0) where
  pub span_none : (i : ℕ) (k : ℕ) → i ≤ k → k < i + 0 → P k
  span_none i k a b = absurd (omega arith)

  pub span_join : (i m e : ℕ) → ((k : ℕ) → i ≤ k → k < m → P k) → ((k : ℕ) → m ≤ k → k < e → P k) → (k : ℕ) → i ≤ k → k < e → P k
  span_join i m e f g k a b = go (ltb_test k m)
    where
      go : {t : Bool} → Test (k < m) (m ≤ k) t → P k
      go (holds h) = f k a h
      go (fails h) = g k h b

  pub span_one : (i e : ℕ) → ((k : ℕ) → i ≤ k → k < e → P k) → P e → (k : ℕ) → i ≤ k → k < e + 1 → P k
  span_one i e h p = span_join i e (e + 1) h (λ k a b. let q : e ≡ k = omega arith in subst P q p)

-- a bound of a bitwise or bounds both
pub or_below : (a b m : ℕ) → bit_or a b < m → (a < m) × (b < m)
or_below a b m h =
    let s = or_add_and a b in
    let l = and_le_l a b in
    let r = and_le_r a b in
    (omega arith, omega arith)

module _ (s : List ℕ) where
  pub drop_split : (i z : ℕ) → i ≤ z → z ≤ length s → drop i s ≡ slice i z s ++ drop z s
  drop_split i z h k =
      let l : i ≤ length (take z s) = rw (length-take-le z s k) h in
      ap (drop i) (sym (take-append-drop z s)) ∙ drop-append-le i (take z s) (drop z s) l

  -- what holds of each place from i to z holds of the part's places
  pub span_slice : (P : ℕ → Type 0) (i z : ℕ) → z ≤ length s → ((k : ℕ) → i ≤ k → k < z → P (get_or s k 0)) → (k : ℕ) → k < length (slice i z s) → P (get_or (slice i z s) k 0)
  span_slice P i z l h k b =
      let n = length-slice i z s l in
      let e : get_or (slice i z s) k 0 ≡ get_or s (i + k) 0 = get_or-drop i (take z s) k 0 ∙ get_or-take z s (i + k) 0 (omega arith) in
      subst P (sym e) (h (i + k) (omega arith) (omega arith))

-- a part, in two
pub slice_join : (s : List ℕ) (i j e : ℕ) → i ≤ j → j ≤ e → e ≤ length s → slice i e s ≡ slice i j s ++ slice j e s
slice_join s i j e h k l =
    let n : j ≤ length (take e s) = rw (length-take-le e s l) k in
    drop_split (take e s) i j h n ∙ ap (λ (t : List ℕ). drop i t ++ slice j e s) (take-take j e s k)

-- the part that a range names is the part between its ends
pub part_slice : (i e : ℕ) (s : List ℕ) → i ≤ e → take (e - i) (drop i s) ≡ slice i e s
part_slice i e s h =
    let n : i + (e - i) ≡ e = omega arith in
    sym (drop-take i (e - i) s) ∙ ap (λ (m : ℕ). slice i m s) n

-- the elements of that part
pub part_at : (s : List ℕ) (i e k : ℕ) → k < e - i → get_or (take (e - i) (drop i s)) k 0 ≡ get_or s (i + k) 0
part_at s i e k h = get_or-take (e - i) (drop i s) k 0 h ∙ get_or-drop i s k 0

-- what holds of the first m elements of that part holds of each place of the range up to there
pub span_front : (P : ℕ → Type 0) (s : List ℕ) (i e m : ℕ) → m ≤ e - i → ((k : ℕ) → 0 ≤ k → k < m → P (get_or (take (e - i) (drop i s)) k 0)) → (j : ℕ) → i ≤ j → j < i + m → P (get_or s j 0)
span_front P s i e m h f j a b =
    let n : i + (j - i) ≡ j = omega arith in
    subst P (part_at s i e (j - i) (omega arith) ∙ ap (λ (k : ℕ). get_or s k 0) n) (f (j - i) (omega arith) (omega arith))

-- and what holds of all of them, of the whole range
pub span_part : (P : ℕ → Type 0) (s : List ℕ) (i e : ℕ) → e ≤ length s → ((k : ℕ) → 0 ≤ k → k < length (take (e - i) (drop i s)) → P (get_or (take (e - i) (drop i s)) k 0))
    → (j : ℕ) → i ≤ j → j < e → P (get_or s j 0)
span_part P s i e h f j a b =
    let l : length (take (e - i) (drop i s)) ≡ e - i = simp (length-take, length-drop) (omega arith) in
    span_front P s i e (e - i) (omega arith) (λ k c d. f k c (omega arith)) j a (omega arith)

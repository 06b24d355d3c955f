-- Integers and references by their mark alone: by what the code tests, and what the length says of the mark and the bytes.
use Rattle.std.proofs.Common.{◌≡◌, ℕ, ◌+◌, ◌-◌, ◌<◌, ◌≤◌, eqb, ltb, List, [], ◌∷◌, length, get_or, refl, arith, ltb-false, ltb-true, le-ltb, lt-ltb, eq-eqb, ne_eqb, eqb-true, le-leb}
use native.Mathlib.Omega.{not-le}
use borrow.Author.Tests.{eqb-false, lt-leb}
use Rattle.scalar.specs.Numbers.{mark_width, unjudged}
use Rattle.scalar.proofs.Cases.{by_test}

module _ (m : ℕ) where
  pub width_below : m < 0x48 → 0x48 - m ≡ mark_width m
  width_below h = rw (lt-ltb m 0x48 h)

  pub width_ref : 0x48 ≤ m → m ≡ 0x51 → 8 ≡ mark_width m
  width_ref h e = rw (le-ltb m 0x48 h, eq-eqb m 0x51 e)

  pub width_above : 0x48 ≤ m → (m ≡ 0x51 → ⊥) → m - 0x48 ≡ mark_width m
  width_above h e = rw (le-ltb m 0x48 h, ne_eqb m 0x51 e)

pub unjudged_none : (b : List ℕ) → length b ≡ 0 → 0 ≡ unjudged b
unfolding unjudged
unjudged_none [] h = refl
unjudged_none (m ∷ s) h = absurd (omega arith)

-- the marks of integers and references lie side by side: the width is at most 8 between them, and not beside them
pub width_inside : (m : ℕ) → 0x40 ≤ m → m ≤ 0x51 → mark_width m ≤ 8
width_inside m l h = by_test (ltb m 0x48) (λ t. rw t (omega arith)) (λ t. by_test (eqb m 0x51) (λ u. rw (t, u) (omega arith)) (λ u. let y = eqb-false m 0x51 u in rw (t, u) (omega arith)))

pub inside_width : (m : ℕ) → mark_width m ≤ 8 → (0x40 ≤ m) × (m ≤ 0x51)
inside_width m h =
    by_test (ltb m 0x48) (λ t. let k = rw t at h in let l = ltb-true m 0x48 t in (omega arith, omega arith))
    (λ t. by_test (eqb m 0x51) (λ u. let e = eqb-true m 0x51 u in (omega arith, omega arith))
    (λ u. let k = rw (t, u) at h in let l = ltb-false m 0x48 t in (omega arith, omega arith)))

-- beside the marks
unjudged_other : (b : List ℕ) → (length b ≡ 0 → ⊥) → (mark_width (get_or b 0 0) ≤ 8 → ⊥) → 0 ≡ unjudged b
unfolding unjudged
unjudged_other [] l h = absurd (l refl)
unjudged_other (m ∷ s) l h = rw (lt-leb (mark_width m) 8 (not-le (mark_width m) 8 h))

module _ (b : List ℕ) (l : length b ≡ 0 → ⊥) where
  pub unjudged_below : get_or b 0 0 < 0x40 → 0 ≡ unjudged b
  unjudged_below h = unjudged_other b l (λ k. let i = inside_width (get_or b 0 0) k in omega arith)

  pub unjudged_above : 0x51 < get_or b 0 0 → 0 ≡ unjudged b
  unjudged_above h = unjudged_other b l (λ k. let i = inside_width (get_or b 0 0) k in omega arith)

-- between them
module _ {w : ℕ} where
  pub unjudged_short : (b : List ℕ) → (length b ≡ 0 → ⊥) → w ≡ mark_width (get_or b 0 0) → 0x40 ≤ get_or b 0 0 → get_or b 0 0 ≤ 0x51 → length b ≤ w → 0 ≡ unjudged b
  unfolding unjudged
  unjudged_short [] l e h i k = absurd (l refl)
  unjudged_short (m ∷ s) l e h i k = let n = width_inside m h i in rw (le-leb (mark_width m) 8 n, lt-leb (mark_width m) (length s) (omega arith))

  pub unjudged_whole : (b : List ℕ) → (length b ≡ 0 → ⊥) → w ≡ mark_width (get_or b 0 0) → 0x40 ≤ get_or b 0 0 → get_or b 0 0 ≤ 0x51 → w < length b → w + 1 ≡ unjudged b
  unfolding unjudged
  unjudged_whole [] l e h i k = absurd (l refl)
  unjudged_whole (m ∷ s) l e h i k = let n = width_inside m h i in rw (le-leb (mark_width m) 8 n, le-leb (mark_width m) (length s) (omega arith), e)

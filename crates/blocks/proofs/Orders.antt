-- How two byte strings compare, by the first place where they differ.
use mathlib.Core.Path.{◌≡◌, refl}
use mathlib.Core.List.{List, [], ◌∷◌}
use Prim.Native.Nat.{Ordering}
use Prim.Native.Nat.{ℕ, zero, suc, ◌≤◌, ◌<◌, zero-le}
use native.Mathlib.Omega.{arith}
use lib.ListN.{length, get_or, drop, drop_of_length-le}
use lib.Seq.{drop-cons}
use Rattle.format.specs.Order.{cmp_bytes}
use Rattle.format.proofs.CompareLaws.{less, more, alike}
use Rattle.blocks.specs.Compare.{DifferAt}

-- bytes that are the same decide nothing
skip_same : (a b : List ℕ) (r : ℕ) → r ≤ length a → r ≤ length b → ((k : ℕ) → k < r → get_or a k 0 ≡ get_or b k 0) → cmp_bytes a b ≡ cmp_bytes (drop r a) (drop r b)
unfolding cmp_bytes
skip_same a b zero h g s = refl
skip_same [] b (suc r) h g s = absurd (omega arith)
skip_same (x ∷ a) [] (suc r) h g s = absurd (omega arith)
skip_same (x ∷ a) (y ∷ b) (suc r) h g s =
    let e : x ≡ y = s 0 (omega arith) in
    rw (e, alike y) (skip_same a b r (omega arith) (omega arith) (λ k l. s (suc k) (omega arith)))

module _ (a b : List ℕ) (r : ℕ) (f : DifferAt a b r) where
  from_there : cmp_bytes a b ≡ cmp_bytes (drop r a) (drop r b)
  from_there = skip_same a b r f.in_a f.in_b (λ k h. f.same k zero-le h)

  pub both_end : length a ≤ r → length b ≤ r → Ordering.eq ≡ cmp_bytes a b
  unfolding cmp_bytes
  both_end h g = rw (from_there, drop_of_length-le a h, drop_of_length-le b g)

  pub a_ends : length a ≤ r → r < length b → Ordering.lt ≡ cmp_bytes a b
  unfolding cmp_bytes
  a_ends h g = rw (from_there, drop_of_length-le a h, drop-cons b r 0 g)

  pub b_ends : r < length a → length b ≤ r → Ordering.gt ≡ cmp_bytes a b
  unfolding cmp_bytes
  b_ends h g = rw (from_there, drop-cons a r 0 h, drop_of_length-le b g)

  module _ (h : r < length a) (g : r < length b) where
    pub byte_less : get_or a r 0 < get_or b r 0 → Ordering.lt ≡ cmp_bytes a b
    unfolding cmp_bytes
    byte_less l = rw (from_there, drop-cons a r 0 h, drop-cons b r 0 g, less l)

    pub byte_more : get_or b r 0 ≤ get_or a r 0 → Ordering.gt ≡ cmp_bytes a b
    unfolding cmp_bytes
    byte_more l =
        let d = f.differ h g in
        let m : get_or b r 0 < get_or a r 0 = omega arith in
        rw (from_there, drop-cons a r 0 h, drop-cons b r 0 g, more m)

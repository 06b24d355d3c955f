-- Two byte strings: the same between two places, the first place where they differ, and the answer of a comparison.
use Rattle.std.specs.Prelude.{◌≡◌, List, length, get_or}
use Prim.Native.Nat.{ℕ, ◌≤◌, ◌<◌, Ordering}
use Rattle.std.specs.declared.cmp.Ordering.{Ordering as Answer}
use Rattle.std.specs.declared.cmp.Ordering.TheVariants.{Less, Equal, Greater}

-- the same from i on, before e
abbrev pub Same : List ℕ → List ℕ → ℕ → ℕ → Type 0
Same a b i e = (k : ℕ) → i ≤ k → k < e → get_or a k 0 ≡ get_or b k 0

-- r is the first place where the two differ, or the shorter one's end
pub record DifferAt (a b : List ℕ) (r : ℕ) : Type 0 where
  pub in_a : r ≤ length a
  pub in_b : r ≤ length b
  pub same : Same a b 0 r
  pub differ : r < length a → r < length b → get_or a r 0 ≡ get_or b r 0 → ⊥

-- the answer as an ordering of numbers
abbrev pub order_of : Answer → Ordering
order_of Less = Ordering.lt
order_of Equal = Ordering.eq
order_of Greater = Ordering.gt

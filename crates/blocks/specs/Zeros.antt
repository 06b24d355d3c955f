-- Zeros among bytes: none between two places, and the next one from a place on. How many there are is format's `zeros`.
use Rattle.std.specs.Prelude.{◌≡◌, List, ℕ, ◌≤◌, ◌<◌, length, get_or}

-- none from i on, before e
abbrev pub NoZero : List ℕ → ℕ → ℕ → Type 0
NoZero s i e = (k : ℕ) → i ≤ k → k < e → get_or s k 0 ≡ 0 → ⊥

-- r is the place of the first zero from i on, before e, or e
pub record ZeroAmong (s : List ℕ) (i e r : ℕ) : Type 0 where
  pub after : i ≤ r
  pub inside : r ≤ e
  pub none : NoZero s i r
  pub zero : r < e → get_or s r 0 ≡ 0

-- r is the place of the first zero from i on, or the end
pub record ZeroFrom (s : List ℕ) (i r : ℕ) : Type 0 where
  pub after : i ≤ r
  pub inside : r ≤ length s
  pub none : NoZero s i r
  pub zero : r < length s → get_or s r 0 ≡ 0

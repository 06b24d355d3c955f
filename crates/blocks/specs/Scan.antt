-- Blocks of places, one behind another, of which a test holds.
use Rattle.std.specs.Prelude.{◌≡◌, ℕ, Bool, true, false, ◌+◌, ◌≤◌}

-- Blocks of k places lead from i to r, none of them past e, and the test may answer `true` at the first place of each.
pub data Steps (answers : ℕ → Bool → Type 0) (e k : ℕ) : ℕ → ℕ → Type 0 where
  none : {i : ℕ} → Steps answers e k i i
  more : {i m r : ℕ} → Steps answers e k i m → answers m true → r ≡ m + k → r ≤ e → Steps answers e k i r

-- the same, up to the first block of which the test may answer `false`, or to where none is left
pub record Passed (answers : ℕ → Bool → Type 0) (e k i r : ℕ) : Type 0 where
  pub after : i ≤ r
  pub inside : r ≤ e
  pub steps : Steps answers e k i r
  pub stop : r + k ≤ e → answers r false

-- What holds of each place of the blocks that a scan passed.
use Prim.Native.Nat.{ℕ, ◌+◌, ◌≤◌, ◌<◌}
use mathlib.Core.Bool.{Bool, true}
use native.Mathlib.Omega.{arith}
use Rattle.blocks.specs.Scan.{Steps, none, more}
use Rattle.blocks.proofs.Spans.{span_join}

pub span_steps : (P : ℕ → Type 0) {answers : ℕ → Bool → Type 0} {e k i r : ℕ} → ((m : ℕ) → m + k ≤ e → answers m true → (j : ℕ) → m ≤ j → j < m + k → P j)
    → Steps answers e k i r → (j : ℕ) → i ≤ j → j < r → P j
span_steps P f none j a b = absurd (omega arith)
span_steps P {e = e} {k = k} {i = i} {r = r} f (more {m = m} s t q h) j a b =
    span_join P i m r (span_steps P f s) (λ l c d. f m (omega arith) t l c (omega arith)) j a b

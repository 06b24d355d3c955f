-- Invariant: no zero up to the place, and what stands there is copied. What is left of the source falls.
use mathlib.Core.Path.{◌≡◌}
use Prim.Native.Nat.{◌-◌, ◌≤◌}
use lib.ListN.{length}
use lib.Seq.{slice}
use Rattle.format.specs.Fields.{put}
use Rattle.blocks.specs.Zeros.{NoZero}
use Rattle.blocks.proofs.copying.copy_clear.Given as goal

abbrev pub invariant-loop-i : goal.invariant-loop-i
invariant-loop-i l = (l.i ≤ length l.src) × NoZero l.src 0 l.i × (length l.dst ≡ length l.initial.dst) × (l.dst ≡ put l.initial.dst l.o (slice 0 l.i l.src))

abbrev pub decreases-loop-i : goal.decreases-loop-i
decreases-loop-i l = length l.src - l.i

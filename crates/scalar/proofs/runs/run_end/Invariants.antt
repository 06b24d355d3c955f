-- The loop's invariant: the run ends at the same place, searched from i on or from the start. What falls is the bytes behind i.
use Rattle.std.proofs.Common.{◌≡◌, ◌-◌, ◌≤◌, length}
use Rattle.scalar.specs.Runs.{run_end}
use Rattle.scalar.proofs.runs.run_end.Given as goal

abbrev pub invariant-loop-from : goal.invariant-loop-from
invariant-loop-from l = (l.i ≤ length l.bytes) × (run_end l.bytes l.i ≡ run_end l.bytes l.from)

abbrev pub decreases-loop-from : goal.decreases-loop-from
decreases-loop-from l = length l.bytes - l.i

-- The loop's invariant: the beginning of the run of what is left of the payload, put from o on, makes the whole. What falls is the payload left.
use Rattle.std.proofs.Common.{◌-◌, ◌≤◌, length, drop}
use Rattle.format.specs.Scalar.{run_start}
use Rattle.blocks.proofs.Put.{Left}
use Rattle.scalar.proofs.starts.write_rest.Given as goal

abbrev pub invariant-loop-z : goal.invariant-loop-z
invariant-loop-z l = (l.i ≤ length l.payload) × Left l.initial.buf l.at (run_start (drop l.from l.payload)) l.buf l.o (run_start (drop l.i l.payload))

abbrev pub decreases-loop-z : goal.decreases-loop-z
decreases-loop-z l = length l.payload - l.i

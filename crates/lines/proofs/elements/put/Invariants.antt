-- The count is never past the places that were filled.
use Rattle.std.proofs.Common.{◌≤◌}
use Rattle.lines.proofs.elements.put.Given as goal

abbrev pub invariant-loop-slot : goal.invariant-loop-slot
invariant-loop-slot g l = l.n ≤ l.slot-index

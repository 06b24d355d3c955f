-- The invariant of the loops: what is left of the walk at the place is the walk from the start (`Walk`), in the loop over ends with a group that ends there.
-- What falls is the rest of the key.
use Prim.Native.Nat.{◌-◌, ◌≤◌}
use lib.ListN.{length}
use Rattle.skip.proofs.Walking as laws
use Rattle.skip.proofs.skip.Given as goal

abbrev pub invariant-loop-n : goal.invariant-loop-n
invariant-loop-n l = (l.initial.i ≤ l.i) × laws.Walk l.require_escape_null l.bytes l.start l.i l.depth

abbrev pub decreases-loop-n : goal.decreases-loop-n
decreases-loop-n l = length l.bytes - l.i

abbrev pub invariant-loop-depth : goal.invariant-loop-depth
invariant-loop-depth l = (l.initial.i ≤ l.i) × laws.Walk l.require_escape_null l.bytes l.start l.i l.depth × laws.EndsAt l.bytes l.i l.depth

abbrev pub decreases-loop-depth : goal.decreases-loop-depth
decreases-loop-depth l = length l.bytes - l.i

abbrev pub invariant-groups : goal.invariant-groups
invariant-groups l = laws.Walk l.require_escape_null l.bytes l.start l.i l.depth

abbrev pub decreases-groups : goal.decreases-groups
decreases-groups l = length l.bytes - l.i

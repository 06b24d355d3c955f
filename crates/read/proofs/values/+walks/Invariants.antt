-- The walkers call each other at later places of the type sheet: the words left fall. The measure is thrice them, one more for a value and two for the fields,
-- since the fields call a value at the same place, and a value the walk under the type itself.
-- The loop keeps that what the walk over the fields left says, with what is summed up so far, it says of them all.
use Prim.Native.Nat.{◌+◌, ◌-◌, ◌*◌}
use lib.ListN.{length}
use Rattle.read.proofs.FieldLaws as fields
use Rattle.read.proofs.values.+walks.Given as goal

abbrev pub decreases-walk_fields : goal.decreases-walk_fields
decreases-walk_fields l = 3 * (length l.ty.now - l.at) + 2

abbrev pub decreases-walk_plain : goal.decreases-walk_plain
decreases-walk_plain l = 3 * (length l.ty.now - l.at)

abbrev pub decreases-walk_value : goal.decreases-walk_value
decreases-walk_value l = 3 * (length l.ty.now - l.at) + 1

abbrev pub invariant-walk_fields-loop-done : goal.invariant-walk_fields-loop-done
invariant-walk_fields-loop-done l = fields.Turned l.ty l.fn.at l.n l.bytes l.i l.depth l.asked (l.n - l.done) l.sum

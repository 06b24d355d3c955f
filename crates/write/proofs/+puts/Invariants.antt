-- The walk by measure: a group's values stand two words on, so the words left fall from a value to the values in it, and a row is one above its own values.
-- The loop's invariant is `Walking`: what the values that are left write, they write of the whole row. Each way out of a value is a law of Steps.
use Prim.Native.Nat.{◌+◌, ◌-◌, ◌*◌}
use lib.ListN.{length}
use Rattle.write.specs.Write.{standing}
use Rattle.write.proofs.Steps as laws
use Rattle.write.proofs.+puts.Given as goal

abbrev pub decreases-put_fields : goal.decreases-put_fields
decreases-put_fields l = 2 * (length l.words.now - l.word) + 1

abbrev pub decreases-put_value : goal.decreases-put_value
decreases-put_value l = 2 * (length l.words.now - l.word)

abbrev pub invariant-put_fields-loop-done : goal.invariant-put_fields-loop-done
invariant-put_fields-loop-done l = laws.Walking l.words l.pool (standing l.word l.from l.start 0) l.count l.depth l.initial.out l.row (l.count - l._done) l.out

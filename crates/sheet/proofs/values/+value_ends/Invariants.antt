-- Each way out of a walk is a law of `ValueWalk`. The loop's invariant (`Fields`): all end where those that are left do.
-- Calls nest by groups: the measure is twice the groups that may still open, and one for a run.
use Rattle.sheet.proofs.ValueWalk.{Fields}
use Prim.Native.Nat.{◌+◌, ◌*◌}
use Rattle.sheet.proofs.values.+value_ends.Given as goal

abbrev pub decreases-end_of : goal.decreases-end_of
decreases-end_of l = 2 * l.groups

abbrev pub decreases-values_end : goal.decreases-values_end
decreases-values_end l = 2 * l.groups + 1

abbrev pub invariant-values_end-loop : goal.invariant-values_end-loop
invariant-values_end-loop l = Fields l.words l.pool l.at l.from l.count l.groups l.counter l.end.words l.end.pool

-- The walk by measure: a group's fields stand behind its mark, so the bytes left fall from a group to its fields, and fields are one above their own groups.
-- The loop's invariant is `Passing`: what the fields that are left fill, they fill of all; the bytes left fall. Each way out is a law of RowLaws.
use Rattle.std.proofs.Common.{◌+◌, ◌-◌, ◌*◌, length}
use Rattle.fill.specs.Fill.{lent, standing}
use Rattle.fill.proofs.RowLaws as laws
use Rattle.fill.proofs.groups.+groups.Given as goal

abbrev pub decreases-fill_fields : goal.decreases-fill_fields
decreases-fill_fields l = 2 * (length l.bytes.now - l.i) + 1

abbrev pub decreases-fill_group : goal.decreases-fill_group
decreases-fill_group l = 2 * (length l.bytes.now - l.i)

abbrev pub invariant-fill_fields-loop-mark : goal.invariant-fill_fields-loop-mark
invariant-fill_fields-loop-mark l = laws.Passing l.bytes (standing l.i l.w l.p 0) l.depth (lent l.initial.words l.initial.pool) (standing l.j l.w1 l.p1 l.n) (lent l.words l.pool)

abbrev pub decreases-fill_fields-loop-mark : goal.decreases-fill_fields-loop-mark
decreases-fill_fields-loop-mark l = length l.bytes - l.j

-- Both go down with the words left of the first value. The fields' invariant: what was passed is equal, so what is left decides.
use Rattle.std.proofs.Common.{◌+◌, ◌-◌, ◌*◌, length}
use Rattle.order.proofs.Steps as laws
use Rattle.order.proofs.+compares.Given as goal

-- both go down with the words that are left of the first value
abbrev pub decreases-compare_fields : goal.decreases-compare_fields
decreases-compare_fields l = 2 * (length l.wa.now - l.s.i) + 1

abbrev pub decreases-compare_value : goal.decreases-compare_value
decreases-compare_value l = 2 * (length l.wa.now - l.s.i)

abbrev pub invariant-compare_fields-loop : goal.invariant-compare_fields-loop
invariant-compare_fields-loop l = laws.Walking l.wa l.pa l.wb l.pb l.x l.y l.initial.here l.counter l.here

-- Each turn leaves what is left of the walk, or ends it: one lemma of `Walking` for each way through a turn.
use mathlib.Core.Bool.{not}
use mathlib.Core.Path.{ap}
use native.Mathlib.Omega.{arith}
use Rattle.std.proofs.lemmas.Result.{err_from_is_err_and}
use Rattle.skip.proofs.Walking as laws
use Rattle.skip.proofs.skip.Goals as goal

pub returns-then-bytes-start : goal.returns-then-bytes-start
returns-then-bytes-start c = search laws.walk_past

pub overflow_add-i : goal.overflow_add-i
overflow_add-i c = search laws.number_room

pub loop-n-smaller : goal.loop-n-smaller
loop-n-smaller c = search laws.number_less

pub loop-n-preserved : goal.loop-n-preserved
loop-n-preserved c = (omega arith, search laws.number_on)

pub slice_bounds-group_ends-start-in-loop-depth : goal.slice_bounds-group_ends-start-in-loop-depth
slice_bounds-group_ends-start-in-loop-depth c = search laws.ends_inside

pub slice_bounds-group_ends-count-in-loop-depth : goal.slice_bounds-group_ends-count-in-loop-depth
slice_bounds-group_ends-count-in-loop-depth c = search laws.ends_inside

pub groups-preserved-then-not-group_ends : goal.groups-preserved-then-not-group_ends
groups-preserved-then-not-group_ends c = search laws.ends_on

pub loop-depth-smaller : goal.loop-depth-smaller
loop-depth-smaller c = laws.ends_less c.loop-depth.invariant.1 c.loop-depth.invariant.2 _ (omega arith)

pub loop-depth-preserved : goal.loop-depth-preserved
loop-depth-preserved c = (
  omega (arith, c.loop-depth.invariant.0),
  laws.ends_on c.loop-depth.invariant.1 c.loop-depth.invariant.2 c.if-depth-eq0-2.false,
  laws.ends_still c.group_ends-in-loop-depth.ensures (ap not c.if-not-group_ends.false),
)

pub groups-preserved-then-record_opens : goal.groups-preserved-then-record_opens
groups-preserved-then-record_opens c = search laws.opens_on

pub returns-in_default : goal.returns-in_default
returns-in_default c = laws.run_bad c.loop-n.invariant.1 c.starts_run.ensures c.if-starts_run.true c.in_default.ensures

pub groups-preserved-else-depth-eq0-3 : goal.groups-preserved-else-depth-eq0-3
groups-preserved-else-depth-eq0-3 c = laws.run_on c.loop-n.invariant.1 c.starts_run.ensures c.if-starts_run.true c.in-Some.ensures c.if-depth-eq0-3.false

pub returns-in_err-inner : goal.returns-in_err-inner
returns-in_err-inner c =
    let p = err_from_is_err_and c.from_residual.result c.from_residual.ensures.1 in
    rw (p.1, p.2) (laws.left_bad c.loop-n.invariant.1 c.group_ends.ensures c.if-group_ends.false c.in_err-inner.ensures)

pub groups-smaller : goal.groups-smaller
groups-smaller c =
    let w = c.loop-n.invariant in
    laws.left_less w.1 c.group_ends.ensures c.if-group_ends.false c.in_ok-inner.ensures _ w.0

pub groups-preserved : goal.groups-preserved
groups-preserved c = laws.left_on c.loop-n.invariant.1 c.group_ends.ensures c.if-group_ends.false c.in_ok-inner.ensures c.if-depth-eq0-4.false

pub returns-then-depth-eq0 : goal.returns-then-depth-eq0
returns-then-depth-eq0 c = search laws.number_end

pub returns-then-depth-eq0-2 : goal.returns-then-depth-eq0-2
returns-then-depth-eq0-2 c = search laws.ends_end

pub returns-then-depth-eq0-3 : goal.returns-then-depth-eq0-3
returns-then-depth-eq0-3 c = laws.run_end c.loop-n.invariant.1 c.starts_run.ensures c.if-starts_run.true c.in-Some.ensures c.if-depth-eq0-3.true

pub returns-then-depth-eq0-4 : goal.returns-then-depth-eq0-4
returns-then-depth-eq0-4 c = laws.left_end c.loop-n.invariant.1 c.group_ends.ensures c.if-group_ends.false c.in_ok-inner.ensures c.if-depth-eq0-4.true

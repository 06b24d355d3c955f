use Rattle.sheet.proofs.TypeWalk.{none_left, zero_kind, scalar, short, unknown, reference, seven_twice, optional_zero, optional_scalar, optional_short, optional_reference, optional_end, too_deep, record_end, union_end_lem}
use Rattle.sheet.proofs.TypeWalk.{fields_done, fields_fail, fields_go, alts_done, alts_fail, alts_go, alts_out}
use Rattle.sheet.proofs.types.+type_ends.Goals as goal

pub alternatives_end-returns-then-place-ty : goal.alternatives_end-returns-then-place-ty
alternatives_end-returns-then-place-ty t c = search alts_out

pub alternatives_end-returns-in_err-place : goal.alternatives_end-returns-in_err-place
alternatives_end-returns-in_err-place t c = rw c.from_residual.ensures (alts_fail _ c.loop.invariant c.loop-test.true c.if-place-ty.false c.in_err-place.ensures)

pub alternatives_end-loop-preserved : goal.alternatives_end-loop-preserved
alternatives_end-loop-preserved t c = alts_go _ c.loop.invariant c.loop-test.true c.if-place-ty.false c.in_ok-place.ensures

pub alternatives_end-returns : goal.alternatives_end-returns
alternatives_end-returns t c = search alts_done

pub fields_end-returns-in_err-place : goal.fields_end-returns-in_err-place
fields_end-returns-in_err-place t c = rw c.from_residual.ensures (fields_fail _ c.loop.invariant c.loop-test.true c.in_err-place.ensures)

pub fields_end-loop-preserved : goal.fields_end-loop-preserved
fields_end-loop-preserved t c = fields_go _ c.loop.invariant c.loop-test.true c.in_ok-place.ensures

pub fields_end-returns : goal.fields_end-returns
fields_end-returns t c = search fields_done

pub group_end-returns-then-second-eq0 : goal.group_end-returns-then-second-eq0
group_end-returns-then-second-eq0 t c = search optional_zero

pub group_end-returns-then-second-eq-KIND_OPTIONAL : goal.group_end-returns-then-second-eq-KIND_OPTIONAL
group_end-returns-then-second-eq-KIND_OPTIONAL t c = search seven_twice

pub group_end-returns-then-second-lt-KIND_FACT : goal.group_end-returns-then-second-lt-KIND_FACT
group_end-returns-then-second-lt-KIND_FACT t c = search optional_scalar

pub group_end-returns-then-ty-at-lt3 : goal.group_end-returns-then-ty-at-lt3
group_end-returns-then-ty-at-lt3 t c = search optional_short

pub group_end-returns-then-second-eq-KIND_FACT : goal.group_end-returns-then-second-eq-KIND_FACT
group_end-returns-then-second-eq-KIND_FACT t c = search optional_reference

pub group_end-returns-then-kind-eq-KIND_OPTIONAL : goal.group_end-returns-then-kind-eq-KIND_OPTIONAL
group_end-returns-then-kind-eq-KIND_OPTIONAL t c = search optional_end

pub group_end-returns-then-groups-eq0 : goal.group_end-returns-then-groups-eq0
group_end-returns-then-groups-eq0 t c = search too_deep

pub group_end-returns-then-kind-eq-KIND_RECORD : goal.group_end-returns-then-kind-eq-KIND_RECORD
group_end-returns-then-kind-eq-KIND_RECORD t c = search record_end

pub group_end-returns-then-kind-eq-KIND_UNION : goal.group_end-returns-then-kind-eq-KIND_UNION
group_end-returns-then-kind-eq-KIND_UNION t c = search union_end_lem

pub group_end-returns : goal.group_end-returns
group_end-returns t c = search unknown

pub type_end-returns-then-at-ty : goal.type_end-returns-then-at-ty
type_end-returns-then-at-ty t c = search none_left

pub type_end-returns-then-kind-eq0 : goal.type_end-returns-then-kind-eq0
type_end-returns-then-kind-eq0 t c = search zero_kind

pub type_end-returns-then-kind-lt-KIND_FACT : goal.type_end-returns-then-kind-lt-KIND_FACT
type_end-returns-then-kind-lt-KIND_FACT t c = search scalar

pub type_end-returns-then-ty-at-lt2 : goal.type_end-returns-then-ty-at-lt2
type_end-returns-then-ty-at-lt2 t c = search short

pub type_end-returns-then-kind-eq-KIND_FACT : goal.type_end-returns-then-kind-eq-KIND_FACT
type_end-returns-then-kind-eq-KIND_FACT t c = search reference

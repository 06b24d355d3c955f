use Rattle.order.proofs.Steps as laws
use Rattle.order.proofs.+compares.Goals as goal
use Rattle.order.proofs.+compares.Goals.{compare_value-then-wa-i-via-then-wa-i, compare_value-then-wa-i-via-else-wa-i+then-wb-j}
use Rattle.order.proofs.+compares.Goals.{compare_value-then-wa-i-lt2-via-then-wa-i-lt2, compare_value-then-wa-i-lt2-via-else-wa-i-lt2+then-wb-j-lt2}

pub compare_fields-loop-init : goal.compare_fields-loop-init
compare_fields-loop-init t c = search laws.starts

pub compare_fields-returns-then-is_ne : goal.compare_fields-returns-then-is_ne
compare_fields-returns-then-is_ne t c = search laws.row_apart

pub compare_fields-loop-preserved : goal.compare_fields-loop-preserved
compare_fields-loop-preserved t c = search laws.row_next

pub compare_fields-returns : goal.compare_fields-returns
compare_fields-returns t c = laws.row_ends c.loop.invariant c.min-end.ensures c.loop.auto.counter-end c.loop-test.false c.cmp.ensures

pub compare_value-returns-then-wa-i : goal.compare_value-returns-then-wa-i
compare_value-returns-then-wa-i t c = elim c.then-wa-i.branch [
  | compare_value-then-wa-i-via-then-wa-i w ↦ search laws.gone_a
  | compare_value-then-wa-i-via-else-wa-i+then-wb-j w ↦ search laws.gone_b
]

pub compare_value-returns-then-wa-i-lt2 : goal.compare_value-returns-then-wa-i-lt2
compare_value-returns-then-wa-i-lt2 t c = elim c.then-wa-i-lt2.branch [
  | compare_value-then-wa-i-lt2-via-then-wa-i-lt2 w ↦ search (laws.short_a, laws.both)
  | compare_value-then-wa-i-lt2-via-else-wa-i-lt2+then-wb-j-lt2 w ↦ search (laws.short_b, laws.both)
]

pub compare_value-returns-then-rank-other : goal.compare_value-returns-then-rank-other
compare_value-returns-then-rank-other t c = search laws.apart

pub compare_value-returns-then-rank-eq-RANK_NULL : goal.compare_value-returns-then-rank-eq-RANK_NULL
compare_value-returns-then-rank-eq-RANK_NULL t c = search (laws.null, laws.both)

pub compare_value-returns-then-rank-eq-RANK_RECORD : goal.compare_value-returns-then-rank-eq-RANK_RECORD
compare_value-returns-then-rank-eq-RANK_RECORD t c = search (laws.a_record, laws.both)

pub compare_value-returns-then-x-y : goal.compare_value-returns-then-x-y
compare_value-returns-then-x-y t c = search (laws.tags_apart, laws.both)

pub compare_value-returns-then-rank-eq-RANK_UNION : goal.compare_value-returns-then-rank-eq-RANK_UNION
compare_value-returns-then-rank-eq-RANK_UNION t c = search (laws.a_union, laws.both)

pub compare_value-returns : goal.compare_value-returns
compare_value-returns t c = search (laws.a_scalar, laws.both)

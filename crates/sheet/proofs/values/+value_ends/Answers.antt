use Rattle.sheet.proofs.ValueWalk.{none_left, null, short, integer, reference, too_deep, unknown, record_end, big_tag, payload, fields_done, fields_fail, fields_go}
use Rattle.sheet.proofs.values.+value_ends.Goals as goal
use Rattle.sheet.proofs.values.+value_ends.Goals.{end_of-then-kind-eq-VALUE_FACT-via-then-kind-eq-VALUE_FACT, end_of-then-kind-eq-VALUE_FACT-via-else-kind-eq-VALUE_FACT+then-kind-eq-VALUE_INT}

pub end_of-returns-then-at-words : goal.end_of-returns-then-at-words
end_of-returns-then-at-words t c = search none_left

pub end_of-returns-then-kind-eq-VALUE_NULL : goal.end_of-returns-then-kind-eq-VALUE_NULL
end_of-returns-then-kind-eq-VALUE_NULL t c = search null

pub end_of-returns-then-words-at-lt2 : goal.end_of-returns-then-words-at-lt2
end_of-returns-then-words-at-lt2 t c = search short

pub end_of-returns-then-kind-eq-VALUE_FACT : goal.end_of-returns-then-kind-eq-VALUE_FACT
end_of-returns-then-kind-eq-VALUE_FACT t c = elim c.then-kind-eq-VALUE_FACT.branch [ end_of-then-kind-eq-VALUE_FACT-via-then-kind-eq-VALUE_FACT w ↦ search reference | end_of-then-kind-eq-VALUE_FACT-via-else-kind-eq-VALUE_FACT+then-kind-eq-VALUE_INT w ↦ search integer ]

pub end_of-returns-then-kind-lt-VALUE_FACT : goal.end_of-returns-then-kind-lt-VALUE_FACT
end_of-returns-then-kind-lt-VALUE_FACT t c = c.run_end.ensures.ends _

pub end_of-returns-then-groups-eq0 : goal.end_of-returns-then-groups-eq0
end_of-returns-then-groups-eq0 t c = search too_deep

pub end_of-returns-then-kind-eq-VALUE_RECORD : goal.end_of-returns-then-kind-eq-VALUE_RECORD
end_of-returns-then-kind-eq-VALUE_RECORD t c = search record_end

pub end_of-returns-then-kind-gt-VALUE_UNION : goal.end_of-returns-then-kind-gt-VALUE_UNION
end_of-returns-then-kind-gt-VALUE_UNION t c = search unknown

pub end_of-returns-then-x-ge-DISCRIMINANTS : goal.end_of-returns-then-x-ge-DISCRIMINANTS
end_of-returns-then-x-ge-DISCRIMINANTS t c = search big_tag

pub end_of-returns : goal.end_of-returns
end_of-returns t c = search payload

pub values_end-returns-then-end-eq0 : goal.values_end-returns-then-end-eq0
values_end-returns-then-end-eq0 t c = fields_fail c.loop.invariant _ _ c.loop-test.true c.end_of-end.ensures c.if-end-eq0.true

pub values_end-loop-preserved : goal.values_end-loop-preserved
values_end-loop-preserved t c = fields_go c.loop.invariant _ _ c.loop-test.true c.end_of-end.ensures c.if-end-eq0.false

pub values_end-returns : goal.values_end-returns
values_end-returns t c = search fields_done

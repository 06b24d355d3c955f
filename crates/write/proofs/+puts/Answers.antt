use mathlib.Core.Path.{refl}
use native.Mathlib.Omega.{arith}
use Rattle.write.proofs.Steps as laws
use Rattle.write.proofs.+puts.Goals as goal

pub put_fields-loop-done-init : goal.put_fields-loop-done-init
put_fields-loop-done-init t c = laws.walk_start (omega arith) c.requires

pub put_fields-put_value-r-requires : goal.put_fields-put_value-r-requires
put_fields-put_value-r-requires t c = (omega (arith, c.decreases, c.loop-done.invariant.onward.on), laws.walk_ready c.loop-done.invariant c.requires.deep)

pub put_fields-overflow_add-row : goal.put_fields-overflow_add-row
put_fields-overflow_add-row t c = omega (arith, laws.walk_room c.loop-done.invariant c.put_value-r.ensures)

pub put_fields-loop-done-preserved : goal.put_fields-loop-done-preserved
put_fields-loop-done-preserved t c = laws.walk_value c.loop-done.invariant (omega arith) c.put_value-r.ensures

pub put_fields-returns : goal.put_fields-returns
put_fields-returns t c = laws.walk_end c.loop-done.invariant (omega arith)

pub put_value-returns-then-words-word : goal.put_value-returns-then-words-word
put_value-returns-then-words-word t c = laws.past c.requires c.if-words-word.true

pub put_value-returns-then-kind-eq-VALUE_NULL : goal.put_value-returns-then-kind-eq-VALUE_NULL
put_value-returns-then-kind-eq-VALUE_NULL t c = laws.wrote_null c.requires c.if-words-word.false c.if-kind-eq-VALUE_NULL.true c.put_null.ensures

pub put_value-returns-then-words-word-lt2 : goal.put_value-returns-then-words-word-lt2
put_value-returns-then-words-word-lt2 t c = laws.short c.requires c.if-kind-eq-VALUE_NULL.false c.if-words-word-lt2.true

pub put_value-returns-then-pool-from : goal.put_value-returns-then-pool-from
put_value-returns-then-pool-from t c = laws.too_long c.requires c.if-words-word-lt2.false refl c.if-kind-eq-VALUE_NULL.false refl c.if-kind-lt-VALUE_RECORD.true (rw c.run_of-n.ensures at c.if-pool-from.true)

pub put_value-returns-then-kind-lt-VALUE_RECORD : goal.put_value-returns-then-kind-lt-VALUE_RECORD
put_value-returns-then-kind-lt-VALUE_RECORD t c = laws.wrote_plain c.requires c.if-words-word-lt2.false refl c.if-kind-eq-VALUE_NULL.false refl {w = c.put_scalar-written.result} c.if-kind-lt-VALUE_RECORD.true c.run_of-n.ensures c.if-pool-from.false c.put_scalar-written.ensures (omega arith)

pub put_value-returns : goal.put_value-returns
put_value-returns t c = laws.wrote_group c.requires c.if-words-word-lt2.false refl c.if-kind-eq-VALUE_NULL.false refl c.if-kind-lt-VALUE_RECORD.false c.open_group-inner.ensures (rw c.count_of-count.ensures at c.put_fields-r.ensures) c.put_byte-end.ensures (omega arith)

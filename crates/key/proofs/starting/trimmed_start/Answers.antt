-- What is left of s ends in no FF: its beginning does where its last byte is a zero, and there by one.
use Rattle.key.proofs.StartingLaws as laws
use native.Mathlib.Omega.{arith}
use Rattle.key.proofs.starting.trimmed_start.Goals as goal

pub returns-then-n-eq0 : goal.returns-then-n-eq0
returns-then-n-eq0 c = laws.trim_nothing c.trimmed_len-n.ensures c.if-n-eq0.true

pub overflow_sub-result : goal.overflow_sub-result
overflow_sub-result c = omega (arith, laws.trim_some c.trimmed_len-n.ensures c.if-n-eq0.false c.if-s-n-eq0.true)

pub returns-then-s-n-eq0 : goal.returns-then-s-n-eq0
returns-then-s-n-eq0 c = laws.trim_zero c.trimmed_len-n.ensures c.if-n-eq0.false c.if-s-n-eq0.true c.start_len-run.ensures

pub returns : goal.returns
returns c = laws.trim_byte c.trimmed_len-n.ensures c.if-n-eq0.false c.if-s-n-eq0.false c.start_len-run.ensures

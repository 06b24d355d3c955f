-- Below 48, a reference, above 48: the three cases of `mark_width`.
use Rattle.scalar.proofs.Unjudged as laws
use Rattle.scalar.proofs.ints.mark_width.Goals as goal

pub returns-then-mark-lt-MARK_INT_ZERO : goal.returns-then-mark-lt-MARK_INT_ZERO
returns-then-mark-lt-MARK_INT_ZERO c = search laws.width_below

pub returns-then-mark-eq-MARK_FACT_REF : goal.returns-then-mark-eq-MARK_FACT_REF
returns-then-mark-eq-MARK_FACT_REF c = search laws.width_ref

pub returns : goal.returns
returns c = search laws.width_above

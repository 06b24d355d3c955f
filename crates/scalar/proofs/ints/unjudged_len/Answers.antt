-- No byte, a mark below, a mark above, cut short, whole: the cases of `unjudged`.
use Rattle.scalar.proofs.Unjudged as laws
use Rattle.std.proofs.Common.{arith}
use Rattle.scalar.proofs.ints.unjudged_len.Goals as goal

pub returns-then-rest-eq0 : goal.returns-then-rest-eq0
returns-then-rest-eq0 c = search laws.unjudged_none

pub returns-then-mark-lt-MARK_INT_NEG_MIN : goal.returns-then-mark-lt-MARK_INT_NEG_MIN
returns-then-mark-lt-MARK_INT_NEG_MIN c = search laws.unjudged_below

pub returns-then-mark-gt-MARK_FACT_REF : goal.returns-then-mark-gt-MARK_FACT_REF
returns-then-mark-gt-MARK_FACT_REF c = search laws.unjudged_above

pub returns-then-rest-width : goal.returns-then-rest-width
returns-then-rest-width c = laws.unjudged_short _ c.if-rest-eq0.false c.mark_width-width.ensures c.if-mark-lt-MARK_INT_NEG_MIN.false c.if-mark-gt-MARK_FACT_REF.false (omega arith)

pub returns : goal.returns
returns c = search laws.unjudged_whole

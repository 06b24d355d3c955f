-- The number read is the complement of the magnitude; then a law for each way out, in the order of `get_neg`.
use Rattle.scalar.proofs.Integers as laws
use Rattle.scalar.proofs.ints.get_negative.Goals as goal

pub returns-then-bytes-width : goal.returns-then-bytes-width
returns-then-bytes-width c = search laws.i64_short

pub returns-then-int_width-width : goal.returns-then-int_width-width
returns-then-int_width-width c = search laws.i64_wide

pub returns-then-mag-gt-NEGATIVE : goal.returns-then-mag-gt-NEGATIVE
returns-then-mag-gt-NEGATIVE c = search laws.i64_under

pub returns : goal.returns
returns c = search laws.i64_negative

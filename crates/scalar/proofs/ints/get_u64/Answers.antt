-- A law for each way out: mark, bytes, width, in the order of `get_uint`.
use Rattle.scalar.proofs.Integers as laws
use Rattle.scalar.proofs.ints.get_u64.Goals as goal

pub returns-then-bytes-eq0 : goal.returns-then-bytes-eq0
returns-then-bytes-eq0 c = search laws.u64_none

pub returns-then-mark-lt-MARK_INT_ZERO : goal.returns-then-mark-lt-MARK_INT_ZERO
returns-then-mark-lt-MARK_INT_ZERO c = search laws.u64_low

pub returns-then-mark-gt-MARK_INT_POS_MAX : goal.returns-then-mark-gt-MARK_INT_POS_MAX
returns-then-mark-gt-MARK_INT_POS_MAX c = search laws.u64_high

pub returns-then-bytes-width : goal.returns-then-bytes-width
returns-then-bytes-width c = search laws.u64_short

pub returns-then-int_width-width : goal.returns-then-int_width-width
returns-then-int_width-width c = search laws.u64_wide

pub returns : goal.returns
returns c = search laws.u64_read

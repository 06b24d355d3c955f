-- A negative integer is what its bytes make less as many ones, by the width that its mark says.
use Rattle.std.proofs.Common.{arith}
use Rattle.fill.proofs.NumberLaws as laws
use Rattle.fill.proofs.leaves.fill_negative.Goals as goal

pub returns-then-mark-lt-MARK_INT_NEG_MIN : goal.returns-then-mark-lt-MARK_INT_NEG_MIN
returns-then-mark-lt-MARK_INT_NEG_MIN c = laws.no_int c.requires.0 c.if-mark-lt-MARK_INT_NEG_MIN.true

pub returns-then-bytes-i : goal.returns-then-bytes-i
returns-then-bytes-i c = laws.int_short c.requires.0 c.requires.2 c.if-bytes-i.true

pub returns : goal.returns
returns c = laws.negative_filled c.requires.1 (omega (arith, c.if-mark-lt-MARK_INT_NEG_MIN.false)) c.requires.2 (omega (arith, c.if-bytes-i.false)) c.number_at.ensures (omega arith) c.wrapping_sub_u64-x.ensures.value c.put_pair.ensures

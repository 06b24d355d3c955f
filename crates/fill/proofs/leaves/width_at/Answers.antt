-- A width is how far the mark is from 48: any mark of another kind, or a number cut short, stands for no number, and 0 is as good as any.
use Rattle.std.proofs.Common.{arith}
use Rattle.fill.proofs.NumberLaws as laws
use Rattle.fill.proofs.leaves.width_at.Goals as goal

pub returns-then-mark-lt-MARK_INT_ZERO : goal.returns-then-mark-lt-MARK_INT_ZERO
returns-then-mark-lt-MARK_INT_ZERO c = laws.width_low c.requires c.if-mark-lt-MARK_INT_ZERO.true

pub returns-then-mark-gt-MARK_INT_POS_MAX : goal.returns-then-mark-gt-MARK_INT_POS_MAX
returns-then-mark-gt-MARK_INT_POS_MAX c = laws.width_high c.requires c.if-mark-gt-MARK_INT_POS_MAX.true

pub returns-then-bytes-i : goal.returns-then-bytes-i
returns-then-bytes-i c = laws.width_short c.requires c.if-bytes-i.true

pub returns : goal.returns
returns c = laws.width_is c.requires (omega (arith, c.if-mark-gt-MARK_INT_POS_MAX.false)) (omega (arith, c.if-bytes-i.false))

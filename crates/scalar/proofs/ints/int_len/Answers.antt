-- By the sign: a negative integer has as many bytes as its magnitude.
use Rattle.scalar.proofs.Widths.{int_pos, length_int_neg}
use Rattle.scalar.proofs.ints.int_len.Goals as goal

pub returns-then-w-lt-NEGATIVE : goal.returns-then-w-lt-NEGATIVE
returns-then-w-lt-NEGATIVE c = rw (int_pos c.if-w-lt-NEGATIVE.true) c.uint_len.ensures

pub returns-else-w-lt-NEGATIVE : goal.returns-else-w-lt-NEGATIVE
returns-else-w-lt-NEGATIVE c = rw (length_int_neg c.if-w-lt-NEGATIVE.false, ← c.magnitude_of.ensures) c.uint_len-else-w-lt-NEGATIVE.ensures

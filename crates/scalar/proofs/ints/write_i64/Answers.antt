-- By the sign: a negative word is written as its complemented magnitude under a mark that counts down.
use Rattle.std.proofs.Common.{length, ap, arith}
use Rattle.format.specs.Scalar.{neg_bytes}
use Rattle.scalar.proofs.Widths.{width_le, length_uint, length_neg, int_pos, int_neg, length_int_neg}
use Rattle.scalar.proofs.ints.write_i64.Goals as goal

pub write_u64-requires : goal.write_u64-requires
write_u64-requires c = omega (arith, ap length (int_pos c.if-w-lt-NEGATIVE.true))

pub returns-then-w-lt-NEGATIVE : goal.returns-then-w-lt-NEGATIVE
returns-then-w-lt-NEGATIVE c = rw (int_pos c.if-w-lt-NEGATIVE.true) c.write_u64.ensures

pub overflow_cast-width : goal.overflow_cast-width
overflow_cast-width c = omega (arith, width_le c.magnitude_of-mag.result)

pub overflow_sub-width : goal.overflow_sub-width
overflow_sub-width c = omega (arith, width_le c.magnitude_of-mag.result)

pub write_marked-requires : goal.write_marked-requires
write_marked-requires c =
    let m = c.magnitude_of-mag in
    let long = rw (← m.ensures) at (length_int_neg c.if-w-lt-NEGATIVE.false) in
    omega (arith, length_uint m.result)

pub returns : goal.returns
unfolding neg_bytes
returns c =
    let m = c.magnitude_of-mag in
    let bytes = rw c.int_width-width.ensures at c.write_marked.ensures.1 in
    rw (int_neg c.if-w-lt-NEGATIVE.false, ← m.ensures) (omega (arith, length_neg m.result), bytes)

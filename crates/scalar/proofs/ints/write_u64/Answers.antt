-- The mark says the width, which is at most 8.
use Rattle.std.proofs.Common.{arith}
use Rattle.format.specs.Scalar.{uint_bytes}
use Rattle.scalar.proofs.Widths.{width_le, length_uint}
use Rattle.scalar.proofs.ints.write_u64.Goals as goal

pub overflow_cast-width : goal.overflow_cast-width
overflow_cast-width c = omega (arith, width_le c.args.n)

pub overflow_add-width : goal.overflow_add-width
overflow_add-width c = omega (arith, width_le c.args.n)

pub write_marked-requires : goal.write_marked-requires
write_marked-requires c = omega (arith, length_uint c.args.n)

pub returns : goal.returns
unfolding uint_bytes
returns c = (omega (arith, length_uint c.args.n), rw c.int_width-width.ensures at c.write_marked.ensures.1)

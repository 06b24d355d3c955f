-- The mark and as many bytes as the width.
use Rattle.std.proofs.Common.{arith}
use Rattle.scalar.proofs.Widths.{width_le, length_uint}
use Rattle.scalar.proofs.ints.uint_len.Goals as goal

pub overflow_add-result : goal.overflow_add-result
overflow_add-result c = omega (arith, width_le c.args.n)

pub returns : goal.returns
returns c = omega (arith, length_uint c.args.n)

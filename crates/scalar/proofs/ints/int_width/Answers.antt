-- The code is the definition; at most 64 zero bits keep the difference in range.
use Rattle.std.proofs.Common.{refl, arith}
use lib.Count.{leading_le}
use Rattle.format.specs.Scalar.{width}
use Rattle.scalar.proofs.ints.int_width.Goals as goal

pub overflow_cast-result : goal.overflow_cast-result
overflow_cast-result c = omega (arith, leading_le 64 c.args.mag)

pub overflow_sub-result : goal.overflow_sub-result
overflow_sub-result c = omega (arith, leading_le 64 c.args.mag)

pub returns : goal.returns
unfolding width
returns c = refl

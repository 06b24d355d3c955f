-- The ones of so many bytes are those of a word, shifted; a number of so many bytes is at most them.
use Rattle.std.proofs.Common.{arith}
use Rattle.scalar.proofs.Numbers.{ones_shift}
use Rattle.scalar.proofs.ints.complement.Goals as goal

pub overflow_sub-result-2 : goal.overflow_sub-result-2
overflow_sub-result-2 c = omega (arith, ones_shift c.args.width (omega arith))

pub returns : goal.returns
returns c = omega (arith, ones_shift c.args.width (omega arith))

-- The beginning is the payload and one byte more for each zero; then comes the end.
use Rattle.std.proofs.Common.{arith}
use Rattle.format.proofs.ZeroLaws.{zeros_le, escaped_long}
use Rattle.format.proofs.StartLaws.{start_long}
use Rattle.scalar.proofs.runs.escaped_len.Goals as goal

pub overflow_add-result : goal.overflow_add-result
overflow_add-result c = omega (arith, start_long c.args.payload.now, zeros_le c.args.payload.now)

pub returns : goal.returns
returns c = omega (arith, start_long c.args.payload.now, escaped_long c.args.payload.now)

-- The run's beginning, and its end behind that, are the run; what the beginning has beside the payload are the zeros.
use Rattle.std.proofs.Common.{arith}
use Rattle.format.proofs.StartLaws.{start_long}
use Rattle.scalar.proofs.StartWriting.{start_fits, run_ended}
use Rattle.scalar.proofs.runs.write_escaped.Goals as goal

pub write_start-end-requires : goal.write_start-end-requires
write_start-end-requires c = omega (arith, start_fits c.args.buf.now c.args.at c.args.payload.now c.requires)

pub bounds-buf-end : goal.bounds-buf-end
bounds-buf-end c = omega (arith, start_fits c.args.buf.now c.args.at c.args.payload.now c.requires, c.write_start-end.ensures.0)

pub overflow_sub-zeros-2 : goal.overflow_sub-zeros-2
overflow_sub-zeros-2 c = omega (arith, start_long c.args.payload.now)

pub returns : goal.returns
returns c = run_ended c.args.buf.now c.args.at c.args.payload.now c.requires c.write_start-end.ensures

-- The bytes before the first zero, and what is left behind them, are the run before its end.
use Rattle.std.proofs.Common.{arith}
use Rattle.format.proofs.StartLaws.{start_long}
use Rattle.scalar.proofs.StartWriting.{start_front, start_then}
use Rattle.scalar.proofs.starts.write_start.Goals as goal

pub copy_clear-i-requires : goal.copy_clear-i-requires
copy_clear-i-requires c = omega (arith, start_long c.args.payload.now)

pub write_rest-requires : goal.write_rest-requires
write_rest-requires c =
    let e = c.copy_clear-i.ensures in
    let a = start_front c.args.payload.now c.copy_clear-i.result e.0 e.1 in
    (e.0, omega arith)

pub returns : goal.returns
returns c =
    let a = c.args in
    let z = c.copy_clear-i.result in
    let e = c.copy_clear-i.ensures in
    (omega (arith, start_front a.payload.now z e.0 e.1), start_then a.payload.now z e.0 e.1 a.buf.now a.at c.requires e.2 c.write_rest.ensures.1)

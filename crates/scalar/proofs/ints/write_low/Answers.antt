use Rattle.std.proofs.Common.{◌≡◌, sym, ◌∙◌, arith}
use Rattle.blocks.proofs.Put.{put_none}
use Rattle.scalar.proofs.Widths.{be_none, put_be_step}
use Rattle.scalar.proofs.ints.write_low.Goals as goal

pub loop-j-preserved : goal.loop-j-preserved
loop-j-preserved c = let here = c.loop-j in put_be_step here.buf c.args.at here.j here.left c.loop-j-test.true (omega arith) ∙ here.invariant

pub returns : goal.returns
returns c =
    let here = c.loop-j in
    let none : here.j ≡ 0 = omega arith in
    sym (put_none here.buf c.args.at) ∙ (rw (none, be_none) at here.invariant)

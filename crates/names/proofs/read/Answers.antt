use Rattle.std.proofs.Common.{◌≡◌, suc, ◌+◌, ◌-◌, arith}
use Rattle.names.proofs.StepLaws.{goes_on, ends}
use Rattle.names.proofs.read.Goals as goal

pub loop-i-preserved : goal.loop-i-preserved
loop-i-preserved c =
    let l = c.loop-i in
    let k : 12 - l.i ≡ suc (12 - (l.i + 1)) = omega arith in
    rw c.noted-given.ensures (goes_on c.args.name.now l.reader l.given l.i (12 - (l.i + 1)) c.next-step.result c.next-step.new.r (rw k at l.invariant) c.next-step.ensures)

pub returns : goal.returns
returns c =
    let l = c.loop-i in
    let z : 12 - l.i ≡ 0 = omega arith in
    ends c.args.name.now l.reader.bytes.now l.reader.at l.reader.done l.given l.i (rw z at l.invariant)

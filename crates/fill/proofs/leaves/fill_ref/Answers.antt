-- A reference is the eight bytes behind its mark, where there are as many.
use Rattle.std.proofs.Common.{arith}
use Rattle.fill.proofs.NumberLaws as laws
use Rattle.fill.proofs.leaves.fill_ref.Goals as goal

pub returns-then-bytes-j-lt8 : goal.returns-then-bytes-j-lt8
returns-then-bytes-j-lt8 c = laws.ref_not c.requires.0 c.if-bytes-j-lt8.true

pub returns : goal.returns
returns c = laws.ref_filled c.requires.1 (omega (arith, c.if-bytes-j-lt8.false)) c.read_number-x.ensures.0 c.put_pair.ensures

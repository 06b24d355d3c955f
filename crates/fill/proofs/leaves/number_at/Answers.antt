-- k bytes as a number: k of them, or the upper k of eight.
use Rattle.std.proofs.Common.{arith}
use Rattle.fill.proofs.NumberLaws as laws
use Rattle.fill.proofs.leaves.number_at.Goals as goal

pub returns-then-bytes-j-lt8 : goal.returns-then-bytes-j-lt8
returns-then-bytes-j-lt8 c = laws.number_is c.args.bytes.now c.args.j c.args.k c.read_number.ensures.0

pub returns-then-k-eq0 : goal.returns-then-k-eq0
returns-then-k-eq0 c = laws.number_none c.args.bytes.now c.args.j c.args.k c.if-k-eq0.true

pub returns : goal.returns
returns c = laws.number_shifted c.args.bytes.now c.args.j c.args.k (λ k. omega (arith, c.type_inv.bytes k)) c.requires.0 (omega (arith, c.if-bytes-j-lt8.false)) c.read_number-2.ensures.0

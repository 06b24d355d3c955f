-- Each byte adds one to the count where it is a zero.
use native.Mathlib.Omega.{arith}
use lib.ListN.{drop, length-drop}
use Rattle.format.proofs.ZeroLaws.{zeros_le}
use Rattle.blocks.proofs.Counts.{zeros_next}
use Rattle.blocks.proofs.zeros.few_zeros.Goals as goal

pub loop-b-preserved : goal.loop-b-preserved
loop-b-preserved c = let z = zeros_next c.args.s.now c.loop-b.b-index (omega arith) in (omega (arith, z, c.from-n.ensures), omega (arith, z, c.from-n.ensures))

pub returns : goal.returns
returns c = omega (arith, zeros_le (drop c.loop-b.b-index c.args.s.now), length-drop c.loop-b.b-index c.args.s.now)

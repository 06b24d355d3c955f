use mathlib.Core.Path.{refl}
use native.Mathlib.Omega.{arith}
use Rattle.blocks.specs.Scan.{none, more}
use Rattle.blocks.proofs.scan.past_blocks.Goals as goal

pub loop-i-init : goal.loop-i-init
loop-i-init g c = (omega arith, omega arith, none)

pub loop-i-preserved : goal.loop-i-preserved
loop-i-preserved g c = (omega arith, omega arith, more c.loop-i.invariant.2 (rw c.if-test.true at c.test.ensures) refl (omega arith))

-- The zeros of a list are those of its front and those of its rest.
use mathlib.Core.Path.{ap}
use native.Mathlib.Omega.{arith}
use Rattle.format.specs.Zeros.{zeros}
use Rattle.format.proofs.ZeroLaws.{zeros_le}
use Rattle.blocks.proofs.Counts.{zeros_cut}
use Rattle.blocks.proofs.zeros.count_zeros.Goals as goal

pub overflow_add-n : goal.overflow_add-n
overflow_add-n c =
    let p = ap zeros c.in-Some.ensures.cases.0 in
    omega (arith, p, c.from-n.ensures, c.few_zeros.ensures, zeros_cut 240 c.loop-part.rest.now, zeros_le c.args.s.now, c.loop-part.invariant)

pub loop-part-preserved : goal.loop-part-preserved
loop-part-preserved c =
    let p = ap zeros c.in-Some.ensures.cases.0 in
    let q = ap zeros c.in-Some.ensures.cases.1 in
    omega (arith, p, q, c.from-n.ensures, c.few_zeros.ensures, zeros_cut 240 c.loop-part.rest.now, c.loop-part.invariant)

pub overflow_add-result : goal.overflow_add-result
overflow_add-result c = omega (arith, c.from.ensures, c.few_zeros-2.ensures, zeros_le c.args.s.now, c.loop-part.invariant)

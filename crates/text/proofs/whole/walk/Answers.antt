-- A character moves the place behind it: it is at least one byte wide, and within the bytes.
use mathlib.Core.Path.{ap, sym, ◌∙◌}
use native.Mathlib.Omega.{arith}
use lib.ListN.{drop}
use Rattle.format.specs.Utf8.{width_of}
use Rattle.text.proofs.Fronts.{char_wide}
use Rattle.text.proofs.Texts.{step_fits, step_on_lem}
use Rattle.text.proofs.whole.walk.Goals as goal

pub returns-in_default : goal.returns-in_default
returns-in_default c = let i = c.loop-at.invariant in record { after = i.0; inside = i.1; same = i.2; stuck = λ h. sym (ap width_of c.in_default.ensures) }

pub overflow_add-at : goal.overflow_add-at
overflow_add-at c = omega (arith, step_fits c.args.s.now c.loop-at.at c.in-Some.c.width (ap width_of c.in-Some.ensures) (omega arith))

pub loop-at-smaller : goal.loop-at-smaller
loop-at-smaller c =
    let k = char_wide (drop c.loop-at.at c.args.s.now) _ _ c.in-Some.ensures in
    omega (arith, step_fits c.args.s.now c.loop-at.at c.in-Some.c.width (ap width_of c.in-Some.ensures) (omega arith))

pub loop-at-preserved : goal.loop-at-preserved
loop-at-preserved c =
    let k = char_wide (drop c.loop-at.at c.args.s.now) _ _ c.in-Some.ensures in
    let w = ap width_of c.in-Some.ensures in (
      omega arith,
      step_fits c.args.s.now c.loop-at.at c.in-Some.c.width w (omega arith),
      c.loop-at.invariant.2 ∙ step_on_lem c.args.s.now c.loop-at.at c.in-Some.c.width w (λ z. omega arith),
    )

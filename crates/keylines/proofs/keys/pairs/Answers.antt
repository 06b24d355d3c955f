use mathlib.Core.Path.{◌∙◌}
use native.Mathlib.Omega.{arith}
use Rattle.keylines.proofs.PairLaws as laws
use Rattle.keylines.proofs.keys.pairs.Goals as goal

pub returns-in_default : goal.returns-in_default
returns-in_default c =
    let s = c.in-Some.ensures.steps.1 in
    record { is = laws.pairs_odd c.loop-pair.invariant.0 (omega (arith, s.1, s.2, c.loop-pair.invariant.1)); counts = tt }

pub returns-in_err-hex : goal.returns-in_err-hex
returns-in_err-hex c =
    let e = laws.two_front c.in-Some.pair.now c.next.new.self.rest.now c.in-Some.ensures.steps.1.0 (omega arith) in
    rw c.from_residual.ensures (record { is = laws.pairs_high c.loop-pair.invariant.0 e c.in_err-hex.ensures; counts = tt })

pub overflow_mul-buf : goal.overflow_mul-buf
overflow_mul-buf c = omega (arith, laws.digit_small _ _ c.in_ok-hex.ensures)

pub returns-in_err-buf : goal.returns-in_err-buf
returns-in_err-buf c =
    let e = laws.two_front c.in-Some.pair.now c.next.new.self.rest.now c.in-Some.ensures.steps.1.0 (omega arith) in
    rw c.from_residual-in_err-buf.ensures (record { is = laws.pairs_low c.loop-pair.invariant.0 e c.in_err-buf.ensures; counts = tt })

pub overflow_add-buf : goal.overflow_add-buf
overflow_add-buf c = omega (arith, laws.digit_small _ _ c.in_ok-hex.ensures, laws.digit_small _ _ c.in_ok-buf.ensures)

pub loop-pair-preserved : goal.loop-pair-preserved
loop-pair-preserved c =
    let s = c.in-Some.ensures.steps in
    let v = c.loop-pair.invariant in
    let e = laws.two_front c.in-Some.pair.now c.next.new.self.rest.now s.1.0 (omega arith) in
    (laws.pairs_next v.0 e c.in_ok-hex.ensures c.in_ok-buf.ensures (omega (arith, v.0.long, s.1.1, s.1.2, v.1)), s.0 ∙ v.1)

pub returns : goal.returns
returns c =
    let v = c.loop-pair.invariant.0 in
    record { is = laws.pairs_end v c.in-None.ensures.steps.1.0; counts = laws.counts _ _ (omega (arith, v.long)) }

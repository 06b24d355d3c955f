use mathlib.Core.Path.{refl}
use native.Mathlib.Omega.{arith}
use Rattle.keylines.proofs.DecimalLaws as laws
use Rattle.keylines.proofs.rows.+put_decimal.Goals as goal

pub overflow_add-out : goal.overflow_add-out
overflow_add-out t c = omega arith

pub bounds-out-at : goal.bounds-out-at
bounds-out-at t c = omega (arith, laws.room_one _ c.if-n-lt10.true)

pub overflow_add-result : goal.overflow_add-result
overflow_add-result t c = omega (arith, laws.room_one _ c.if-n-lt10.true)

pub returns-then-n-lt10 : goal.returns-then-n-lt10
returns-then-n-lt10 t c = laws.put_one c.if-n-lt10.true refl

pub put_decimal-end-requires : goal.put_decimal-end-requires
put_decimal-end-requires t c =
    (omega (arith, laws.tenth_less _ c.if-n-lt10.false, c.decreases), omega (arith, laws.room_more _ c.if-n-lt10.false, c.requires))

pub overflow_add-out-2 : goal.overflow_add-out-2
overflow_add-out-2 t c = omega (arith, laws.digit_low c.args.n)

pub bounds-out-end : goal.bounds-out-end
bounds-out-end t c = omega (arith, laws.room_more _ c.if-n-lt10.false, c.requires, c.put_decimal-end.ensures.end, c.put_decimal-end.ensures.long)

pub overflow_add-result-2 : goal.overflow_add-result-2
overflow_add-result-2 t c = omega (arith, laws.room_more _ c.if-n-lt10.false, c.requires, c.put_decimal-end.ensures.end, c.put_decimal-end.ensures.long)

pub returns : goal.returns
returns t c = laws.put_more c.if-n-lt10.false c.put_decimal-end.ensures refl

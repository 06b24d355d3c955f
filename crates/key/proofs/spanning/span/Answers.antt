-- What refuses the sheets or their values is answered first, then the rooms, the lower end's before the upper's; only then both ends are written, and FF behind the highest.
use mathlib.Core.Path.{refl}
use native.Mathlib.Omega.{arith}
use Rattle.std.proofs.lemmas.Result.{err_from_is_err_and}
use Rattle.key.proofs.FirstsLaws.{k_there}
use Rattle.key.proofs.SpanningLaws as laws
use Rattle.key.proofs.spanning.span.Goals as goal

pub returns-in_err-check_sheets : goal.returns-in_err-check_sheets
returns-in_err-check_sheets c =
    let a = c.args in
    let p = err_from_is_err_and c.from_residual.result c.from_residual.ensures.1 in
    rw (p.1, p.2)
    (laws.s_sheets a.ty.now a.words.now a.pool.now a.low_words.now a.low_pool.now a.high_words.now a.high_pool.now a.lower.now a.upper.now c.in_err-check_sheets.ensures)

pub returns-in_err-sizes : goal.returns-in_err-sizes
returns-in_err-sizes c =
    let a = c.args in
    let p = err_from_is_err_and c.from_residual-in_err-sizes.result c.from_residual-in_err-sizes.ensures.1 in
    rw (p.1, p.2)
    (laws.s_refused a.ty.now a.words.now a.pool.now a.low_words.now a.low_pool.now a.high_words.now a.high_pool.now a.lower.now a.upper.now c.in_err-sizes.ensures)

pub returns-then-lower-sizes : goal.returns-then-lower-sizes
returns-then-lower-sizes c =
    let a = c.args in
    laws.s_low_room a.ty.now a.words.now a.pool.now a.low_words.now a.low_pool.now a.high_words.now a.high_pool.now a.lower.now a.upper.now c.in_ok-sizes.ensures c.if-lower-sizes.true (omega arith)

pub returns-then-upper-sizes : goal.returns-then-upper-sizes
returns-then-upper-sizes c =
    let a = c.args in
    laws.s_high_room a.ty.now a.words.now a.pool.now a.low_words.now a.low_pool.now a.high_words.now a.high_pool.now a.lower.now a.upper.now
    c.in_ok-sizes.ensures c.if-lower-sizes.false c.if-upper-sizes.true (omega arith)

pub put_end-requires : goal.put_end-requires
put_end-requires c = k_there (laws.firsts c.in_ok-check_sheets.ensures)

pub put_end-requires-2 : goal.put_end-requires-2
put_end-requires-2 c = k_there (laws.firsts c.in_ok-check_sheets.ensures)

pub overflow_sub-upper : goal.overflow_sub-upper
overflow_sub-upper c =
    let a = c.args in
    laws.s_last a.ty.now a.words.now a.pool.now a.low_words.now a.low_pool.now a.high_words.now a.high_pool.now a.lower.now a.upper.now c.in_ok-sizes.ensures c.if-lower-sizes.false

pub bounds-upper-sizes : goal.bounds-upper-sizes
bounds-upper-sizes c =
    let a = c.args in
    let last = laws.s_last a.ty.now a.words.now a.pool.now a.low_words.now a.low_pool.now a.high_words.now a.high_pool.now a.lower.now a.upper.now c.in_ok-sizes.ensures c.if-lower-sizes.false in
    omega (arith, last, c.put_end-2.ensures.kept, c.if-upper-sizes.false)

pub returns : goal.returns
returns c =
    let a = c.args in
    laws.s_done a.ty.now a.words.now a.pool.now a.low_words.now a.low_pool.now a.high_words.now a.high_pool.now a.lower.now a.upper.now c.in_ok-sizes.ensures
    c.if-lower-sizes.false c.if-upper-sizes.false c.put_end.ensures c.put_end-2.ensures refl

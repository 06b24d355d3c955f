-- The checks, what refuses the values, and the two ends: each step is a law about what those before it found.
use Rattle.std.proofs.lemmas.Result.{err_from_is_err_and}
use Rattle.key.proofs.StartingLaws as laws
use native.Mathlib.Omega.{arith}
use Rattle.key.proofs.FirstsLaws.{k_there, k_small, k_row}
use Rattle.key.proofs.starting.starting_with.Goals as goal

pub returns-in_err-mark : goal.returns-in_err-mark
returns-in_err-mark c =
    let a = c.args in
    let p = err_from_is_err_and c.from_residual.result c.from_residual.ensures.1 in
    rw (p.1, p.2) (laws.w_sheets a.ty.now a.words.now a.pool.now a.s.now a.lower.now a.upper.now c.in_err-mark.ensures)

pub bounds-words-1 : goal.bounds-words-1
bounds-words-1 c = k_there c.in_ok-mark.ensures.firsts

pub overflow_cast-k : goal.overflow_cast-k
overflow_cast-k c = record { fits = k_small c.in_ok-mark.ensures.firsts (omega (arith, c.type_inv.ty 1)) }

pub fit_fields-requires : goal.fit_fields-requires
fit_fields-requires c = k_row c.in_ok-mark.ensures.firsts

pub returns-in_err-first : goal.returns-in_err-first
returns-in_err-first c =
    let a = c.args in
    let p = err_from_is_err_and c.from_residual-in_err-first.result c.from_residual-in_err-first.ensures.1 in
    rw (p.1, p.2) (laws.w_values a.ty.now a.words.now a.pool.now a.s.now a.lower.now a.upper.now c.in_ok-mark.ensures c.in_err-first.ensures)

pub put_starts-requires : goal.put_starts-requires
put_starts-requires c =
    let a = c.args in
    let asked = c.in_ok-mark.ensures in
    (laws.w_fit a.ty.now a.words.now a.pool.now a.s.now a.lower.now a.upper.now asked c.in_ok-first.ensures, laws.w_small a.ty.now a.words.now a.pool.now a.s.now a.lower.now a.upper.now asked)

pub returns : goal.returns
returns c =
    let a = c.args in
    laws.w_done a.ty.now a.words.now a.pool.now a.s.now a.lower.now a.upper.now c.in_ok-mark.ensures c.in_ok-first.ensures c.put_starts.ensures

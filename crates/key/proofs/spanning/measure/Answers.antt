-- The first k types and values stand in a row, and the next type stands behind them; what the walks say of each is the definition's, in its order.
use native.Mathlib.Omega.{arith}
use Rattle.std.proofs.lemmas.Result.{err_from_is_err_and}
use Rattle.key.proofs.FirstsLaws.{k_there, k_small, k_row}
use Rattle.key.proofs.SpanningLaws as laws
use Rattle.key.proofs.spanning.measure.Goals as goal

pub bounds-words-1 : goal.bounds-words-1
bounds-words-1 c = k_there (laws.firsts c.requires)

pub overflow_cast-k : goal.overflow_cast-k
overflow_cast-k c = record { fits = k_small (laws.firsts c.requires) (omega (arith, c.type_inv.ty 1)) }

pub fit_fields-requires : goal.fit_fields-requires
fit_fields-requires c = k_row (laws.firsts c.requires)

pub returns-in_err-first : goal.returns-in_err-first
returns-in_err-first c =
    let p = err_from_is_err_and c.from_residual.result c.from_residual.ensures.1 in
    rw (p.1, p.2) (laws.m_first c.requires c.in_err-first.ensures)

pub fit_value-requires : goal.fit_value-requires
fit_value-requires c = laws.m_low_stands c.requires c.in_ok-first.ensures

pub returns-in_err-low : goal.returns-in_err-low
returns-in_err-low c =
    let p = err_from_is_err_and c.from_residual-in_err-low.result c.from_residual-in_err-low.ensures.1 in
    rw (p.1, p.2) (laws.m_low c.requires c.in_ok-first.ensures c.in_err-low.ensures)

pub fit_value-requires-2 : goal.fit_value-requires-2
fit_value-requires-2 c = laws.m_high_stands c.requires c.in_ok-first.ensures

pub returns-in_err-high : goal.returns-in_err-high
returns-in_err-high c =
    let p = err_from_is_err_and c.from_residual-in_err-high.result c.from_residual-in_err-high.ensures.1 in
    rw (p.1, p.2) (laws.m_high c.requires c.in_ok-first.ensures c.in_ok-low.ensures c.in_err-high.ensures)

pub overflow_add-result : goal.overflow_add-result
overflow_add-result c =
    let n = laws.m_short c.requires c.in_ok-first.ensures c.in_ok-low.ensures c.in_ok-high.ensures in
    omega (arith, n.0, n.1)

pub overflow_add-result-2 : goal.overflow_add-result-2
overflow_add-result-2 c =
    let n = laws.m_short c.requires c.in_ok-first.ensures c.in_ok-low.ensures c.in_ok-high.ensures in
    omega (arith, n.0, n.2)

pub overflow_add-result-3 : goal.overflow_add-result-3
overflow_add-result-3 c =
    let n = laws.m_short c.requires c.in_ok-first.ensures c.in_ok-low.ensures c.in_ok-high.ensures in
    omega (arith, n.0, n.2)

pub returns : goal.returns
returns c = laws.m_done c.requires c.in_ok-first.ensures c.in_ok-low.ensures c.in_ok-high.ensures

-- Room for both ends is asked first, lower before upper; so strinc of the lower end finds room, and a byte to raise.
use Rattle.std.proofs.lemmas.Result.{err_from_is_err_and}
use Rattle.key.proofs.StartingLaws as laws
use native.Mathlib.Omega.{arith}
use Rattle.key.proofs.starting.put_starts.Goals as goal

pub returns-in_err-low : goal.returns-in_err-low
returns-in_err-low c =
    let a = c.args in
    let p = err_from_is_err_and c.from_residual.result c.from_residual.ensures.1 in
    rw (p.1, p.2) (laws.p_low a.words.now a.pool.now a.n a.mark a.s.now a.lower.now a.upper.now c.requires.1 c.start_len.ensures c.in_err-low.ensures)

pub overflow_add-high-2 : goal.overflow_add-high-2
overflow_add-high-2 c =
    let a = c.args in
    record { fits = laws.p_short a.words.now a.pool.now a.n a.mark a.s.now a.lower.now a.upper.now c.requires.1 c.start_len.ensures c.in_ok-low.ensures c.trimmed_start.result c.trimmed_start.ensures (omega arith) }

pub returns-then-upper-high : goal.returns-then-upper-high
returns-then-upper-high c =
    let t = c.trimmed_start in
    let a = c.args in
    let short = laws.p_short a.words.now a.pool.now a.n a.mark a.s.now a.lower.now a.upper.now c.requires.1 c.start_len.ensures c.in_ok-low.ensures t.result t.ensures (omega arith) in
    laws.p_high a.words.now a.pool.now a.n a.mark a.s.now a.lower.now a.upper.now c.requires.1 c.start_len.ensures c.in_ok-low.ensures t.ensures c.if-upper-high.true short

pub returns-in_err-end : goal.returns-in_err-end
returns-in_err-end c =
    let a = c.args in
    let p = err_from_is_err_and c.from_residual-in_err-end.result c.from_residual-in_err-end.ensures.1 in
    rw (p.1, p.2)
    (laws.p_never a.words.now a.pool.now a.n a.mark a.s.now a.lower.now a.upper.now c.requires.1 c.start_len.ensures
    c.in_ok-low.ensures c.trimmed_start.ensures c.if-upper-high.false c.put_start.ensures c.in_err-end.ensures c.requires.0)

pub returns : goal.returns
returns c =
    let a = c.args in
    laws.p_done a.words.now a.pool.now a.n a.mark a.s.now a.lower.now a.upper.now c.requires.1 c.start_len.ensures
    c.in_ok-low.ensures c.trimmed_start.ensures c.if-upper-high.false c.put_start.ensures c.in_ok-end.ensures

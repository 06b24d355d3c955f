-- The value is there to be measured, and short enough for the sums; the checks stand in the definition's order, and the splice writes what was measured.
use native.Mathlib.Omega.{arith}
use Rattle.std.proofs.lemmas.Result.{err_from_is_err_and}
use Rattle.key.proofs.ValueLaws as laws
use Rattle.key.proofs.replacing.put_field.Goals as goal

pub fit_value-requires : goal.fit_value-requires
fit_value-requires c = search laws.v_stands

pub returns-in_err-fitted : goal.returns-in_err-fitted
returns-in_err-fitted c =
    let a = c.args in
    let p = err_from_is_err_and c.from_residual.result c.from_residual.ensures.1 in
    rw (p.1, p.2) (laws.v_refused a.ty.now a.at a.buffer.now a.used a.start a.end a.words.now a.pool.now c.admit_value.ensures c.if-not-admit_value.false c.in_err-fitted.ensures)

pub overflow_add-len : goal.overflow_add-len
overflow_add-len c =
    let n = laws.v_short c.args.words.now c.args.pool.now c.admit_value.ensures c.if-not-admit_value.false c.in_ok-fitted.ensures in
    omega (arith, n, c.requires.inside.0, c.requires.inside.1, c.requires.inside.2)

pub overflow_add-len-2 : goal.overflow_add-len-2
overflow_add-len-2 c =
    let n = laws.v_short c.args.words.now c.args.pool.now c.admit_value.ensures c.if-not-admit_value.false c.in_ok-fitted.ensures in
    omega (arith, n, c.requires.inside.0, c.requires.inside.1, c.requires.inside.2)

pub returns-then-len-gt-MAX_KEY_BYTES : goal.returns-then-len-gt-MAX_KEY_BYTES
returns-then-len-gt-MAX_KEY_BYTES c = let f = c.in_ok-fitted.ensures in search (laws.v_long, f)

pub returns-then-buffer-len : goal.returns-then-buffer-len
returns-then-buffer-len c = let f = c.in_ok-fitted.ensures in search (laws.v_room, f)

pub returns : goal.returns
returns c = let f = c.in_ok-fitted.ensures in search (laws.v_done, f)

-- The checks stand in the definition's order; the field is replaced where find_field found it, of the type that stands there.
use Prim.Native.Nat.{◌≤◌}
use native.Mathlib.Omega.{arith}
use lib.ListN.{length}
use lib.Seq.{length-take-le}
use Rattle.format.proofs.Bytes.{bytes_before}
use Rattle.format.proofs.SoundLaws.{all_bytes}
use Rattle.std.proofs.lemmas.Result.{err_from_is_err_and}
use Rattle.key.proofs.CallLaws as laws
use Rattle.key.proofs.replacing.replace.Goals as goal

pub returns-in_err-n : goal.returns-in_err-n
returns-in_err-n c =
    let a = c.args in
    let p = err_from_is_err_and c.from_residual.result c.from_residual.ensures.1 in
    rw (p.1, p.2) (laws.r_type a.ty.now a.buffer.now a.used a.field a.words.now a.pool.now c.in_err-n.ensures)

pub returns-then-n-field : goal.returns-then-n-field
returns-then-n-field c =
    let a = c.args in
    laws.r_over a.ty.now a.buffer.now a.used a.field a.words.now a.pool.now c.in_ok-n.ensures c.if-n-field.true

pub returns-then-buffer-used : goal.returns-then-buffer-used
returns-then-buffer-used c =
    let a = c.args in
    laws.r_used a.ty.now a.buffer.now a.used a.field a.words.now a.pool.now c.in_ok-n.ensures c.if-n-field.false c.if-buffer-used.true (omega arith)

pub find_field-requires-clause-typed : goal.find_field-requires-clause-typed
find_field-requires-clause-typed c = laws.fields_at c.args.ty.now c.in_ok-n.ensures

pub returns-in_err-old : goal.returns-in_err-old
returns-in_err-old c =
    let a = c.args in
    let ab = bytes_before a.used a.buffer.now (all_bytes a.buffer.now (λ i. omega (arith, c.slice_known-1.given i))) in
    let p = err_from_is_err_and c.from_residual-in_err-old.result c.from_residual-in_err-old.ensures.1 in
    rw (p.1, p.2) (laws.r_bad a.ty.now a.buffer.now a.used a.field a.words.now a.pool.now c.in_ok-n.ensures c.if-n-field.false c.if-buffer-used.false ab c.in_err-old.ensures)

pub put_field-requires : goal.put_field-requires
put_field-requires c =
    let a = c.args in
    let u : a.used ≤ length a.buffer.now = omega (arith, c.if-buffer-used.false) in
    let f = laws.fields_at a.ty.now c.in_ok-n.ensures in
    let ab = bytes_before a.used a.buffer.now (all_bytes a.buffer.now (λ i. omega (arith, c.slice_known-1.given i))) in
    let w = laws.r_span f ab c.in_ok-old.ensures in
    record { typed = laws.r_typed f ab c.in_ok-old.ensures; inside = (w.0, omega (arith, w.1, length-take-le a.used a.buffer.now u), u) }

pub returns : goal.returns
returns c =
    let a = c.args in
    let ab = bytes_before a.used a.buffer.now (all_bytes a.buffer.now (λ i. omega (arith, c.slice_known-1.given i))) in
    laws.r_good a.ty.now a.buffer.now a.used a.field a.words.now a.pool.now c.in_ok-n.ensures c.if-n-field.false c.if-buffer-used.false ab c.in_ok-old.ensures c.put_field.ensures

-- The checks stand in the definition's order; the ends are those of the bytes of the first k fields, which end where split_key says.
use native.Mathlib.Omega.{arith}
use Rattle.format.proofs.SoundLaws.{all_bytes}
use Rattle.std.proofs.lemmas.Result.{err_from_is_err_and}
use Rattle.key.proofs.CallLaws as laws
use Rattle.key.proofs.bounding.bounds.Goals as goal

pub returns-in_err-n : goal.returns-in_err-n
returns-in_err-n c =
    let a = c.args in
    let p = err_from_is_err_and c.from_residual.result c.from_residual.ensures.1 in
    rw (p.1, p.2) (laws.b_type a.ty.now a.key.now a.k a.lower.now a.upper.now c.in_err-n.ensures)

pub returns-then-n-k : goal.returns-then-n-k
returns-then-n-k c =
    let a = c.args in
    laws.b_over a.ty.now a.key.now a.k a.lower.now a.upper.now c.in_ok-n.ensures c.if-n-k.true

pub split_key-requires-clause-typed : goal.split_key-requires-clause-typed
split_key-requires-clause-typed c = laws.fields_at c.args.ty.now c.in_ok-n.ensures

pub returns-in_err-end : goal.returns-in_err-end
returns-in_err-end c =
    let a = c.args in
    let ab = all_bytes a.key.now (λ i. omega (arith, c.type_inv.key i)) in
    let p = err_from_is_err_and c.from_residual-in_err-end.result c.from_residual-in_err-end.ensures.1 in
    rw (p.1, p.2) (laws.b_bad a.ty.now a.key.now a.k a.lower.now a.upper.now c.in_ok-n.ensures c.if-n-k.false ab c.in_err-end.ensures)

pub write_ends-requires : goal.write_ends-requires
write_ends-requires c =
    let ab = all_bytes c.args.key.now (λ i. omega (arith, c.type_inv.key i)) in
    laws.b_start (laws.fields_at c.args.ty.now c.in_ok-n.ensures) ab c.in_ok-end.ensures

pub returns : goal.returns
returns c =
    let a = c.args in
    let ab = all_bytes a.key.now (λ i. omega (arith, c.type_inv.key i)) in
    laws.b_good a.ty.now a.key.now a.k a.lower.now a.upper.now c.in_ok-n.ensures c.if-n-k.false ab c.in_ok-end.ensures c.write_ends.ensures

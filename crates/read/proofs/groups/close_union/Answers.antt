-- By cases of the payload's answer, and then of what stands at its end: one law for each way out.
use native.Mathlib.Omega.{arith}
use mathlib.Core.Path.{sym, ap, subst, ◌∙◌}
use Rattle.std.specs.Prelude.{Err}
use Rattle.std.proofs.lemmas.Result.{err_from_is_err_and}
use Rattle.read.specs.Walk.{ClosesUnion, kept}
use Rattle.read.proofs.ValueLaws as laws
use Rattle.read.proofs.groups.close_union.Goals as goal

pub returns-in_err-payload : goal.returns-in_err-payload
returns-in_err-payload c = let p = err_from_is_err_and c.from_residual.result c.from_residual.ensures.1 in rw c.in_err-payload.was (subst (λ r. ClosesUnion c.args.ty.now c.args.bytes.now c.args.left c.args.asked (Err c.in_err-payload.field-0.0) r) (sym (p.1 ∙ ap Err p.2)) kept)

pub slice_bounds-close-count : goal.slice_bounds-close-count
slice_bounds-close-count c =
    let h = rw c.in_ok-payload.was at c.requires in
    omega arith

pub overflow_add-result : goal.overflow_add-result
overflow_add-result c =
    let h = rw c.in_ok-payload.was at c.requires in
    omega (arith, laws.c_room c.args.bytes.now _ c.close.ensures h c.in-Ok.is)

pub returns-in-Err : goal.returns-in-Err
returns-in-Err c = laws.c_not c.in_ok-payload.was c.close.ensures c.in-Err.is

pub returns-in-Ok : goal.returns-in-Ok
returns-in-Ok c = laws.c_done c.in_ok-payload.was c.close.ensures c.in-Ok.is c.union_end.ensures

-- The answer is what was measured, without the sizes; the count is few by the law of the definition's call.
use Rattle.decode.proofs.FillLaws as laws
use Rattle.decode.proofs.TopLaws as top
use Rattle.format.proofs.SoundLaws.{all_bytes}
use native.Mathlib.Omega.{arith}
use mathlib.Core.Path.{sym, ap, subst, ◌∙◌}
use Rattle.std.specs.Prelude.{Err}
use Rattle.std.proofs.lemmas.Result.{err_from_is_err_and}
use Rattle.format.specs.Calls.{check_key_call}
use Rattle.decode.specs.Answers.{ChecksKey}
use Rattle.decode.proofs.check_admitted.Goals as goal

pub top_bare-requires : goal.top_bare-requires
top_bare-requires c = top.type_at c.args.ty.now c.requires

pub measure-requires : goal.measure-requires
measure-requires c = top.at_top (top.type_at c.args.ty.now c.requires) c.top_bare.ensures

pub returns-in_err-size : goal.returns-in_err-size
returns-in_err-size c =
    let p = err_from_is_err_and c.from_residual.result c.from_residual.ensures.1 in
    subst (ChecksKey (check_key_call c.args.ty.now c.args.bytes.now) c.args.bytes.now) (sym (p.1 ∙ ap Err p.2))
    (laws.c_bad c.args.ty.now (all_bytes c.args.bytes.now (λ i. omega (arith, c.type_inv.bytes i)))
    (record { admits = c.requires; top_is = c.top_bare.ensures; measures = c.in_err-size.ensures }))

pub returns : goal.returns
returns c =
    laws.c_good c.args.ty.now (all_bytes c.args.bytes.now (λ i. omega (arith, c.type_inv.bytes i)))
    (record { admits = c.requires; top_is = c.top_bare.ensures; measures = c.in_ok-size.ensures })

-- A refusal is the walk's or that of a byte left over; else the walk gives the sizes.
use mathlib.Core.Path.{sym, ap, subst, ◌∙◌}
use Rattle.std.specs.Prelude.{Err}
use Rattle.std.proofs.lemmas.Result.{err_from_is_err_and}
use Rattle.decode.specs.Answers.{Measures}
use Rattle.decode.proofs.TopLaws as laws
use Rattle.decode.proofs.measure.Goals as goal

pub returns-in_err-walked : goal.returns-in_err-walked
returns-in_err-walked c =
    let p = err_from_is_err_and c.from_residual.result c.from_residual.ensures.1 in
    subst (Measures c.args.bare c.args.ty.now c.args.bytes.now) (sym (p.1 ∙ ap Err p.2)) (laws.m_bad c.in_err-walked.ensures)

pub returns-then-walked-bytes : goal.returns-then-walked-bytes
returns-then-walked-bytes c = laws.m_left c.in_ok-walked.ensures c.if-walked-bytes.true

pub returns : goal.returns
returns c = laws.m_done c.in_ok-walked.ensures c.if-walked-bytes.false

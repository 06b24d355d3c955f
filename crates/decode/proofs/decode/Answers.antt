-- What was measured is the value under the type at the top: a refusal of its own, too little room for its words or its pool, or its sheet over both buffers.
use Rattle.std.specs.Prelude.{Err}
use Rattle.std.proofs.lemmas.Result.{err_from_is_err_and}
use Rattle.decode.specs.Answers.{Fills}
use Rattle.decode.proofs.FillLaws as laws
use Rattle.decode.proofs.TopLaws as top
use mathlib.Core.Path.{sym, ap, subst, ◌∙◌}
use mathlib.Core.Bool.{not}
use borrow.Author.Rules.{rules}
use Rattle.decode.proofs.decode.Goals as goal

pub returns-then-not-admit_type : goal.returns-then-not-admit_type
returns-then-not-admit_type c = search laws.f_type

pub top_bare-bare-requires : goal.top_bare-bare-requires
top_bare-bare-requires c = top.type_at c.args.ty.now (sym c.admit_type.ensures ∙ c.if-not-admit_type.false)

pub measure-requires : goal.measure-requires
measure-requires c = top.at_top (top.type_at c.args.ty.now (sym c.admit_type.ensures ∙ c.if-not-admit_type.false)) c.top_bare-bare.ensures

pub returns-in_err-size : goal.returns-in_err-size
returns-in_err-size c =
    let p = err_from_is_err_and c.from_residual.result c.from_residual.ensures.1 in
    subst (λ r. Fills c.args.key c.args.ty.now c.args.bytes.now c.args.words.now c.args.pool.now r c.args.words.now c.args.pool.now) (sym (p.1 ∙ ap Err p.2))
    (laws.f_bad (laws.measured c.admit_type.ensures (ap not c.if-not-admit_type.false) c.top_bare-bare.ensures c.in_err-size.ensures))

pub returns-then-words-size : goal.returns-then-words-size
returns-then-words-size c =
    laws.f_words (laws.measured c.admit_type.ensures (ap not c.if-not-admit_type.false) c.top_bare-bare.ensures c.in_ok-size.ensures)
    (search rules) c.if-words-size.true

pub returns-then-pool-size : goal.returns-then-pool-size
returns-then-pool-size c =
    laws.f_pool (laws.measured c.admit_type.ensures (ap not c.if-not-admit_type.false) c.top_bare-bare.ensures c.in_ok-size.ensures)
    c.if-words-size.false (search rules) c.if-pool-size.true

pub returns : goal.returns
returns c =
    laws.f_done (laws.measured c.admit_type.ensures (ap not c.if-not-admit_type.false) c.top_bare-bare.ensures c.in_ok-size.ensures)
    c.if-words-size.false c.if-pool-size.false c.put_sheet.ensures

-- `read_type` meets its contract: by a carriage return, a bad word, or the answer of admission.
use Rattle.std.proofs.lemmas.Result.{err_from_is_err_and}
use borrow.Author.Rules.{rules}
use mathlib.Core.Path.{sym, ◌∙◌}
use Rattle.keylines.proofs.FirstLaws as laws
use Rattle.keylines.proofs.first.read_type.Goals as goal

pub returns-then-is_some : goal.returns-then-is_some
returns-then-is_some c = record { is = laws.text_return c.find.ensures (sym c.is_some.ensures ∙ c.if-is_some.true) }

pub returns-in_err-n : goal.returns-in_err-n
returns-in_err-n c =
    let p = err_from_is_err_and c.from_residual.result c.from_residual.ensures.1 in
    rw (p.1, p.2) (record { is = laws.text_why c.find.ensures (sym c.is_some.ensures ∙ c.if-is_some.false) _ c.in_err-n.ensures (search rules) })

pub returns-then-admit_type : goal.returns-then-admit_type
returns-then-admit_type c = record { is = laws.text_admitted c.find.ensures (sym c.is_some.ensures ∙ c.if-is_some.false) c.in_ok-n.ensures c.admit_type.ensures c.if-admit_type.true }

pub returns-else-admit_type : goal.returns-else-admit_type
returns-else-admit_type c = record { is = laws.text_not_admitted c.find.ensures (sym c.is_some.ensures ∙ c.if-is_some.false) c.in_ok-n.ensures c.admit_type.ensures c.if-admit_type.false }

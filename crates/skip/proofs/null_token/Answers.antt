-- The escape is due inside a group, and where it is required.
use Rattle.std.proofs.lemmas.Result.{err_from_is_err_and}
use Rattle.skip.proofs.Marks as laws
use Rattle.skip.proofs.null_token.Goals.{then-escape, else-escape}
use Rattle.skip.proofs.null_token.Goals as goal

pub returns-in_err-n : goal.returns-in_err-n
returns-in_err-n c =
    let p = err_from_is_err_and c.from_residual.result c.from_residual.ensures.1 in
    rw (p.1, p.2)
    (elim c.if-escape.branch [
      | then-escape w ↦ laws.null_refused _ _ _ c.requires (laws.due_asked _ _ w.null-is w.if-escape.true) c.in_err-n.ensures
      | else-escape w ↦ laws.null_refused _ _ _ c.requires (laws.due_inside _ _ w.null-is w.if-escape.false) c.in_err-n.ensures
    ])

pub returns : goal.returns
returns c = elim c.if-escape.branch [
  | then-escape w ↦ laws.null_passed _ _ _ c.requires (laws.due_asked _ _ w.null-is w.if-escape.true) c.in_ok-n.ensures
  | else-escape w ↦ laws.null_passed _ _ _ c.requires (laws.due_inside _ _ w.null-is w.if-escape.false) c.in_ok-n.ensures
]

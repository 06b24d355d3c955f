-- Room for the lower end is asked first; above_field answers for the upper one and leaves it alone where it refuses, and then the lower one is copied.
use Rattle.std.proofs.lemmas.Result.{err_from_is_err_and}
use Rattle.key.proofs.EndLaws as laws
use Rattle.key.proofs.bounding.write_ends.Goals as goal

pub returns-in_err-end : goal.returns-in_err-end
returns-in_err-end c =
    let a = c.args in
    let p = err_from_is_err_and c.from_residual.result c.from_residual.ensures.1 in
    rw (p.1, p.2) (laws.high_room a.key.now a.lower.now a.upper.now a.n c.requires c.if-lower-n.false c.in_err-end.ensures)

pub returns : goal.returns
returns c =
    let a = c.args in
    laws.ends_done a.key.now a.lower.now a.upper.now a.n c.requires c.if-lower-n.false c.in_ok-end.ensures c.copy_front.ensures

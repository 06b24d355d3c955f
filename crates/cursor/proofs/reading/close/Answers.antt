-- Outside every group nothing closes; in one the end is at the front of the rest.
use Rattle.cursor.proofs.ReadSteps as laws
use Rattle.std.proofs.lemmas.Result.{err_from_is_err_and}
use Rattle.cursor.proofs.reading.close.Goals as goal

pub returns-in_err-depth : goal.returns-in_err-depth
returns-in_err-depth c = let p = err_from_is_err_and c.from_residual.result c.from_residual.ensures.1 in rw (p.1, p.2) (laws.close_none _ _ c.in_err-depth.ensures)

pub returns : goal.returns
returns c = laws.group_closed _ _ _ c.remaining.ensures _ c.in_ok-depth.ensures _ _ c.moved.ensures c.close.ensures

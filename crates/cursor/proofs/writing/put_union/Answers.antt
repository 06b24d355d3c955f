-- At depth 256 nothing is put; below it the tag, one deeper.
use Rattle.cursor.proofs.WriteSteps as laws
use Rattle.std.proofs.lemmas.Result.{err_from_is_err_and}
use Rattle.cursor.proofs.writing.put_union.Goals as goal

pub returns-in_err-depth : goal.returns-in_err-depth
returns-in_err-depth c = let p = err_from_is_err_and c.from_residual.result c.from_residual.ensures.1 in rw (p.1, p.2) (laws.union_none _ _ _ c.in_err-depth.ensures _)

pub returns : goal.returns
returns c = laws.union_left _ _ _ _ _ _ c.wrote.ensures c.in_ok-depth.ensures _ _ _ c.new-tag.ensures c.put_plain.ensures

-- By the depth: 00 alone, or with its escape.
use Rattle.cursor.proofs.WriteSteps as laws
use Rattle.cursor.proofs.writing.put_null.Goals.{then-depth-eq0, else-depth-eq0}
use Rattle.cursor.proofs.writing.put_null.Goals as goal

pub returns : goal.returns
returns c = elim c.if-depth-eq0.branch [
  | then-depth-eq0 w ↦ laws.null_left _ _ _ _ _ _ c.depth_of-depth.ensures c.wrote.ensures c.put_plain.ensures w.n-is w.if-depth-eq0.true
  | else-depth-eq0 w ↦ laws.null_in_left _ _ _ _ _ _ c.depth_of-depth.ensures c.wrote.ensures c.put_plain.ensures w.n-is w.if-depth-eq0.false
]

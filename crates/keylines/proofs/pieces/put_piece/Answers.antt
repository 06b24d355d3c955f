use native.Mathlib.Omega.{arith}
use borrow.Author.Rules.{rules}
use Rattle.keylines.proofs.RowLaws as laws
use Rattle.keylines.proofs.pieces.put_piece.Goals as goal

pub loop-at-preserved : goal.loop-at-preserved
loop-at-preserved c = laws.piece_row c.loop-at.invariant c.tell_line-row.ensures (omega arith) (search rules) c.put_told-len.ensures

pub returns-after-loop-at : goal.returns-after-loop-at
returns-after-loop-at c = laws.piece_end c.loop-at.invariant c.loop-at-test.false

pub returns-else-len-ge-MAX_ROW : goal.returns-else-len-ge-MAX_ROW
returns-else-len-ge-MAX_ROW c = laws.piece_full c.loop-at.invariant c.if-len-ge-MAX_ROW.false

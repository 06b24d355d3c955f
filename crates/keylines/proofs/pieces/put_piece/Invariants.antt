-- `put_piece` meets its contract: the rows are those put, and then those of the lines that are left; a line less is left each turn.
use Prim.Native.Nat.{◌-◌}
use lib.ListN.{length}
use Rattle.keylines.proofs.RowLaws as laws
use Rattle.keylines.proofs.pieces.put_piece.Given as goal

abbrev pub invariant-loop-at : goal.invariant-loop-at
invariant-loop-at l = laws.PieceDone l.ty l.input (record { at = l.initial.at; line = l.initial.line }) l.initial.piece l.piece l.at l.line l.len

abbrev pub decreases-loop-at : goal.decreases-loop-at
decreases-loop-at l = length l.input - l.at

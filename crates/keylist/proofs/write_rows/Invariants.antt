-- `write_rows` is safe and ends: a piece leaves what the next asks for, and less of the input than it found.
use Prim.Native.Nat.{◌-◌}
use lib.ListN.{length}
use Rattle.keylines.specs.Answers.{PieceAsked}
use Rattle.keylist.proofs.write_rows.Given as goal

abbrev pub invariant-loop-left : goal.invariant-loop-left
invariant-loop-left g l = PieceAsked l.input l.ty l.left

abbrev pub decreases-loop-left : goal.decreases-loop-left
decreases-loop-left g l = length l.input - l.left.at

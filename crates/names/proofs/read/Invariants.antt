-- The reader holds a reader of the text behind the mark; the steps noted and those that such a reader has left are the new reader's twelve (`Going`). The number of
-- steps left falls.
use Rattle.std.proofs.Common.{◌-◌}
use Rattle.names.proofs.StepLaws.{Going}
use Rattle.names.proofs.read.Given as goal

abbrev pub invariant-loop-i : goal.invariant-loop-i
invariant-loop-i l = Going l.name l.reader.bytes.now l.reader.at l.reader.done l.given l.i (12 - l.i)

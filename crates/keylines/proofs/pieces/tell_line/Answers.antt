-- `tell_line` meets its contract: the line ends at the line feed found, or is the last and bad.
use mathlib.Core.Path.{refl}
use Rattle.keylines.proofs.RowLaws as laws
use Rattle.keylines.proofs.pieces.tell_line.Goals as goal

pub returns-in-Some : goal.returns-in-Some
returns-in-Some c = let f = rw c.in-Some.is at c.find.ensures in laws.line_told f.found c.tell_key.ensures (f.inside _ refl)

pub returns-in-None : goal.returns-in-None
returns-in-None c = let f = rw c.in-None.is at c.find.ensures in laws.line_bad f.found c.requires.left refl

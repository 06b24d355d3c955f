-- `type_word` meets its contract: the digits left go on from the number that those before them make.
use Rattle.keylines.proofs.WordLaws as laws
use Rattle.keylines.proofs.types.type_word.Given as goal

abbrev pub invariant-loop-b : goal.invariant-loop-b
invariant-loop-b l = laws.DigitsRead l.text l.n l.b-index

-- `type_words` meets its contract: the line's words are those read, and then those of the text that is left; a word less is left each turn.
use mathlib.Core.Path.{◌≡◌}
use Prim.Native.Nat.{◌-◌}
use lib.ListN.{length}
use Rattle.keylines.proofs.WordLaws as laws
use Rattle.keylines.proofs.types.type_words.Given as goal

abbrev pub invariant-loop-x : goal.invariant-loop-x
invariant-loop-x l = laws.WordsTaken l.text l.ty l.start l.n × (length l.ty ≡ length l.initial.ty)

abbrev pub decreases-loop-x : goal.decreases-loop-x
decreases-loop-x l = length l.text - l.start

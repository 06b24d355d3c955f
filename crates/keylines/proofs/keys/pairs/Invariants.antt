-- `pairs` meets its contract: the key is the bytes put so far, and then what the text that is left holds.
use mathlib.Core.Path.{◌≡◌}
use Rattle.keylines.proofs.PairLaws as laws
use Rattle.keylines.proofs.keys.pairs.Given as goal

abbrev pub invariant-loop-pair : goal.invariant-loop-pair
invariant-loop-pair l = laws.PairsRead l.text l.buf l.pair-iterator.rest.now l.n × (l.pair-iterator.size ≡ 2)

-- No key is bare; of a key, whatever type stands at the top, its kind is the first word.
use Rattle.decode.proofs.TopLaws as laws
use native.Mathlib.Omega.{arith}
use Rattle.decode.proofs.top_bare.Goals as goal

pub bounds-ty-0 : goal.bounds-ty-0
bounds-ty-0 c = omega (arith, laws.top_in c.requires)

pub returns-then-key : goal.returns-then-key
returns-then-key c = laws.key_top c.if-key.true

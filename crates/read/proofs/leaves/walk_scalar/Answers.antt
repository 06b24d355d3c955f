-- By the kind at the place: the law of that kind says which type stands there, and where it ends.
use Rattle.read.proofs.ValueLaws as values
use native.Mathlib.Omega.{arith}
use Rattle.read.proofs.LeafLaws as laws
use Rattle.read.proofs.leaves.walk_scalar.Goals as goal

pub bounds-ty-at : goal.bounds-ty-at
bounds-ty-at c = omega (arith, values.at_in c.requires.typed)

pub returns-in-1 : goal.returns-in-1
returns-in-1 c = search laws.s_int

pub returns-in-2 : goal.returns-in-2
returns-in-2 c = search laws.s_str

pub returns-in-3 : goal.returns-in-3
returns-in-3 c = search laws.s_bytes

pub bounds-ty-j : goal.bounds-ty-j
bounds-ty-j c = omega (arith, laws.ref_second c.requires.typed (laws.is_ref c.requires.typed c.requires.plain.0 (λ z. omega arith) (λ z. omega arith) (λ z. omega arith)))

pub returns-in_default : goal.returns-in_default
returns-in_default c = laws.s_ref (laws.is_ref c.requires.typed c.requires.plain.0 (λ z. omega arith) (λ z. omega arith) (λ z. omega arith)) c.walk_ref.ensures

-- The fields that the definition reads bare, with the two words of the record before them.
use Rattle.read.proofs.KeyLaws as laws
use native.Mathlib.Omega.{arith}
use Rattle.read.proofs.keys.walk_bare.Goals as goal

pub bounds-ty-1 : goal.bounds-ty-1
bounds-ty-1 c = omega (arith, (laws.k_next c.requires.typed c.requires.record_type).0)

pub walk_fields-requires : goal.walk_fields-requires
walk_fields-requires c = ((laws.k_next c.requires.typed c.requires.record_type).1, omega arith)

pub more-requires : goal.more-requires
more-requires c = (omega arith, omega arith, laws.k_small c.requires.record_type c.walk_fields.ensures c.requires.typed (omega (arith, c.well_formed.0.1)))

pub returns : goal.returns
returns c = rw c.more.ensures (laws.k_record c.requires.record_type c.walk_fields.ensures)

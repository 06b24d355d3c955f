-- Whichever walk went, it read what is read so.
use Rattle.decode.proofs.TopLaws as laws
use Rattle.decode.proofs.walk.Goals as goal

pub walk_bare-requires : goal.walk_bare-requires
walk_bare-requires c = record { typed = c.requires.type; record_type = c.requires.kind c.if-bare.true }

pub returns-then-bare : goal.returns-then-bare
returns-then-bare c = laws.walked_bare c.if-bare.true c.walk_bare.ensures

pub returns-else-bare : goal.returns-else-bare
returns-else-bare c = laws.walked_value c.if-bare.false c.walk_value.ensures

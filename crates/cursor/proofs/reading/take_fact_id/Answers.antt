-- The reference is read at the front of the rest, so what it took ends in the key.
use Rattle.cursor.proofs.ReadSteps as laws
use Rattle.cursor.proofs.reading.take_fact_id.Goals as goal

pub taken_int-requires : goal.taken_int-requires
taken_int-requires c = search laws.id_room

pub returns : goal.returns
returns c = search laws.id_taken

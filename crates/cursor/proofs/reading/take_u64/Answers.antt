-- The unsigned integer is read at the front of the rest, so what it took ends in the key.
use Rattle.cursor.proofs.ReadSteps as laws
use Rattle.cursor.proofs.reading.take_u64.Goals as goal

pub taken_int-requires : goal.taken_int-requires
taken_int-requires c = search laws.u64_room

pub returns : goal.returns
returns c = search laws.u64_taken

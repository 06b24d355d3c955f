-- The text is read at the front of the rest: the place there is one in the key, and scratch is the same.
use Rattle.cursor.proofs.ReadSteps as laws
use Rattle.cursor.proofs.reading.take_str.Goals as goal

pub taken_part-requires : goal.taken_part-requires
taken_part-requires c = search laws.str_room

pub returns : goal.returns
returns c = search laws.str_hands

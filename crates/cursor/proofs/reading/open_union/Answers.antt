-- The union opens at the front of the rest.
use Rattle.cursor.proofs.ReadSteps as laws
use Rattle.cursor.proofs.reading.open_union.Goals as goal

pub returns : goal.returns
returns c = search laws.union_taken

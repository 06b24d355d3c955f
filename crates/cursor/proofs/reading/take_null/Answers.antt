-- An escape is due where the depth is not 0, as `null_at` says.
use Rattle.cursor.proofs.ReadSteps as laws
use Rattle.cursor.proofs.reading.take_null.Goals as goal

pub returns : goal.returns
returns c = search laws.null_taken

-- The record opens at the front of the rest.
use Rattle.cursor.proofs.ReadSteps as laws
use Rattle.cursor.proofs.reading.open_record.Goals as goal

pub returns : goal.returns
returns c = search laws.record_opened

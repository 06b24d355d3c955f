-- What the field answered and left is what the step does, at the depth that stays.
use Rattle.cursor.proofs.WriteSteps as laws
use Rattle.cursor.proofs.writing.put_fact_id.Goals as goal

pub returns : goal.returns
returns c = search laws.id_left

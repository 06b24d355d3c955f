-- The walk over bare fields, with the place behind their types asked for: its refusal, or its two places.
use Rattle.key.proofs.PassLaws as laws
use Rattle.key.proofs.passing.pass_fields.Goals as goal

pub returns-in-Err : goal.returns-in-Err
returns-in-Err c = laws.fields_refused c.in-Err.ensures

pub returns-in-Ok : goal.returns-in-Ok
returns-in-Ok c = laws.fields_to c.in-Ok.ensures

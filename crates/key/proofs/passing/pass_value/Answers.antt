-- The walk at depth 0, with the place behind the type asked for: its refusal, or its two places.
use Rattle.key.proofs.PassLaws as laws
use Rattle.key.proofs.passing.pass_value.Goals as goal

pub returns-in-Err : goal.returns-in-Err
returns-in-Err c = laws.value_refused c.in-Err.ensures

pub returns-in-Ok : goal.returns-in-Ok
returns-in-Ok c = laws.value_to c.in-Ok.ensures

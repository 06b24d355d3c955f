-- The two numbers of the cursor are those that the definition reads.
use Rattle.tuple.proofs.steps.cursor_at.Goals as goal

pub returns : goal.returns
returns c = cc

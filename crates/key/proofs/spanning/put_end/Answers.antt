-- The value is written where the fields ended.
use Rattle.key.proofs.SpanningLaws as laws
use Rattle.key.proofs.spanning.put_end.Goals as goal

pub returns : goal.returns
returns c = search laws.end_put

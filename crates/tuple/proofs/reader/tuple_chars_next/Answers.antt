-- The reader's step on slice, place and flag, and its answer as numbers: what each promises, one after the other.
use Rattle.tuple.proofs.StepLaws as laws
use Rattle.tuple.proofs.reader.tuple_chars_next.Goals as goal

pub returns : goal.returns
returns c = laws.stepped _ c.step_at-t.result _ c.of_step.ensures c.step_at-t.ensures

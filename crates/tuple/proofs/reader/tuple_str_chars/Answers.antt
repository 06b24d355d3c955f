-- The reader's step on slice, place and flag, and its answer as numbers: what each promises, one after the other.
use Rattle.tuple.proofs.StepLaws as laws
use Rattle.tuple.proofs.reader.tuple_str_chars.Goals as goal

pub returns : goal.returns
returns c = laws.opened c.open_at.result _ _ _ c.from.ensures c.open_at.ensures.answer

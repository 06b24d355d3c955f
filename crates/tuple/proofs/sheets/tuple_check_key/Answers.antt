-- The library's call, and its answer as numbers: what each promises, one after the other.
use Rattle.tuple.proofs.Laws as laws
use Rattle.tuple.proofs.sheets.tuple_check_key.Goals as goal

pub returns : goal.returns
returns c = laws.checked _ _ c.check_key.result _ c.from.ensures c.check_key.ensures

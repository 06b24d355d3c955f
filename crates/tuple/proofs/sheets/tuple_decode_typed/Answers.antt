-- The library's call, and its answer as numbers: what each promises, one after the other.
use Rattle.tuple.proofs.Laws as laws
use Rattle.tuple.proofs.sheets.tuple_decode_typed.Goals as goal

pub returns : goal.returns
returns c = laws.filled _ _ c.decode_typed.result _ _ _ c.from.ensures c.decode_typed.ensures

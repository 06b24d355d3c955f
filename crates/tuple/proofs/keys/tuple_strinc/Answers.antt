-- The library's call, and its answer as numbers: what each promises, one after the other.
use Rattle.tuple.proofs.Laws as laws
use Rattle.tuple.proofs.keys.tuple_strinc.Goals as goal

pub returns : goal.returns
returns c = laws.wrote _ _ _ _ c.from.ensures c.strinc.ensures

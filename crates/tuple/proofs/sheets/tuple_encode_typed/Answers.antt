-- The library's call, and its answer as numbers: what each promises, one after the other.
use Rattle.tuple.proofs.Laws as laws
use Rattle.tuple.proofs.Refusals.{refusals_numbered}
use Rattle.tuple.proofs.sheets.tuple_encode_typed.Goals as goal

pub returns : goal.returns
returns c =
    let e = c.encode_typed in
    laws.encoded_as e.result (refusals_numbered.encode_typed _ _ _ _) c.from.ensures e.ensures

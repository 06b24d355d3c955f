-- The inner call with the fields of a top record bare; the count is few by the law of the definition's call.
use Rattle.decode.proofs.FillLaws as laws
use Rattle.format.proofs.SoundLaws.{all_bytes}
use native.Mathlib.Omega.{arith}
use Rattle.decode.proofs.decode_key.Goals as goal

pub returns : goal.returns
returns c =
    laws.key_call (all_bytes c.args.bytes.now (λ i. omega (arith, c.type_inv.bytes i)))
    c.decode.ensures

-- The value that the key decodes to is what its bytes hold at depth 0, as one field.
use Rattle.std.proofs.Common.{arith}
use Rattle.format.proofs.SoundLaws.{all_bytes}
use Rattle.fill.proofs.TopLaws as laws
use Rattle.fill.proofs.groups.fill_value.Goals as goal

pub returns : goal.returns
returns c = laws.value_filled (all_bytes c.args.bytes.now (λ i. omega (arith, c.type_inv.bytes i))) c.fill_fields.ensures

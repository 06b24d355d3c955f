-- The fields of what the key decodes to are what its bytes hold at depth 0; the record's two words go before theirs.
use Rattle.std.proofs.Common.{arith}
use Rattle.format.proofs.SoundLaws.{all_bytes}
use Rattle.fill.proofs.TopLaws as laws
use Rattle.fill.proofs.groups.fill_bare.Goals as goal

pub returns-then-words-ge2 : goal.returns-then-words-ge2
returns-then-words-ge2 c = laws.bare_filled (all_bytes c.args.bytes.now (λ i. omega (arith, c.type_inv.bytes i))) c.fill_fields-r.ensures c.put_pair.ensures

pub returns-else-words-ge2 : goal.returns-else-words-ge2
returns-else-words-ge2 c = laws.bare_short (omega (arith, c.if-words-ge2.false))

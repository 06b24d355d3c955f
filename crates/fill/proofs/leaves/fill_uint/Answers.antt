-- An unsigned integer is as many bytes behind its mark as the mark says.
use Rattle.fill.proofs.NumberLaws as laws
use Rattle.fill.proofs.leaves.fill_uint.Goals as goal

pub returns : goal.returns
returns c = laws.uint_filled c.requires.1 c.width_at-k.ensures c.number_at-x.ensures c.put_pair.ensures

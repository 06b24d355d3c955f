-- Two stores side by side are one put of two words.
use Rattle.std.proofs.Common.{arith, length-set}
use Rattle.fill.proofs.PlaceLaws as places
use Rattle.fill.proofs.leaves.put_pair.Goals as goal

pub bounds-words-w-2 : goal.bounds-words-w-2
bounds-words-w-2 c = simp length-set (omega arith)

pub returns : goal.returns
returns c = places.pair_put c.args.words.now c.args.w c.args.kind c.args.x c.requires

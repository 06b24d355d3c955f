-- What a value took of the pool, by the two marks of runs.
use Rattle.std.proofs.Common.{arith}
use Rattle.fill.proofs.LeafLaws as laws
use Rattle.fill.proofs.leaves.pool_taken.Goals as goal

pub returns-in-33 : goal.returns-in-33
returns-in-33 c = laws.taken_str c.args.mark c.args.x c.in-33.is

pub returns-in-83 : goal.returns-in-83
returns-in-83 c = laws.taken_bytes c.args.mark c.args.x c.in-83.is

pub returns-in_default : goal.returns-in_default
returns-in_default c = laws.taken_none c.args.mark c.args.x (λ z. omega arith) (λ z. omega arith)

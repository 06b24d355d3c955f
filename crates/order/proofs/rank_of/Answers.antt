-- What is no kind is ranked with Null; the kinds themselves compute.
use Rattle.std.proofs.Common.{arith}
use Rattle.order.proofs.Steps.{rank_other}
use Rattle.order.proofs.rank_of.Goals as goal

pub returns-in_default : goal.returns-in_default
returns-in_default c = rank_other c.args.kind (omega arith) (omega arith) (omega arith) (omega arith) (omega arith) (omega arith)

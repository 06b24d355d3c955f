-- By rank: integers with the top bit flipped, references as they are, runs byte by byte; both walks stand behind their values.
use Rattle.order.proofs.Steps as laws
use Rattle.order.proofs.compare_scalar.Goals as goal

pub returns-then-rank-eq-RANK_INT : goal.returns-then-rank-eq-RANK_INT
returns-then-rank-eq-RANK_INT c = search laws.an_int

pub returns-then-rank-eq-RANK_FACT : goal.returns-then-rank-eq-RANK_FACT
returns-then-rank-eq-RANK_FACT c = search laws.a_ref

pub returns-then-pa-s : goal.returns-then-pa-s
returns-then-pa-s c = search laws.long_a

pub returns-then-pb-s : goal.returns-then-pb-s
returns-then-pb-s c = search laws.long_b

pub returns : goal.returns
returns c = search laws.a_run

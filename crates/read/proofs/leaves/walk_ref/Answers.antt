-- A reference under its predicate is one that is read without it, and then judged.
use native.Mathlib.Omega.{arith}
use Rattle.std.proofs.lemmas.Result.{err_from_is_err_and}
use Rattle.read.proofs.LeafLaws as laws
use Rattle.read.proofs.leaves.walk_ref.Goals as goal

pub returns-in_err-fact : goal.returns-in_err-fact
returns-in_err-fact c = let p = err_from_is_err_and c.from_residual.result c.from_residual.ensures.1 in rw (p.1, p.2) (laws.ref_bad c.get_fact_id.ensures c.in_err-fact.was)

pub returns-in_err-judge : goal.returns-in_err-judge
returns-in_err-judge c = let p = err_from_is_err_and c.from_residual-in_err-judge.result c.from_residual-in_err-judge.ensures.1 in rw (p.1, p.2) (laws.ref_other c.get_fact_id.ensures c.in_ok-fact.was c.judge.ensures c.in_err-judge.was)

pub overflow_add-i : goal.overflow_add-i
overflow_add-i c = omega (arith, laws.ref_within _ c.get_fact_id.ensures c.in_ok-fact.was)

pub returns : goal.returns
returns c = rw c.leaf.ensures (laws.ref_good c.get_fact_id.ensures c.in_ok-fact.was c.judge.ensures c.in_ok-judge.was)

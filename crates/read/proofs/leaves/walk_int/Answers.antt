-- What `get_i64` reads is what the definition reads; it lies within the bytes left.
use native.Mathlib.Omega.{arith}
use Rattle.std.proofs.lemmas.Result.{err_from_is_err_and}
use Rattle.read.proofs.LeafLaws as laws
use Rattle.read.proofs.leaves.walk_int.Goals as goal

pub returns-in_err-word : goal.returns-in_err-word
returns-in_err-word c = let p = err_from_is_err_and c.from_residual.result c.from_residual.ensures.1 in rw (p.1, p.2) (laws.int_bad c.get_i64.ensures c.in_err-word.was)

pub overflow_add-i : goal.overflow_add-i
overflow_add-i c = omega (arith, laws.int_within _ c.get_i64.ensures c.in_ok-word.was)

pub returns : goal.returns
returns c = rw c.leaf.ensures (laws.int_good c.get_i64.ensures c.in_ok-word.was)

-- An Int takes no bytes of the pool, a run as many as its second word says: `leaf_in` by the kind's number.
use Rattle.fit.proofs.Leaves.{leaf_int, leaf_run, run_short}
use native.Mathlib.Omega.{arith}
use Rattle.format.proofs.PlainLaws.{pool_run}
use Rattle.fit.proofs.fit_leaf.Goals as goal

pub returns-then-kind-eq-KIND_INT : goal.returns-then-kind-eq-KIND_INT
returns-then-kind-eq-KIND_INT c = search leaf_int

pub overflow_add-end : goal.overflow_add-end
overflow_add-end c = let pool = pool_run c.args.kind c.args.x c.if-kind-eq-KIND_INT.false c.requires.4 in omega arith

pub overflow_add-result-4 : goal.overflow_add-result-4
overflow_add-result-4 c = let pool = pool_run c.args.kind c.args.x c.if-kind-eq-KIND_INT.false c.requires.4 in let b = run_short c.args.pool.now c.args.x c.args.p _ c.escaped_len.ensures (omega arith) in omega arith

pub returns : goal.returns
returns c = search leaf_run

pub slice_bounds-escaped_len-end : goal.slice_bounds-escaped_len-end
slice_bounds-escaped_len-end c = let pool = pool_run c.args.kind c.args.x c.if-kind-eq-KIND_INT.false c.requires.4 in omega arith

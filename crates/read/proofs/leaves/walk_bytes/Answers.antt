-- What `marked_run` found is the payload that the definition reads; it lies within the bytes left.
use native.Mathlib.Omega.{arith}
use Rattle.std.proofs.lemmas.Result.{err_from_is_err_and}
use Rattle.read.proofs.LeafLaws as laws
use Rattle.read.proofs.leaves.walk_bytes.Goals as goal

pub returns-in_err-run : goal.returns-in_err-run
returns-in_err-run c = let p = err_from_is_err_and c.from_residual.result c.from_residual.ensures.1 in rw (p.1, p.2) (laws.bytes_bad c.marked_run.ensures c.in_err-run.was)

pub overflow_add-i : goal.overflow_add-i
overflow_add-i c =
    let f = laws.run_within 0x53 c.args.rest.now c.marked_run.ensures c.in_ok-run.was in
    omega (arith, f.within)

pub overflow_add-i-2 : goal.overflow_add-i-2
overflow_add-i-2 c =
    let f = laws.run_within 0x53 c.args.rest.now c.marked_run.ensures c.in_ok-run.was in
    omega (arith, f.within)

pub returns : goal.returns
returns c = rw c.leaf.ensures (laws.bytes_good c.marked_run.ensures c.in_ok-run.was)

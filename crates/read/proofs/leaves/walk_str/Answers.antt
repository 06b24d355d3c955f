-- What `marked_run` found is the payload that the definition judges; the part judged is that run.
use native.Mathlib.Omega.{arith}
use Rattle.std.proofs.lemmas.Result.{err_from_is_err_and}
use Rattle.read.proofs.LeafLaws as laws
use Rattle.read.proofs.leaves.walk_str.Goals as goal

pub returns-in_err-run : goal.returns-in_err-run
returns-in_err-run c = let p = err_from_is_err_and c.from_residual.result c.from_residual.ensures.1 in rw (p.1, p.2) (laws.str_bad c.marked_run.ensures c.in_err-run.was)

pub slice_bounds-payload_is_text-count : goal.slice_bounds-payload_is_text-count
slice_bounds-payload_is_text-count c =
    let f = laws.run_within 0x21 c.args.rest.now c.marked_run.ensures c.in_ok-run.was in
    omega (arith, f.escapes)

pub slice_bounds-payload_is_text-start : goal.slice_bounds-payload_is_text-start
slice_bounds-payload_is_text-start c =
    let f = laws.run_within 0x21 c.args.rest.now c.marked_run.ensures c.in_ok-run.was in
    omega (arith, f.escapes)

pub payload_is_text-requires : goal.payload_is_text-requires
payload_is_text-requires c = let f = laws.run_within 0x21 c.args.rest.now c.marked_run.ensures c.in_ok-run.was in f.long

pub returns-then-not-payload_is_text : goal.returns-then-not-payload_is_text
returns-then-not-payload_is_text c = laws.str_not c.marked_run.ensures c.in_ok-run.was c.payload_is_text.ensures c.if-not-payload_is_text.true

pub overflow_add-i : goal.overflow_add-i
overflow_add-i c =
    let f = laws.run_within 0x21 c.args.rest.now c.marked_run.ensures c.in_ok-run.was in
    omega (arith, f.within)

pub overflow_add-i-2 : goal.overflow_add-i-2
overflow_add-i-2 c =
    let f = laws.run_within 0x21 c.args.rest.now c.marked_run.ensures c.in_ok-run.was in
    omega (arith, f.within)

pub returns : goal.returns
returns c = rw c.leaf.ensures (laws.str_good c.marked_run.ensures c.in_ok-run.was c.payload_is_text.ensures c.if-not-payload_is_text.false)

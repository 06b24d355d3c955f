-- What `marked_run` found is what `get_str` reads, and its payload is judged before it is placed.
use Rattle.std.proofs.Common.{arith}
use Rattle.std.proofs.lemmas.Result.{err_from_is_err_and}
use Rattle.scalar.proofs.Placing as laws
use Rattle.scalar.proofs.payloads.get_str.Goals as goal

pub returns-in_err-run : goal.returns-in_err-run
returns-in_err-run c =
    let e = err_from_is_err_and c.from_residual.result c.from_residual.ensures.1 in
    rw (e.1, e.2) (laws.str_refused c.args.bytes.now c.args.scratch.now c.in_err-run.field-0.0 c.in_err-run.ensures)

pub slice_bounds-payload_is_text-count : goal.slice_bounds-payload_is_text-count
slice_bounds-payload_is_text-count c = let f = laws.str_found c.args.bytes.now c.args.scratch.now c.in_ok-run.run' c.in_ok-run.ensures in omega (arith, f.escapes, f.within)

pub slice_bounds-payload_is_text-start : goal.slice_bounds-payload_is_text-start
slice_bounds-payload_is_text-start c = let f = laws.str_found c.args.bytes.now c.args.scratch.now c.in_ok-run.run' c.in_ok-run.ensures in omega (arith, f.escapes, f.within)

pub payload_is_text-requires : goal.payload_is_text-requires
payload_is_text-requires c = (laws.str_found c.args.bytes.now c.args.scratch.now c.in_ok-run.run' c.in_ok-run.ensures).long

pub returns-then-not-payload_is_text : goal.returns-then-not-payload_is_text
returns-then-not-payload_is_text c = laws.str_bad c.args.bytes.now c.args.scratch.now c.in_ok-run.run' c.in_ok-run.ensures c.payload_is_text.ensures c.if-not-payload_is_text.true

pub place_payload-requires : goal.place_payload-requires
place_payload-requires c = laws.str_found c.args.bytes.now c.args.scratch.now c.in_ok-run.run' c.in_ok-run.ensures

pub returns : goal.returns
returns c = laws.str_placed c.args.bytes.now c.args.scratch.now c.in_ok-run.run' c.in_ok-run.ensures c.payload_is_text.ensures c.if-not-payload_is_text.false c.place_payload.ensures

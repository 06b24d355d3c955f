-- What `marked_run` found is what `get_bytes` reads, and its payload is placed.
use Rattle.std.proofs.lemmas.Result.{err_from_is_err_and}
use Rattle.scalar.proofs.Placing as laws
use Rattle.scalar.proofs.payloads.get_bytes.Goals as goal

pub returns-in_err-run : goal.returns-in_err-run
returns-in_err-run c =
    let e = err_from_is_err_and c.from_residual.result c.from_residual.ensures.1 in
    rw (e.1, e.2) (laws.bytes_refused c.args.bytes.now c.args.scratch.now c.in_err-run.field-0.0 c.in_err-run.ensures)

pub place_payload-requires : goal.place_payload-requires
place_payload-requires c = laws.bytes_found c.args.bytes.now c.args.scratch.now c.in_ok-run.run' c.in_ok-run.ensures

pub returns : goal.returns
returns c = laws.bytes_placed c.args.bytes.now c.args.scratch.now c.in_ok-run.run' c.in_ok-run.ensures c.place_payload.ensures

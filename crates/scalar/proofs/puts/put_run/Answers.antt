-- Room was asked for the mark and the run together, so both are put or neither.
use Rattle.std.proofs.Common.{arith, length-set}
use Rattle.std.proofs.lemmas.Result.{err_from_is_err_and}
use Rattle.scalar.proofs.Rooms as laws
use Rattle.scalar.proofs.puts.put_run.Goals as goal

pub returns-in_err-room : goal.returns-in_err-room
returns-in_err-room c =
    let a = c.args in
    let e = err_from_is_err_and c.from_residual.result c.from_residual.ensures.1 in
    rw (e.1, e.2) (laws.run_none a.buf.now a.at a.mark a.payload.now c.escaped_len.result c.escaped_len.ensures c.in_err-room.field-0.0 c.in_err-room.ensures)

pub bounds-buf-at : goal.bounds-buf-at
bounds-buf-at c = let a = c.args in omega (arith, laws.run_room a.buf.now a.at a.mark a.payload.now c.escaped_len.result c.escaped_len.ensures c.in_ok-room.ensures)

pub overflow_add-at : goal.overflow_add-at
overflow_add-at c = let a = c.args in omega (arith, laws.run_room a.buf.now a.at a.mark a.payload.now c.escaped_len.result c.escaped_len.ensures c.in_ok-room.ensures)

pub write_escaped-run-requires : goal.write_escaped-run-requires
write_escaped-run-requires c =
    let a = c.args in
    let h = laws.run_room a.buf.now a.at a.mark a.payload.now c.escaped_len.result c.escaped_len.ensures c.in_ok-room.ensures in
    simp length-set (omega arith)

pub shape_of-buf : goal.shape_of-buf
shape_of-buf c = simp length-set at c.write_escaped-run.auto.buf

pub returns : goal.returns
returns c = let a = c.args in laws.run_done a.buf.now a.at a.mark a.payload.now c.escaped_len.result c.escaped_len.ensures c.in_ok-room.ensures c.write_escaped-run.ensures

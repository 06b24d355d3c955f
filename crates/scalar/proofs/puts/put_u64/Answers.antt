-- Room was asked for all of the integer, so all of it is put or nothing.
use Rattle.std.proofs.Common.{arith}
use Rattle.std.proofs.lemmas.Result.{err_from_is_err_and}
use Rattle.format.specs.Scalar.{uint_bytes}
use Rattle.format.specs.Fields.{put_u64_call}
use Rattle.scalar.proofs.Rooms as laws
use Rattle.scalar.proofs.puts.put_u64.Goals as goal

pub returns-in_err-room : goal.returns-in_err-room
unfolding put_u64_call
returns-in_err-room c =
    let a = c.args in
    let e = err_from_is_err_and c.from_residual.result c.from_residual.ensures.1 in
    rw (e.1, e.2) (laws.whole_none a.buf.now a.at c.uint_len.result (uint_bytes a.n) c.uint_len.ensures c.in_err-room.field-0.0 c.in_err-room.ensures)

pub write_u64-requires : goal.write_u64-requires
write_u64-requires c = let a = c.args in omega (arith, laws.whole_room a.buf.now a.at c.uint_len.result (uint_bytes a.n) c.uint_len.ensures c.in_ok-room.ensures)

pub returns : goal.returns
unfolding put_u64_call
returns c = let a = c.args in laws.whole_done a.buf.now a.at c.uint_len.result (uint_bytes a.n) c.uint_len.ensures c.in_ok-room.ensures c.write_u64.ensures

-- Room was asked for all nine bytes, so all of them are put or none.
use Rattle.std.proofs.lemmas.Result.{err_from_is_err_and}
use Rattle.format.specs.Scalar.{ref_bytes}
use Rattle.format.specs.Fields.{put_fact_id_call}
use Rattle.std.proofs.Common.{sym}
use Rattle.scalar.proofs.Widths.{ref_long}
use Rattle.scalar.proofs.Rooms as laws
use Rattle.scalar.proofs.puts.put_fact_id.Goals as goal

pub returns-in_err-room : goal.returns-in_err-room
unfolding put_fact_id_call
returns-in_err-room c =
    let a = c.args in
    let e = err_from_is_err_and c.from_residual.result c.from_residual.ensures.1 in
    rw (e.1, e.2) (laws.whole_none a.buf.now a.at 9 (ref_bytes a.raw) (sym (ref_long a.raw)) c.in_err-room.field-0.0 c.in_err-room.ensures)

pub write_ref-requires : goal.write_ref-requires
write_ref-requires c = let a = c.args in laws.whole_room a.buf.now a.at 9 (ref_bytes a.raw) (sym (ref_long a.raw)) c.in_ok-room.ensures

pub returns : goal.returns
unfolding put_fact_id_call
returns c = let a = c.args in laws.whole_done a.buf.now a.at 9 (ref_bytes a.raw) (sym (ref_long a.raw)) c.in_ok-room.ensures c.write_ref.ensures

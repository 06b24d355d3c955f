-- By the sign: a negative word is written as its complemented magnitude under a mark that counts down; room was asked for all of it.
use Rattle.std.proofs.Common.{arith}
use Rattle.std.proofs.lemmas.Result.{err_from_is_err_and}
use Rattle.scalar.proofs.Rooms as laws
use Rattle.scalar.proofs.Widths.{width_le}
use Rattle.scalar.proofs.puts.put_i64.Goals as goal

pub returns-then-w-lt-NEGATIVE : goal.returns-then-w-lt-NEGATIVE
returns-then-w-lt-NEGATIVE c = search laws.put_pos

pub returns-in_err-room : goal.returns-in_err-room
returns-in_err-room c =
    let a = c.args in
    let e = err_from_is_err_and c.from_residual.result c.from_residual.ensures.1 in
    rw (e.1, e.2) (laws.neg_none a.buf.now a.at a.w _ _ (omega arith) c.magnitude_of-mag.ensures c.int_width-width.ensures c.in_err-room.field-0.0 c.in_err-room.ensures)

pub overflow_cast-width : goal.overflow_cast-width
overflow_cast-width c = omega (arith, width_le c.magnitude_of-mag.result)

pub overflow_sub-width : goal.overflow_sub-width
overflow_sub-width c = omega (arith, width_le c.magnitude_of-mag.result)

pub write_marked-requires : goal.write_marked-requires
write_marked-requires c =
    let a = c.args in
    laws.neg_room a.buf.now a.at a.w _ _ (omega arith) c.magnitude_of-mag.ensures c.int_width-width.ensures c.in_ok-room.ensures

pub returns : goal.returns
returns c =
    let a = c.args in
    laws.neg_done a.buf.now a.at a.w _ _ (omega arith) c.magnitude_of-mag.ensures c.int_width-width.ensures c.in_ok-room.ensures c.write_marked.ensures

-- By the sign in the mark: a negative one is `get_negative`, any other an unsigned integer whose range is narrowed.
use Rattle.std.proofs.lemmas.Result.{err_from_is_err_and}
use Rattle.scalar.proofs.Integers as laws
use Rattle.scalar.proofs.ints.get_i64.Goals as goal

pub returns-then-bytes-eq0 : goal.returns-then-bytes-eq0
returns-then-bytes-eq0 c = search laws.i64_none

pub returns-then-mark-lt-MARK_INT_NEG_MIN : goal.returns-then-mark-lt-MARK_INT_NEG_MIN
returns-then-mark-lt-MARK_INT_NEG_MIN c = search laws.i64_low

pub returns-in_err-read : goal.returns-in_err-read
returns-in_err-read c =
    let e = err_from_is_err_and c.from_residual.result c.from_residual.ensures.1 in
    rw (e.1, e.2) (laws.i64_kept c.args.bytes.now c.if-bytes-eq0.false c.if-mark-lt-MARK_INT_ZERO.false c.in_err-read.ensures)

pub returns-then-read-lt-NEGATIVE : goal.returns-then-read-lt-NEGATIVE
returns-then-read-lt-NEGATIVE c = search (laws.i64_positive, c.in_ok-read.ensures)

pub returns-else-read-lt-NEGATIVE : goal.returns-else-read-lt-NEGATIVE
returns-else-read-lt-NEGATIVE c = search (laws.i64_over, c.in_ok-read.ensures)

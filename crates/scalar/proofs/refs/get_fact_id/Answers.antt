-- A law for each way out, in the order of `get_fact_id`.
use Rattle.std.proofs.lemmas.Result.{err_from_is_err_and}
use Rattle.scalar.proofs.References as laws
use Rattle.scalar.proofs.refs.get_fact_id.Goals as goal

pub returns-in_err-expect_mark : goal.returns-in_err-expect_mark
returns-in_err-expect_mark c =
    let e = err_from_is_err_and c.from_residual.result c.from_residual.ensures.1 in
    rw (e.1, e.2) (laws.id_none c.args.bytes.now c.in_err-expect_mark.ensures)

pub returns-then-bytes-lt-FACT_REF_FIELD_LEN : goal.returns-then-bytes-lt-FACT_REF_FIELD_LEN
returns-then-bytes-lt-FACT_REF_FIELD_LEN c = search (laws.id_short, c.in_ok-expect_mark.ensures)

pub returns-then-sequence-eq0 : goal.returns-then-sequence-eq0
returns-then-sequence-eq0 c = search (laws.id_reserved, c.in_ok-expect_mark.ensures)

pub returns : goal.returns
returns c = search (laws.id_read, c.in_ok-expect_mark.ensures)

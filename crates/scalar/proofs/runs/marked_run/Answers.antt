-- Another mark or none, a run that ends or does not: what `measure_run` says of the bytes behind the mark, one place on.
use Rattle.std.proofs.Common.{◌≡◌, arith}
use Rattle.std.proofs.lemmas.Result.{err_from_is_err_and}
use Rattle.format.specs.declared.refusal.Refusal.TheVariants as made
use Rattle.scalar.proofs.Measures as laws
use Rattle.scalar.proofs.runs.marked_run.Goals as goal

pub returns-in_err-run : goal.returns-in_err-run
returns-in_err-run c =
    let e = err_from_is_err_and c.from_residual-in_err-run.result c.from_residual-in_err-run.ensures.1 in
    let none = c.in_err-run.ensures.ok_part in
    let value = rw none at c.in_err-run.ensures.value in
    let eof : c.in_err-run.field-0.0 ≡ made.UnexpectedEof = cc in
    rw (e.1, e.2, eof) (laws.marked_unended c.args.mark c.args.bytes.now c.in_ok-expect_mark.ensures c.measure_run.result c.measure_run.ensures none)

pub overflow_add-result : goal.overflow_add-result
overflow_add-result c =
    omega (arith, laws.marked_room c.args.mark c.args.bytes.now c.in_ok-expect_mark.ensures c.measure_run.result c.measure_run.ensures c.in_ok-run.run' c.in_ok-run.ensures.ok_part)

pub returns : goal.returns
returns c = laws.marked_ends c.args.mark c.args.bytes.now c.in_ok-expect_mark.ensures c.measure_run.result c.measure_run.ensures c.in_ok-run.run' c.in_ok-run.ensures.ok_part

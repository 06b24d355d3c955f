-- The sheets are judged, then the value is measured, then written: each way out is a law of `Outcomes` about a call with the encoder `encode_typed`.
use native.Mathlib.Omega.{arith}
use Rattle.std.proofs.lemmas.Result.{err_from_is_err_and}
use Rattle.format.specs.Encode.{encode_typed}
use Rattle.format.specs.Calls.{encode_typed_call}
use Rattle.format.specs.Zeros.{encode_typed_zeros}
use Rattle.fit.proofs.Steps.{value_short}
use Rattle.encode.proofs.Keys.{sheets, stands, whole_measured, whole_written}
use Rattle.encode.proofs.Outcomes.{said_no, said_ok, typed_pool, bad_sheets, refuses, no_room, done}
use Rattle.encode.proofs.encode_typed.Goals as goal

pub returns-in_err-admit : goal.returns-in_err-admit
unfolding encode_typed_call encode_typed_zeros
returns-in_err-admit c =
    let p = err_from_is_err_and c.from_residual.result c.from_residual.ensures.1 in
    rw (p.1, p.2) (bad_sheets encode_typed c.args.out.now c.in_err-admit.ensures)

pub fit_value-requires : goal.fit_value-requires
fit_value-requires c = stands (sheets _ _ _ c.in_ok-admit.ensures)

pub returns-in_err-length : goal.returns-in_err-length
unfolding encode_typed_call encode_typed_zeros
returns-in_err-length c =
    let s = sheets _ _ _ c.in_ok-admit.ensures in
    let p = err_from_is_err_and c.from_residual-in_err-length.result c.from_residual-in_err-length.ensures.1 in
    rw (p.1, p.2) (refuses encode_typed s _ (said_no _ (whole_measured s c.in_err-length.ensures)))

pub returns-then-out-length : goal.returns-then-out-length
unfolding encode_typed_call encode_typed_zeros
returns-then-out-length c =
    let s = sheets _ _ _ c.in_ok-admit.ensures in
    let b = said_ok _ (whole_measured s c.in_ok-length.ensures) in
    let short = value_short (stands s) c.in_ok-length.ensures in
    no_room encode_typed s _ b.1 b.2 c.if-out-length.true (omega arith)

pub returns : goal.returns
unfolding encode_typed_call encode_typed_zeros
returns c =
    let s = sheets _ _ _ c.in_ok-admit.ensures in
    let b = said_ok _ (whole_measured s c.in_ok-length.ensures) in
    done encode_typed s _ b.1 b.2 typed_pool c.if-out-length.false (whole_written s c.put_value-put.ensures b.0 b.1)

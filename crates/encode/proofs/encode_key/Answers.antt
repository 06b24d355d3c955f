-- The sheets are judged, then the key is measured and its length compared with the limit, then written: each way out is a law of `Outcomes` with the encoder `encode_key`.
use mathlib.Core.Path.{sym, ap, ◌∙◌}
use native.Mathlib.Omega.{arith}
use Rattle.std.proofs.lemmas.Result.{err_from_is_err_and}
use Rattle.format.specs.Answer.{refused, KeyTooLong}
use Rattle.format.specs.Encode.{encode_key}
use Rattle.format.specs.Calls.{encode_key_call}
use Rattle.format.specs.Zeros.{encode_key_zeros}
use Rattle.encode.proofs.Keys.{sheets}
use Rattle.encode.proofs.Outcomes.{said_ok, key_pool, bad_sheets, refuses, no_room, done, key_refused, key_long, key_short}
use Rattle.encode.proofs.encode_key.Goals as goal

pub returns-in_err-admit : goal.returns-in_err-admit
unfolding encode_key_call encode_key_zeros
returns-in_err-admit c =
    let p = err_from_is_err_and c.from_residual.result c.from_residual.ensures.1 in
    rw (p.1, p.2) (bad_sheets encode_key c.args.out.now c.in_err-admit.ensures)

pub fit_key-requires : goal.fit_key-requires
fit_key-requires c = sheets _ _ _ c.in_ok-admit.ensures

pub returns-in_err-len : goal.returns-in_err-len
unfolding encode_key_call encode_key_zeros
returns-in_err-len c =
    let s = sheets _ _ _ c.in_ok-admit.ensures in
    let p = err_from_is_err_and c.from_residual-in_err-len.result c.from_residual-in_err-len.ensures.1 in
    rw (p.1, p.2) (refuses encode_key s _ (key_refused s c.in_err-len.ensures))

pub returns-then-len-gt-MAX_KEY_BYTES : goal.returns-then-len-gt-MAX_KEY_BYTES
unfolding encode_key_call encode_key_zeros
returns-then-len-gt-MAX_KEY_BYTES c =
    let s = sheets _ _ _ c.in_ok-admit.ensures in
    let b = said_ok _ c.in_ok-len.ensures in
    refuses encode_key s _ (key_long s b.1 (omega (arith, b.2)) ∙ ap (refused KeyTooLong) (sym b.2))

pub returns-then-out-len : goal.returns-then-out-len
unfolding encode_key_call encode_key_zeros
returns-then-out-len c =
    let s = sheets _ _ _ c.in_ok-admit.ensures in
    let b = said_ok _ c.in_ok-len.ensures in
    no_room encode_key s _ (key_short s b.1 (omega (arith, b.2))) b.2 c.if-out-len.true (omega arith)

pub put_key-zeros-requires : goal.put_key-zeros-requires
put_key-zeros-requires c =
    let b = said_ok _ c.in_ok-len.ensures in
    record { sheets = sheets _ _ _ c.in_ok-admit.ensures; bytes = b.0; is = b.1 }

pub returns : goal.returns
unfolding encode_key_call encode_key_zeros
returns c =
    let s = sheets _ _ _ c.in_ok-admit.ensures in
    let b = said_ok _ c.in_ok-len.ensures in
    done encode_key s _ (key_short s b.1 (omega (arith, b.2))) b.2 key_pool c.if-out-len.false (c.put_key-zeros.ensures.wrote b.0 b.1)

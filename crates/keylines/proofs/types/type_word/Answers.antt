-- `type_word` meets its contract: by its length, the first byte that is no digit, or a number too large.
use native.Mathlib.Omega.{arith}
use Rattle.keylines.proofs.WordLaws as laws
use Rattle.keylines.proofs.types.type_word.Goals as goal

pub returns-in_default : goal.returns-in_default
returns-in_default c = laws.word_empty _ (omega arith)

pub returns-in_default-2 : goal.returns-in_default-2
returns-in_default-2 c = laws.word_long _ (omega arith)

pub returns-in_err-digit : goal.returns-in_err-digit
returns-in_err-digit c = rw c.from_residual.ensures (laws.word_bad c.loop-b.invariant c.loop-b-test.true c.in_err-digit.ensures)

pub returns-in_err-checked_mul : goal.returns-in_err-checked_mul
returns-in_err-checked_mul c =
    let l = c.loop-b in
    rw c.from_residual-in_err-checked_mul.ensures
    (laws.word_large l.invariant c.loop-b-test.true c.in_ok-digit.ensures (omega (arith, c.in_err-checked_mul.ensures)))

pub returns-in_err-n : goal.returns-in_err-n
returns-in_err-n c =
    let l = c.loop-b in
    rw c.from_residual-in_err-n.ensures
    (laws.word_large l.invariant c.loop-b-test.true c.in_ok-digit.ensures (omega (arith, c.in_err-n.ensures, c.in_ok-checked_mul.ensures, c.from.ensures)))

pub loop-b-preserved : goal.loop-b-preserved
loop-b-preserved c =
    let e = c.in_ok-n.ensures in
    let k = c.in_ok-checked_mul.ensures in
    laws.word_next c.loop-b.invariant c.loop-b-test.true c.in_ok-digit.ensures (omega (arith, e.1, k.1, c.from.ensures)) (omega (arith, e.0, e.1))

pub returns : goal.returns
returns c = laws.word_end c.loop-b.invariant (omega arith) (omega arith) c.loop-b-test.false

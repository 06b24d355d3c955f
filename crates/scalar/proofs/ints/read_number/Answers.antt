use Rattle.std.proofs.Common.{◌≡◌, ℕ, ◌+◌, ◌*◌, ◌<◌, take, refl, ap, ◌∙◌, arith, length-take-le, get_or-take, take_all}
use Rattle.format.specs.Read.{number}
use Rattle.scalar.proofs.Numbers.{number_take_suc, below_suc, below_56}
use Rattle.scalar.proofs.ints.read_number.Goals as goal

pub loop-byte-init : goal.loop-byte-init
unfolding number
loop-byte-init c = (refl, omega arith)

low : (c : goal.After-from) → c.from.result < 256
low c =
    let i : c.loop-byte.byte-index < c.args.k = omega (arith, length-take-le c.args.k c.args.s.now c.requires.1) in
    rw (c.from.ensures, get_or-take) (omega (arith, c.type_inv.s c.loop-byte.byte-index))

pub overflow_mul-n : goal.overflow_mul-n
overflow_mul-n c = let l = length-take-le c.args.k c.args.s.now c.requires.1 in omega (arith, below_56 c.loop-byte.n c.loop-byte.byte-index c.loop-byte.invariant.1 (omega arith))

pub overflow_add-n : goal.overflow_add-n
overflow_add-n c =
    let here = c.loop-byte in
    let l = length-take-le c.args.k c.args.s.now c.requires.1 in
    omega (arith, low c, below_56 here.n here.byte-index here.invariant.1 (omega arith))

pub loop-byte-preserved : goal.loop-byte-preserved
loop-byte-preserved c =
    let here = c.loop-byte in
    let step = number_take_suc 0 (take c.args.k c.args.s.now) here.byte-index c.loop-byte-test.true in
    (rw (step, ← here.invariant.0) (ap (λ (x : ℕ). here.n * 256 + x) c.from.ensures), below_suc here.n here.byte-index c.from.result here.invariant.1 (low c))

pub returns : goal.returns
returns c =
    let here = c.loop-byte in
    let l = length-take-le c.args.k c.args.s.now c.requires.1 in
    let all : here.byte-index ≡ c.args.k = omega arith in
    let whole = take_all c.args.k (take c.args.k c.args.s.now) (omega arith) in
    (here.invariant.0 ∙ ap (number 0) (rw all whole), rw all at here.invariant.1)

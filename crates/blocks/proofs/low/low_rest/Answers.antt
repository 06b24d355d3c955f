-- At most four bytes are left: they are tested as one block that may begin before the place, whose bytes are known to be ASCII.
use Prim.Native.Nat.{◌-◌, ◌<◌}
use native.Mathlib.Omega.{arith}
use lib.ListN.{length, get_or}
use Rattle.blocks.proofs.Spans.{span_join, span_part}
use Rattle.blocks.proofs.low.low_rest.Goals as goal

pub returns-then-ascii : goal.returns-then-ascii
returns-then-ascii c =
    let s = c.args.s.now in
    let n = length s in
    let u = span_part (λ b. b < 0x80) s (n - 4) n (omega arith) (c.ascii.ensures c.if-ascii.true) in
    (omega arith, omega arith, span_join (λ k. get_or s k 0 < 0x80) c.args.from c.args.at n c.requires.2 (λ k a b. u k (omega arith) b))

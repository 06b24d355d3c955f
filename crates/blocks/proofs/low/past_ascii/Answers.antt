-- Wide blocks, then the rest: each part says that all up to its end is ASCII.
use Prim.Native.Nat.{ℕ, ◌<◌}
use native.Mathlib.Omega.{arith}
use lib.ListN.{get_or}
use Rattle.blocks.proofs.Spans.{span_join}
use Rattle.blocks.proofs.low.past_ascii.Goals as goal

pub low_rest-requires : goal.low_rest-requires
low_rest-requires c =
    let s = c.args.s.now in
    let from = c.args.from in
    let low : ℕ → Type 0 = λ k. get_or s k 0 < 0x80 in
    let half = span_join low from c.low_blocks-wide.result c.low_blocks-half.result c.low_blocks-wide.ensures.2 c.low_blocks-half.ensures.2 in
    let word = span_join low from c.low_blocks-half.result c.low_blocks-word.result half c.low_blocks-word.ensures.2 in
    (omega arith, omega arith, span_join low from c.low_blocks-word.result c.low_blocks-at.result word c.low_blocks-at.ensures.2)

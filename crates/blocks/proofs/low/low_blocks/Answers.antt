-- Each block that was passed is low, and so all of them are.
use Prim.Native.Nat.{◌+◌, ◌-◌, ◌<◌}
use lib.ListN.{length, get_or, take, drop}
use Rattle.std.proofs.Common.{rules}
use Rattle.blocks.specs.Ascii.{Low}
use Rattle.blocks.proofs.Scans.{span_steps}
use Rattle.blocks.proofs.Spans.{span_part}
use Rattle.blocks.proofs.low.low_blocks.Goals as goal

pub returns : goal.returns
returns c =
    let e = c.past_blocks.ensures in
    let s = c.args.s.now in
    let n = c.args.k in (
      e.after,
      e.inside,
      span_steps (λ k. get_or s k 0 < 128)
          (λ m h t. let u : Low (take (m + n - m) (drop m s)) 0 (length (take (m + n - m) (drop m s))) = search rules in span_part (λ b. b < 128) s m (m + n) h u) e.steps,
    )

use mathlib.Core.Path.{sym, ◌∙◌}
use native.Mathlib.Omega.{arith}
use lib.ListN.{length}
use Rattle.text.proofs.Texts.{step_stops, text_chunk, ends_well, moves_on}
use Rattle.text.proofs.whole.valid.Goals as goal

pub loop-at-init : goal.loop-at-init
loop-at-init c = (c.past_ascii-at.ensures.1, text_chunk c.args.s.now 0 c.past_ascii-at.result c.past_ascii-at.ensures.0 c.past_ascii-at.ensures.1 c.past_ascii-at.ensures.2)

pub returns-then-next-stop : goal.returns-then-next-stop
returns-then-next-stop c = sym (c.loop-at.invariant.1
    ∙ text_chunk c.args.s.now c.loop-at.at c.low_blocks-low.result c.low_blocks-low.ensures.0 c.low_blocks-low.ensures.1 c.low_blocks-low.ensures.2
    ∙ c.past_threes-from.ensures.2 ∙ c.walk-next.ensures.same ∙ step_stops c.args.s.now c.walk-next.result (omega arith) (c.walk-next.ensures.stuck c.if-next-stop.true))

pub loop-at-smaller : goal.loop-at-smaller
loop-at-smaller c =
    let m = moves_on c.loop-at.at c.past_threes-from.result c.block_end-stop.result (length c.args.s.now) (omega arith) (omega arith) c.block_end-stop.ensures.1 c.block_end-stop.ensures.2 in
    omega arith

pub loop-at-preserved : goal.loop-at-preserved
loop-at-preserved c = (
  c.walk-next.ensures.inside,
  c.loop-at.invariant.1 ∙ text_chunk c.args.s.now c.loop-at.at c.low_blocks-low.result c.low_blocks-low.ensures.0 c.low_blocks-low.ensures.1 c.low_blocks-low.ensures.2 ∙
      c.past_threes-from.ensures.2 ∙ c.walk-next.ensures.same,
)

pub returns : goal.returns
returns c = sym (c.loop-at.invariant.1 ∙ ends_well c.args.s.now c.loop-at.at c.loop-at-test.false)

-- Blocks that are the same, one after another, and the byte behind them.
use mathlib.Core.Path.{◌≡◌}
use Prim.Native.Nat.{ℕ, ◌+◌}
use native.Mathlib.Omega.{arith}
use lib.ListN.{get_or}
use Rattle.std.proofs.Common.{rules}
use Rattle.blocks.specs.Compare.{Same}
use Rattle.blocks.proofs.Scans.{span_steps}
use Rattle.blocks.proofs.Spans.{span_join, span_one}
use Rattle.blocks.proofs.comparing.differ_at.Goals as goal

pub returns : goal.returns
returns c =
    let a = c.args.a.now in
    let b = c.args.b.now in
    let P = λ (k : ℕ). get_or a k 0 ≡ get_or b k 0 in
    let m = c.min-end.ensures in
    let e = c.past_blocks-wide.ensures in
    let f = c.past_blocks-narrow.ensures in
    let g = c.past_blocks-word.ensures in
    let h = c.past_blocks.ensures in
    let p = span_steps P (λ m l t. let u : Same a b m (m + 64) = search rules in u) e.steps in
    let q = span_steps P (λ m l t. let u : Same a b m (m + 16) = search rules in u) f.steps in
    let r = span_steps P (λ m l t. let u : Same a b m (m + 4) = search rules in u) g.steps in
    let s = span_steps P (λ m l t. let u : get_or a m 0 ≡ get_or b m 0 = search rules in span_one P m m (λ k x y. absurd (omega arith)) u) h.steps in
    record {
      in_a = omega (arith, h.inside, m);
      in_b = omega (arith, h.inside, m);
      same = span_join P 0 c.past_blocks-word.result c.past_blocks.result
          (span_join P 0 c.past_blocks-narrow.result c.past_blocks-word.result (span_join P 0 c.past_blocks-wide.result c.past_blocks-narrow.result p q) r) s;
      differ = λ x y z. let t = h.stop (omega (arith, m)) in let u : get_or a c.past_blocks.result 0 ≡ get_or b c.past_blocks.result 0 → ⊥ = search rules in u z;
    }

-- Each block that was passed has no zero, and so all of them have none.
use mathlib.Core.Path.{◌≡◌}
use Prim.Native.Nat.{ℕ, ◌+◌, ◌-◌}
use native.Mathlib.Omega.{arith}
use lib.ListN.{length, get_or, take, drop}
use Rattle.std.proofs.Common.{rules}
use Rattle.blocks.specs.Zeros.{NoZero}
use Rattle.blocks.proofs.Scans.{span_steps}
use Rattle.blocks.proofs.Spans.{span_part, span_join}
use Rattle.blocks.proofs.zeros.find_zero.Goals as goal

pub returns : goal.returns
returns c =
    let s = c.args.s.now in
    let P = λ (k : ℕ). get_or s k 0 ≡ 0 → ⊥ in
    let e = c.past_blocks-wide.ensures in
    let f = c.past_blocks-narrow.ensures in
    let z = c.zero_before.ensures in
    let w = span_steps P (λ m h t. let u : NoZero (take (m + 64 - m) (drop m s)) 0 (length (take (m + 64 - m) (drop m s))) = search rules in span_part (λ b. b ≡ 0 → ⊥) s m (m + 64) h u) e.steps in
    let n = span_steps P (λ m h t. let u : NoZero (take (m + 8 - m) (drop m s)) 0 (length (take (m + 8 - m) (drop m s))) = search rules in span_part (λ b. b ≡ 0 → ⊥) s m (m + 8) h u) f.steps in
    record {
      after = omega (arith, e.after, f.after, z.after);
      inside = z.inside;
      none = span_join P c.args.from c.past_blocks-narrow.result c.zero_before.result (span_join P c.args.from c.past_blocks-wide.result c.past_blocks-narrow.result w n) z.none;
      zero = z.zero;
    }

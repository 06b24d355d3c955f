use mathlib.Core.Path.{◌≡◌}
use Prim.Native.Nat.{◌+◌}
use native.Mathlib.Omega.{arith}
use lib.ListN.{get_or}
use Rattle.blocks.proofs.Spans.{span_join, span_part}
use Rattle.blocks.proofs.Put.{put_front}
use Rattle.blocks.proofs.copying.copy_clear.Goals as goal

pub loop-i-preserved : goal.loop-i-preserved
loop-i-preserved c =
    let l = c.loop-i in
    let a = c.args in
    let s = a.src.now in
    let n = span_part (λ b. b ≡ 0 → ⊥) s l.i (l.i + 64) (omega arith) (c.clear.ensures c.if-clear.true) in
    let w = put_front a.dst.now s a.o l.i (l.i + 64) (omega arith) (omega arith) (omega arith) l.invariant.3 c.copy_long.ensures in
    (omega arith, span_join (λ k. get_or s k 0 ≡ 0 → ⊥) 0 l.i (l.i + 64) l.invariant.1 n, w.0, w.1)

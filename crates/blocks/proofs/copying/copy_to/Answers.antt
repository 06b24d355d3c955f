-- Each byte is put behind those that were put before it, and in the end the whole part is.
use mathlib.Core.Path.{ap, ◌∙◌}
use Prim.Native.Nat.{◌-◌}
use native.Mathlib.Omega.{arith}
use lib.ListN.{take, drop, length-take, length-drop}
use Rattle.std.proofs.lemmas.List.{take_all}
use Rattle.format.specs.Fields.{put}
use Rattle.blocks.proofs.Put.{put_next}
use Rattle.blocks.proofs.Spans.{part_slice}
use Rattle.blocks.proofs.copying.copy_to.Goals as goal

pub loop-k-preserved : goal.loop-k-preserved
loop-k-preserved c =
    let a = c.args in
    let s = take (a.e - a.i) (drop a.i a.src.now) in
    put_next a.dst.now a.o s c.loop-k.k (omega arith) (simp (length-take, length-drop) (omega arith)) c.loop-k.invariant

pub returns : goal.returns
returns c =
    let a = c.args in
    let s = take (a.e - a.i) (drop a.i a.src.now) in
    c.loop-k.invariant ∙ ap (put a.dst.now a.o) (take_all c.loop-k.k s (omega arith) ∙ part_slice a.i a.e a.src.now (omega arith))

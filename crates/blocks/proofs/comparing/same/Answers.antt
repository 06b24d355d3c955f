-- The joint answer is true only where each is.
use mathlib.Core.Path.{◌≡◌, sym, ◌∙◌}
use mathlib.Core.Bool.{Bool, true, ◌&&◌}
use Prim.Native.Nat.{ℕ, ◌-◌, ◌+◌}
use native.Mathlib.Omega.{arith}
use lib.ListN.{length, take, drop, length-take, length-drop}
use Rattle.std.proofs.Common.{rules, ◌==◌}
use Rattle.std.proofs.lemmas.Iterator.{YieldsList-from_slice, YieldsList-from_zip}
use Rattle.std.proofs.lemmas.Iterator.Consumers.{fold_from_yields_List}
use Rattle.blocks.proofs.Folds.{each_alike}
use Rattle.blocks.proofs.Spans.{part_at}
use Rattle.blocks.proofs.comparing.same.Goals as goal

pub returns : goal.returns
returns c =
    let a = c.args in
    let s = take (a.i + a.k - a.i) (drop a.i a.a.now) in
    let t = take (a.i + a.k - a.i) (drop a.i a.b.now) in
    let e = fold_from_yields_List _ (λ (all : Bool) (p : ℕ × ℕ). all && (p.0 == p.1)) true c.fold.result c.fold.ensures.ran
    (YieldsList-from_zip (YieldsList-from_slice s (cc)) (YieldsList-from_slice t (cc))) (λ a x b q k. search rules) in
    let m : length s ≡ a.k = simp (length-take, length-drop) (omega arith) in
    let n : length t ≡ a.k = simp (length-take, length-drop) (omega arith) in
    λ p j x y.
    let q = each_alike s t (omega arith) (sym e ∙ p) (j - a.i) (omega arith) in
    let g = part_at a.a.now a.i (a.i + a.k) (j - a.i) (omega arith) in
    let h = part_at a.b.now a.i (a.i + a.k) (j - a.i) (omega arith) in
    let w : a.i + (j - a.i) ≡ j = omega arith in
    rw w at (sym g ∙ q ∙ h)

-- The joint answer is true only where each is.
use mathlib.Core.Path.{◌≡◌, sym, ◌∙◌}
use mathlib.Core.Bool.{Bool, true, not, ◌&&◌}
use Prim.Native.Nat.{ℕ}
use Rattle.std.proofs.Common.{rules, ◌==◌}
use lib.ListN.{get_or}
use Rattle.std.proofs.lemmas.Iterator.{YieldsList-from_slice}
use Rattle.std.proofs.lemmas.Iterator.Consumers.{fold_from_yields_List}
use Rattle.blocks.proofs.Folds.{each_of_and}
use Rattle.blocks.proofs.zeros.clear.Goals as goal

pub returns : goal.returns
returns c =
    let s = c.args.block.now in
    let e = fold_from_yields_List _ (λ (all : Bool) (b : ℕ). all && not (b == 0)) true c.fold.result c.fold.ensures.ran (YieldsList-from_slice s (cc)) (λ a x b q k. search rules) in
    λ p k a l z. let n : not (get_or s k 0 == 0) ≡ true = each_of_and (λ (b : ℕ). not (b == 0)) 0 s (sym e ∙ p) k l in let m = rw z at n in cc

-- A bound of all the bytes joined by or bounds each.
use mathlib.Core.Path.{◌≡◌}
use Prim.Native.Nat.{ℕ, ◌<◌}
use native.Mathlib.Omega.{arith}
use lib.Bits.{bit_or}
use Rattle.std.proofs.Common.{rules, ltb-true}
use Rattle.std.specs.List.{fold}
use Rattle.blocks.proofs.Folds.{each_of_or}
use Rattle.blocks.proofs.low.ascii.Goals as goal

pub returns : goal.returns
returns c =
    let s = c.args.block.now in
    let e : c.fold.result ≡ fold (λ (all : ℕ) (b : ℕ). bit_or all b) 0 s = search rules in
    λ p k a l. let h : c.fold.result < 128 = omega (arith, ltb-true c.fold.result _ p) in (each_of_or 128 0 s (rw e at h)).1 k l

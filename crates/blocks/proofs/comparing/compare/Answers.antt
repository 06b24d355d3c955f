-- Where the two first differ, or the shorter ends, decides: `differ_at` says that all before it is alike, and that the bytes there are not.
use mathlib.Core.Path.{ap, sym, ◌∙◌}
use Prim.Native.Nat.{◌<◌}
use native.Mathlib.Omega.{arith}
use Rattle.std.proofs.Common.{◌≡◌}
use Rattle.std.proofs.lemmas.Cmp.{ranked, by_ranked}
use Rattle.blocks.specs.Compare.{order_of}
use Rattle.blocks.proofs.Orders.{both_end, a_ends, b_ends, byte_less, byte_more}
use Rattle.blocks.proofs.comparing.compare.Goals as goal

pub returns-in-Some-Some : goal.returns-in-Some-Some
returns-in-Some-Some c =
    let f = c.differ_at-i.ensures in
    let x = c.in-Some-Some.ensures.lookup.3 in
    let y = c.in-Some-Some.ensures'.lookup.3 in
    let m = c.in-Some-Some.x.now in
    let n = c.in-Some-Some.y.now in
    by_ranked (m < n) (m ≡ n) (n < m) c.cmp.result (ranked m n c.cmp.result c.cmp.ensures)
    (λ q h. ap order_of q ∙ byte_less _ _ _ f x.0 y.0 (rw (x.1 0, y.1 0) at h))
    (λ q h. absurd (f.differ x.0 y.0 (sym (x.1 0) ∙ h ∙ y.1 0)))
    (λ q h. ap order_of q ∙ byte_more _ _ _ f x.0 y.0 (omega (arith, x.1 0, y.1 0)))

pub returns-in-Some-None : goal.returns-in-Some-None
returns-in-Some-None c = b_ends _ _ _ c.differ_at-i.ensures c.in-Some-None.ensures.lookup.3.0 c.in-Some-None.ensures'.lookup.3

pub returns-in-None-Some : goal.returns-in-None-Some
returns-in-None-Some c = a_ends _ _ _ c.differ_at-i.ensures c.in-None-Some.ensures.lookup.3 c.in-None-Some.ensures'.lookup.3.0

pub returns-in-None-None : goal.returns-in-None-None
returns-in-None-None c = both_end _ _ _ c.differ_at-i.ensures c.in-None-None.ensures.lookup.3 c.in-None-None.ensures'.lookup.3

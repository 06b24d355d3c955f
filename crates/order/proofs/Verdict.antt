-- What the call answers, by the verdicts on both sheets and by the walk's answer.
use Rattle.std.proofs.Common.{◌≡◌, ℕ, Bool, true, false, not, List, length, sym, refl, ap, ◌∙◌, arith}
use mathlib.Core.Option.{Option, some, none}
use borrow.Author.Tests.{not-true, not-false}
use Rattle.format.specs.Answer.{ok, refused}
use Rattle.format.specs.TypeSheet.{is_some}
use Rattle.format.specs.ValueSheet.{value_of}
use Rattle.format.specs.Calls.{compare_call}
use Rattle.format.proofs.ValueLaws.{its_tree, admitted}
use Rattle.format.proofs.ValuePlaces.{top}
use Rattle.order.specs.declared.Walk.{Walk}
use Rattle.blocks.specs.Compare.{order_of}
use Rattle.order.specs.Compare.{CompareValue}

none_of : {A : Type 0} (o : Option A) → is_some o ≡ false → o ≡ none
none_of (some a) h = let z : ◌≡◌ {A = ℕ} 0 1 = cc in absurd (omega arith)
none_of none h = refl

module _ (wa pa wb pb : List ℕ) {first : Bool} (ea : first ≡ is_some (value_of wa pa)) where
  pub bad_a : not first ≡ true → refused 16 0 ≡ compare_call wa pa wb pb
  unfolding compare_call
  bad_a h = rw (none_of (value_of wa pa) (sym ea ∙ not-true first h))

  good_a : not first ≡ false → is_some (value_of wa pa) ≡ true
  good_a h = sym ea ∙ not-false first h

  module _ (ha : not first ≡ false) {second : Bool} (eb : second ≡ is_some (value_of wb pb)) where
    pub bad_b : not second ≡ true → refused 16 0 ≡ compare_call wa pa wb pb
    unfolding compare_call
    bad_b h = let s = its_tree wa pa (good_a ha) in rw ((admitted wa pa s.0).1 s.1, none_of (value_of wb pb) (sym eb ∙ not-true second h))

    good_b : not second ≡ false → is_some (value_of wb pb) ≡ true
    good_b h = sym eb ∙ not-false second h

    module _ (hb : not second ≡ false) {from r : Walk} (walk : CompareValue wa pa wb pb from r) (at_i : from.i ≡ 0) (at_p : from.p ≡ 0) (at_j : from.j ≡ 0) (at_q : from.q ≡ 0) where
      pub said : ok (order_of r.order) ≡ compare_call wa pa wb pb
      unfolding compare_call
      said =
          let s = its_tree wa pa (good_a ha) in
          let t = its_tree wb pb (good_b hb) in
          let a = s.0 in
          let b = t.0 in
          let m = rw (at_i, at_p, at_j, at_q) at walk.says in
          rw ((admitted wa pa a).1 s.1, (admitted wb pb b).1 t.1) (ap ok (m.one a b (length wa) (length pa) (length wb) (length pb) (top wa pa a s.1) (top wb pb b t.1)).order)

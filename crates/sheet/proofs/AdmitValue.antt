-- What the end of the value at the front of a sheet says of the sheet.
use Prim.Native.Nat.{ℕ, suc, ◌+◌, ◌-◌, ◌≤◌, ◌<◌}
use mathlib.Core.List.{List, [], ◌∷◌}
use mathlib.Core.Bool.{Bool, false}
use mathlib.Core.Path.{◌≡◌, refl, ap, sym, ◌∙◌}
use native.Mathlib.Omega.{arith}
use lib.Dec.{eqb}
use lib.ListN.{length, length-drop}
use borrow.Author.Tests.{lt-leb, le-leb, eq-eqb, ne_eqb}
use Rattle.format.specs.Tree.{Val}
use Rattle.format.specs.TypeSheet.{max_groups, is_some}
use Rattle.format.specs.ValueSheet.{max_value_words, Parts, got, no, value_at, value_of, whole}
use Rattle.std.specs.Prelude.{Some, None}
use Rattle.std.proofs.lemmas.Option.{none-some}
use Rattle.sheet.specs.declared.values.Place.{Place}
use Rattle.sheet.specs.Places.{EndsAt, ValueEnds}

module _ (w b : List ℕ) (low from : ℕ) where
  -- the place that the walk answers, where it is one
  pub no_end : (x : Parts Val) (p : Place) → EndsAt w b (low + 1) from x p.words p.pool → p.words ≡ 0 → ValueEnds w b (low + 1) from x None
  no_end (got v s c) p e z = absurd (omega (arith, e.2))
  no_end no p e z = refl

  pub an_end : (x : Parts Val) (p : Place) → EndsAt w b (low + 1) from x p.words p.pool → (p.words ≡ 0 → ⊥) → ValueEnds w b (low + 1) from x (Some p)
  an_end (got v s c) p e n = e
  an_end no p e n = absurd (n e)

module _ (w b : List ℕ) where
  unread : (x : Parts Val) → ValueEnds w b 1 0 x None → false ≡ is_some (whole x)
  unread (got v s c) e = absurd e
  unread no e = refl

  module _ (p : Place) where
    left_over : (x : Parts Val) → ValueEnds w b 1 0 x (Some p) → (p.words ≡ length w → ⊥) → false ≡ is_some (whole x)
    left_over (got v [] []) e n =
        let l : 0 ≡ length w - p.words = ap length e.0 ∙ length-drop p.words w in
        absurd (n (omega (arith, e.3)))
    left_over (got v [] (y ∷ c)) e n = refl
    left_over (got v (x ∷ s) c) e n = refl
    left_over no e n = refl

    used_up : (x : Parts Val) → ValueEnds w b 1 0 x (Some p) → p.words ≡ length w → eqb p.pool (length b) ≡ is_some (whole x)
    used_up (got v [] []) e n =
        let l : 0 ≡ length b - p.pool = ap length e.1 ∙ length-drop p.pool b in
        eq-eqb p.pool (length b) (omega (arith, e.5))
    used_up (got v [] (y ∷ c)) e n =
        let l : suc (length c) ≡ length b - p.pool = ap length e.1 ∙ length-drop p.pool b in
        ne_eqb p.pool (length b) (λ h. omega arith)
    used_up (got v (x ∷ s) c) e n =
        let l : suc (length s) ≡ length w - p.words = ap length e.0 ∙ length-drop p.words w in
        absurd (omega arith)
    used_up no e n = absurd (none-some p (sym e))

module _ (w b : List ℕ) where
  pub too_long : max_value_words < length w → false ≡ is_some (value_of w b)
  unfolding value_of
  too_long h = rw (lt-leb (length w) max_value_words h)

  module _ (short : length w ≤ max_value_words) where
    pub too_large : max_value_words < length b → false ≡ is_some (value_of w b)
    unfolding value_of
    too_large h = rw (le-leb (length w) max_value_words short, lt-leb (length b) max_value_words h)

    module _ (small : length b ≤ max_value_words) where
      plainly : {t : Bool} → t ≡ is_some (whole (value_at max_groups w b)) → t ≡ is_some (value_of w b)
      unfolding value_of
      plainly h = rw (le-leb (length w) max_value_words short, le-leb (length b) max_value_words small) h

      pub no_value : ValueEnds w b 1 0 (value_at max_groups w b) None → false ≡ is_some (value_of w b)
      no_value e = plainly (unread w b (value_at max_groups w b) e)

      module _ (p : Place) (e : ValueEnds w b 1 0 (value_at max_groups w b) (Some p)) where
        pub more_words : (p.words ≡ length w → ⊥) → eqb p.words (length w) ≡ is_some (value_of w b)
        more_words n = ne_eqb p.words (length w) n ∙ plainly (left_over w b p (value_at max_groups w b) e n)

        pub is_value : p.words ≡ length w → eqb p.pool (length b) ≡ is_some (value_of w b)
        is_value n = plainly (used_up w b p (value_at max_groups w b) e n)

-- What the end of the type at the front of a sheet says of the sheet.
use Prim.Native.Nat.{ℕ, suc, ◌-◌, ◌≤◌, ◌<◌}
use mathlib.Core.List.{List, [], ◌∷◌}
use mathlib.Core.Bool.{false}
use mathlib.Core.Path.{◌≡◌, refl, ap, ◌∙◌}
use native.Mathlib.Omega.{arith}
use lib.Dec.{eqb}
use lib.ListN.{length, length-drop}
use borrow.Author.Tests.{lt-leb, le-leb, eq-eqb, ne_eqb}
use Rattle.format.specs.Tree.{Ty}
use Rattle.format.specs.TypeSheet.{max_type_words, max_groups, Part, got, no, type_at, type_of, is_some, whole}
use Rattle.std.specs.Prelude.{Option, Some, None}
use Rattle.std.specs.Option.{option_eq}
use Rattle.sheet.specs.Places.{Ends}

-- used up exactly where the end is the length
used_up : (w : List ℕ) (o : Option ℕ) (q : Part Ty) → Ends w 1 q o → option_eq eqb o (Some (length w)) ≡ is_some (whole q)
used_up w (Some r) (got t []) e =
    let l : 0 ≡ length w - r = ap length e.0 ∙ length-drop r w in
    eq-eqb r (length w) (omega (arith, e.2))
used_up w (Some r) (got t (x ∷ s)) e =
    let l : suc (length s) ≡ length w - r = ap length e.0 ∙ length-drop r w in
    ne_eqb r (length w) (λ h. omega arith)
used_up w None (got t s) e = absurd e
used_up w o no e = rw e refl

module _ (w : List ℕ) where
  pub too_long : max_type_words < length w → false ≡ is_some (type_of w)
  unfolding type_of
  too_long h = rw (lt-leb (length w) max_type_words h)

  pub is_type : length w ≤ max_type_words → (o : Option ℕ) → Ends w 1 (type_at max_groups w) o → option_eq eqb o (Some (length w)) ≡ is_some (type_of w)
  unfolding type_of
  is_type short o e = rw (le-leb (length w) max_type_words short) (used_up w o (type_at max_groups w) e)

-- What the search for an alternative says of the union that stands there: what its tag chooses, and where that stands.
use Prim.Native.Nat.{ℕ, ◌≤◌}
use mathlib.Core.List.{List}
use mathlib.Core.Option.{Option, some, none}
use mathlib.Core.Path.{◌≡◌, refl, sym}
use Rattle.std.specs.Prelude.{Some, None}
use Rattle.std.specs.Prelude as std
use Rattle.std.proofs.lemmas.Option.{none-some}
use native.Mathlib.Omega.{arith}
use Rattle.format.specs.Tree.{Ty, Alts}
use Rattle.format.specs.Sheet.{alt_count}
use Rattle.format.specs.TypeSheet.{max_groups, nesting, alt_nestings}
use Rattle.format.proofs.TypePlaces.{TypeIn, AltsIn}
use Rattle.format.proofs.Choose.{choose}
use Rattle.format.proofs.FitLaws.{chosen_nesting}
use Rattle.sheet.specs.Places.{Chosen, Picks}

-- the alternative that a tag names: its type at a place, and the alternatives behind it
pub record Picked (ty : List ℕ) (tag place left : ℕ) (us : Alts) (e : ℕ) : Type 0 where
  pub type : Ty
  pub more : Alts
  pub is : choose tag us ≡ some (type, more)
  pub end : ℕ
  pub here : TypeIn ty place type end
  pub behind : AltsIn ty end more e
  pub count : alt_count more ≡ left
  pub deep : nesting type ≤ max_groups
  pub deeps : alt_nestings more ≤ max_groups

module _ {ty : List ℕ} {at tag left : ℕ} {place : std.Option ℕ} (h : Picks ty at tag place left) (us : Alts) {e : ℕ} (s : TypeIn ty at (Ty.Union us) e) (d : nesting (Ty.Union us) ≤ max_groups) where
  pub missing : place ≡ None → choose tag us ≡ none
  missing z = go (choose tag us) (rw z at h.picks us e s d)
    where
      go : (o : Option (Ty × Alts)) → Chosen ty e None left o → o ≡ none
      go (some c) k = absurd k
      go none k = refl

  pub picked : {p : ℕ} → place ≡ Some p → Picked ty tag p left us e
  unfolding nesting
  picked {p} z = go (choose tag us) refl (rw z at h.picks us e s d)
    where
      go : (o : Option (Ty × Alts)) → choose tag us ≡ o → Chosen ty e (Some p) left o → Picked ty tag p left us e
      go none q k = absurd (none-some p (sym k))
      go (some c) q k =
          let m = chosen_nesting us tag c q in
          record { type = c.0; more = c.1; is = q; end = k.1; here = k.2; behind = k.3; count = k.4; deep = omega (arith, m.0); deeps = omega (arith, m.1) }

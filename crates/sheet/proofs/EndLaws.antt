-- What the ends that the walks find say of the trees that stand there.
use Prim.Native.Nat.{ℕ, ◌+◌, ◌≤◌}
use mathlib.Core.List.{List}
use mathlib.Core.Path.{◌≡◌, ap, sym, ◌∙◌, subst}
use lib.ListN.{length, drop}
use Rattle.format.specs.Tree.{Ty, Tys, Alts}
use Rattle.format.specs.Sheet.{field_count, alt_count}
use Rattle.format.specs.TypeSheet.{Part, got, type_at, types, alts, nesting, nestings, alt_nestings}
use Rattle.format.proofs.SheetPlaces.{same_end}
use Rattle.format.proofs.TypePlaces.{TypeIn, TypesIn, AltsIn, type_read, types_read, alts_read}
use Rattle.std.specs.Prelude.{Option, Some, None}
use Rattle.sheet.specs.Places.{Ends}

-- a run that is read is read to its end
the_end : {A : Type 0} (w : List ℕ) (low e : ℕ) (o : Option ℕ) (a : A) (q : Part A) → q ≡ got a (drop e w) → e ≤ length w → Ends w low q o → o ≡ Some e
the_end w low e (Some r) a q h high f =
    let k : (drop e w ≡ drop r w) × (low ≤ r) × (r ≤ length w) = subst (λ (x : Part _). Ends w low x (Some r)) h f in
    ap Some (same_end w e r high k.2 k.0)
the_end w low e None a q h high f = absurd (subst (λ (x : Part _). Ends w low x None) h f)

-- the end that the walk finds is the tree's
pub end_is : (w : List ℕ) (p e g : ℕ) {o : Option ℕ} (t : Ty) → TypeIn w p t e → nesting t ≤ g → Ends w (p + 1) (type_at g (drop p w)) o → o ≡ Some e
end_is w p e g t s d h = the_end w (p + 1) e _ t (type_at g (drop p w)) (type_read w p e g t s d) s.span.within h

pub types_end_is : (w : List ℕ) (p e g l : ℕ) {o : Option ℕ} (ts : Tys) → TypesIn w p ts e → field_count ts ≡ l → nestings ts ≤ g → Ends w p (types (type_at g) l (drop p w)) o → o ≡ Some e
types_end_is w p e g l ts s c d h =
    the_end w p e _ ts (types (type_at g) l (drop p w)) (ap (λ (n : ℕ). types (type_at g) n (drop p w)) (sym c) ∙ types_read w p e g ts s d) s.span.within h

pub alts_end_is : (w : List ℕ) (p e g l : ℕ) {o : Option ℕ} (us : Alts) → AltsIn w p us e → alt_count us ≡ l → alt_nestings us ≤ g → Ends w p (alts (type_at g) l (drop p w)) o → o ≡ Some e
alts_end_is w p e g l us s c d h =
    the_end w p e _ us (alts (type_at g) l (drop p w)) (ap (λ (n : ℕ). alts (type_at g) n (drop p w)) (sym c) ∙ alts_read w p e g us s d) s.span.within h

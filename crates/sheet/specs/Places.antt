-- What the walks over sheets answer: places, as the code has them, for the words that are left.
use Rattle.std.specs.Prelude.{ℕ, ◌+◌, ◌≤◌, ◌<◌, List, ◌≡◌, length, drop, Option, Some, None}
use Rattle.std.proofs.Math.Option as maths
use Rattle.format.specs.Tree.{Ty, Tys, Alts}
use Rattle.format.specs.Sheet.{field_count, alt_count}
use Rattle.format.specs.TypeSheet.{max_groups, Part, got, no, nesting, nestings, alt_nestings}
use Rattle.format.specs.ValueSheet.{Parts, value_at}
use Rattle.format.specs.Search.{looked}
use Rattle.format.proofs.TypePlaces.{TypeIn, TypesIn, AltsIn}
use Rattle.format.proofs.Choose.{choose}
use Rattle.sheet.specs.declared.values.Place.{Place}

-- what was read ends before the place r, which is at least low; None says that nothing was read
abbrev pub Ends : {A : Type 0} → List ℕ → ℕ → Part A → Option ℕ → Type 0
Ends w low (got a s) (Some r) = (s ≡ drop r w) × (low ≤ r) × (r ≤ length w)
Ends w low (got a s) None = ⊥
Ends w low no o = o ≡ None

-- words end before the place r and their bytes before the place q, which are at least low and from; r is 0 where nothing was read
abbrev pub EndsAt : {A : Type 0} → List ℕ → List ℕ → ℕ → ℕ → Parts A → ℕ → ℕ → Type 0
EndsAt w b low from (Parts.got a s c) r q = (s ≡ drop r w) × (c ≡ drop q b) × (low ≤ r) × (r ≤ length w) × (from ≤ q) × (q ≤ length b)
EndsAt w b low from Parts.no r q = r ≡ 0

-- the same of a place; None where nothing was read
abbrev pub ValueEnds : {A : Type 0} → List ℕ → List ℕ → ℕ → ℕ → Parts A → Option Place → Type 0
ValueEnds w b low from (Parts.got a s c) (Some p) = EndsAt w b low from (Parts.got a s c) p.words p.pool
ValueEnds w b low from (Parts.got a s c) None = ⊥
ValueEnds w b low from Parts.no o = o ≡ None

-- r and q are the ends of the Str or Bytes at `at` and of its bytes, which is no group
pub record RunEnds (w b : List ℕ) (at from r q : ℕ) : Type 0 where
  pub ends : (g : ℕ) → EndsAt w b (at + 1) from (value_at g (drop at w) (drop from b)) r q

-- r is the end of whatever type stands at p
pub record SkipsType (w : List ℕ) (p r : ℕ) : Type 0 where
  pub skips : (t : Ty) (e : ℕ) → TypeIn w p t e → nesting t ≤ max_groups → r ≡ e

-- r is the end of whatever l types stand at p
pub record SkipsTypes (w : List ℕ) (p l r : ℕ) : Type 0 where
  pub skips : (ts : Tys) (e : ℕ) → TypesIn w p ts e → field_count ts ≡ l → nestings ts ≤ max_groups → r ≡ e

-- r is the end of whatever l alternatives stand at p
pub record SkipsAlts (w : List ℕ) (p l r : ℕ) : Type 0 where
  pub skips : (us : Alts) (e : ℕ) → AltsIn w p us e → alt_count us ≡ l → alt_nestings us ≤ max_groups → r ≡ e

-- o is the place of the type that was chosen, with l alternatives behind it, up to e; None where there is none
abbrev pub Chosen : List ℕ → ℕ → Option ℕ → ℕ → maths.Option (Ty × Alts) → Type 0
Chosen w e (Some r) l (maths.some c) = (0 < r) × (m : ℕ) × TypeIn w r c.0 m × AltsIn w m c.1 e × (alt_count c.1 ≡ l)
Chosen w e None l (maths.some c) = ⊥
Chosen w e o l maths.none = o ≡ None

-- the same, whatever union stands at `at`
pub record Picks (w : List ℕ) (at tag : ℕ) (o : Option ℕ) (l : ℕ) : Type 0 where
  pub picks : (us : Alts) (e : ℕ) → TypeIn w at (Ty.Union us) e → nesting (Ty.Union us) ≤ max_groups → Chosen w e o l (choose tag us)

-- the answer of the search: what it picks, and how many alternatives n it looked at
pub record Searches (w : List ℕ) (at tag : ℕ) (o : Option ℕ) (l n : ℕ) : Type 0 where
  pub picks : Picks w at tag o l
  pub looks : (us : Alts) (e : ℕ) → TypeIn w at (Ty.Union us) e → nesting (Ty.Union us) ≤ max_groups → n ≡ looked tag us

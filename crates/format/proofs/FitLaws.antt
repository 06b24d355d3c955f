-- What fits a type and what is refused, by the kinds of the two: what the encoder's walks go by.
use mathlib.Core.Path.{◌≡◌, refl, sym, ap, ◌∙◌, subst}
use mathlib.Core.Bool.{Bool, true, false}
use mathlib.Core.Option.{some}
use Prim.Native.Nat.{ℕ, zero, suc, ◌+◌, ◌≤◌, max}
use native.Mathlib.Omega.{arith}
use lib.Dec.{eqb, ltb}
use Rattle.format.specs.Answer.{if, Answer, ok, refused, and_then, TypeMismatch, BadUnion}
use Rattle.format.specs.Tree.{Ty, Tys, Alts, Val, Vals, val_kind}
use Rattle.format.specs.Sheet.{field_count, val_count}
use Rattle.format.specs.TypeSheet.{nesting, alt_nestings, NotOptional}
use Rattle.format.specs.Encode.{fits, fits_all, fits_union, of_kind, in_union, group_at, fine, max_depth}
use Rattle.format.proofs.Tests.{eqb_no}
use Rattle.format.proofs.KindLaws.{built, built_is}
use Rattle.format.proofs.TypePlaces.{ty_kind}
use Rattle.format.proofs.Choose.{pick, choose}

-- ---- a type is what its kind's number and its parts say

abbrev pub predicate_in : Ty → ℕ
predicate_in Ty.Int = 0
predicate_in Ty.Str = 0
predicate_in Ty.Bytes = 0
predicate_in (Ty.Ref p) = p
predicate_in (Ty.Record ts) = 0
predicate_in (Ty.Union us) = 0
predicate_in (Ty.Optional t) = 0

abbrev pub types_in : Ty → Tys
types_in Ty.Int = Tys.NoTy
types_in Ty.Str = Tys.NoTy
types_in Ty.Bytes = Tys.NoTy
types_in (Ty.Ref p) = Tys.NoTy
types_in (Ty.Record ts) = ts
types_in (Ty.Union us) = Tys.NoTy
types_in (Ty.Optional t) = Tys.NoTy

abbrev pub alts_in : Ty → Alts
alts_in Ty.Int = Alts.NoAlt
alts_in Ty.Str = Alts.NoAlt
alts_in Ty.Bytes = Alts.NoAlt
alts_in (Ty.Ref p) = Alts.NoAlt
alts_in (Ty.Record ts) = Alts.NoAlt
alts_in (Ty.Union us) = us
alts_in (Ty.Optional t) = Alts.NoAlt

abbrev pub behind_in : Ty → Ty
behind_in Ty.Int = Ty.Int
behind_in Ty.Str = Ty.Int
behind_in Ty.Bytes = Ty.Int
behind_in (Ty.Ref p) = Ty.Int
behind_in (Ty.Record ts) = Ty.Int
behind_in (Ty.Union us) = Ty.Int
behind_in (Ty.Optional t) = t

unfoldable pub typed : ℕ → Ty → Ty
typed zero t = Ty.Int
typed (suc zero) t = Ty.Int
typed (suc (suc zero)) t = Ty.Str
typed (suc (suc (suc zero))) t = Ty.Bytes
typed (suc (suc (suc (suc zero)))) t = Ty.Ref (predicate_in t)
typed (suc (suc (suc (suc (suc zero))))) t = Ty.Record (types_in t)
typed (suc (suc (suc (suc (suc (suc zero)))))) t = Ty.Union (alts_in t)
typed (suc (suc (suc (suc (suc (suc (suc n))))))) t = Ty.Optional (behind_in t)

pub typed_is : (t : Ty) → t ≡ typed (ty_kind t) t
unfolding typed
typed_is Ty.Int = refl
typed_is Ty.Str = refl
typed_is Ty.Bytes = refl
typed_is (Ty.Ref p) = refl
typed_is (Ty.Record ts) = refl
typed_is (Ty.Union us) = refl
typed_is (Ty.Optional t) = refl

pub kinds : (t : Ty) → (1 ≤ ty_kind t) × (ty_kind t ≤ 7)
kinds Ty.Int = (omega arith, omega arith)
kinds Ty.Str = (omega arith, omega arith)
kinds Ty.Bytes = (omega arith, omega arith)
kinds (Ty.Ref p) = (omega arith, omega arith)
kinds (Ty.Record ts) = (omega arith, omega arith)
kinds (Ty.Union us) = (omega arith, omega arith)
kinds (Ty.Optional t) = (omega arith, omega arith)

pub plain_kinds : (t : Ty) → NotOptional t → ty_kind t ≤ 6
plain_kinds Ty.Int o = omega arith
plain_kinds Ty.Str o = omega arith
plain_kinds Ty.Bytes o = omega arith
plain_kinds (Ty.Ref p) o = omega arith
plain_kinds (Ty.Record ts) o = omega arith
plain_kinds (Ty.Union us) o = omega arith
plain_kinds (Ty.Optional t) o = absurd o

pub value_kinds : (v : Val) → val_kind v ≤ 6
value_kinds Val.Null = omega arith
value_kinds (Val.Int w) = omega arith
value_kinds (Val.Str s) = omega arith
value_kinds (Val.Bytes s) = omega arith
value_kinds (Val.Ref r) = omega arith
value_kinds (Val.Record vs) = omega arith
value_kinds (Val.Union d v) = omega arith

-- what holds of the value of a kind
pub of_value : (P : Val → Type 0) (k : ℕ) (v : Val) → val_kind v ≡ k → P (built k v) → P v
of_value P k v e h = subst P (sym (built_is v ∙ ap (λ (n : ℕ). built n v) e)) h

-- ---- a value of another kind

of_its_kind : (t : Ty) (depth : ℕ) (v : Val) → NotOptional t → (next : Answer Unit) × (fits t depth v ≡ of_kind (ty_kind t) v next)
unfolding fits
of_its_kind Ty.Int depth v o = (_, refl)
of_its_kind Ty.Str depth v o = (_, refl)
of_its_kind Ty.Bytes depth v o = (_, refl)
of_its_kind (Ty.Ref p) depth v o = (_, refl)
of_its_kind (Ty.Record ts) depth v o = (_, refl)
of_its_kind (Ty.Union us) depth v o = (_, refl)
of_its_kind (Ty.Optional t) depth v o = absurd o

pub mismatch : (t : Ty) (depth : ℕ) (v : Val) → NotOptional t → (val_kind v ≡ ty_kind t → ⊥) → fits t depth v ≡ refused TypeMismatch (ty_kind t)
mismatch t depth v o h = let f = of_its_kind t depth v o in f.1 ∙ ap (λ b. if b f.0 (refused TypeMismatch (ty_kind t))) (eqb_no (val_kind v) (ty_kind t) h)

-- ---- what fits, taken apart

pub clash : {A : Type 0} {a : A} {n d : ℕ} {X : Type 0} → refused n d ≡ ok a → X
clash e = absurd (let z : ◌≡◌ {A = ℕ} 0 1 = cc in omega arith)

pub no_null : (t : Ty) (depth : ℕ) → NotOptional t → fits t depth Val.Null ≡ fine → ⊥
unfolding fits
no_null Ty.Int depth o e = clash e
no_null Ty.Str depth o e = clash e
no_null Ty.Bytes depth o e = clash e
no_null (Ty.Ref p) depth o e = clash e
no_null (Ty.Record ts) depth o e = clash e
no_null (Ty.Union us) depth o e = clash e
no_null (Ty.Optional t) depth o e = absurd o

-- a record's fields fit, one level deeper
pub fields_fit : (t : Ty) (depth : ℕ) (vs : Vals) → fits t depth (Val.Record vs) ≡ fine → (ts : Tys) × (fits_all ts (depth + 1) vs ≡ fine)
unfolding fits
fields_fit Ty.Int depth vs e = clash e
fields_fit Ty.Str depth vs e = clash e
fields_fit Ty.Bytes depth vs e = clash e
fields_fit (Ty.Ref p) depth vs e = clash e
fields_fit (Ty.Union us) depth vs e = clash e
fields_fit (Ty.Optional t) depth vs e = fields_fit t depth vs e
fields_fit (Ty.Record ts) depth vs e = go (eqb (field_count ts) (val_count vs)) (ltb depth max_depth) e
  where
    go : (b c : Bool) → if b (if c (fits_all ts (depth + 1) vs) (refused 6 0)) (refused 6 0) ≡ fine → (ts : Tys) × (fits_all ts (depth + 1) vs ≡ fine)
    go true true h = (ts, h)
    go true false h = clash h
    go false c h = clash h

-- a union's payload fits, one level deeper
under : (tag : ℕ) (a : Answer Unit) → in_union tag a ≡ fine → a ≡ fine
unfolding in_union
under tag (ok u) e = e
under tag (refused n d) e = go (eqb n 6) (eqb n 11) e
  where
    go : (b c : Bool) → if b (refused BadUnion tag) (if c (refused BadUnion tag) (refused n d)) ≡ fine → refused n d ≡ fine
    go true c h = clash h
    go false true h = clash h
    go false false h = h

alternative_fits : (us : Alts) (depth d : ℕ) (v : Val) → fits_union us depth d v ≡ fine → (s : Ty) × (fits s (depth + 1) v ≡ fine)
unfolding fits
alternative_fits Alts.NoAlt depth d v e = clash e
alternative_fits (Alts.AddAlt x t us) depth d v e = go (eqb x d) (alternative_fits us depth d v) e
  where
    deep : (c : Bool) → if c (fits t (depth + 1) v) (refused 6 0) ≡ fine → (s : Ty) × (fits s (depth + 1) v ≡ fine)
    deep true h = (t, h)
    deep false h = clash h

    go : (b : Bool) → (fits_union us depth d v ≡ fine → (s : Ty) × (fits s (depth + 1) v ≡ fine)) → if b (in_union d (group_at depth (fits t (depth + 1) v))) (fits_union us depth d v) ≡ fine
        → (s : Ty) × (fits s (depth + 1) v ≡ fine)
    go true more h = deep (ltb depth max_depth) (under d (group_at depth (fits t (depth + 1) v)) h)
    go false more h = more h

pub payload_fits : (t : Ty) (depth d : ℕ) (v : Val) → fits t depth (Val.Union d v) ≡ fine → (s : Ty) × (fits s (depth + 1) v ≡ fine)
unfolding fits
payload_fits Ty.Int depth d v e = clash e
payload_fits Ty.Str depth d v e = clash e
payload_fits Ty.Bytes depth d v e = clash e
payload_fits (Ty.Ref p) depth d v e = clash e
payload_fits (Ty.Record ts) depth d v e = clash e
payload_fits (Ty.Union us) depth d v e = alternative_fits us depth d v e
payload_fits (Ty.Optional t) depth d v e = payload_fits t depth d v e

-- fields one after the other
pub both_fit : (a b : Answer Unit) → and_then a (λ u. b) ≡ fine → (a ≡ fine) × (b ≡ fine)
both_fit (ok u) b e = (refl, e)
both_fit (refused n d) b e = clash e

-- ---- the alternative that a tag chooses nests no deeper than the union does

pub chosen_nesting : (us : Alts) (tag : ℕ) (c : Ty × Alts) → choose tag us ≡ some c → (nesting c.0 ≤ alt_nestings us) × (alt_nestings c.1 ≤ alt_nestings us)
unfolding choose nesting
chosen_nesting Alts.NoAlt tag c e = absurd (let z : ◌≡◌ {A = ℕ} 0 1 = cc in omega arith)
chosen_nesting (Alts.AddAlt d t us) tag c e = go (eqb d tag) (chosen_nesting us tag c) e
  where
    go : (b : Bool) → (choose tag us ≡ some c → (nesting c.0 ≤ alt_nestings us) × (alt_nestings c.1 ≤ alt_nestings us)) → pick b t us (choose tag us) ≡ some c
        → (nesting c.0 ≤ max (nesting t) (alt_nestings us)) × (alt_nestings c.1 ≤ max (nesting t) (alt_nestings us))
    go true more h = let f : ◌≡◌ {A = Ty × Alts} (t, us) c = cc in (rw (← f) (omega arith), rw (← f) (omega arith))
    go false more h = let m = more h in (omega arith, omega arith)

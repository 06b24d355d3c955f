-- What refuses a value under a type has a number from 6 to 12, whatever the value.
use mathlib.Core.Bool.{Bool, true, false}
use Prim.Native.Nat.{ℕ, ◌+◌, ◌≤◌}
use lib.Dec.{T, ltb, leb, eqb, lit≤}
use Rattle.format.specs.Answer.{if, Answer, ok, refused, and_then, BadRecord, TypeMismatch}
use Rattle.format.specs.Tree.{Ty, Tys, Alts, Val, Vals, val_kind, number_in, fields_in, payload_in}
use Rattle.format.specs.Sheet.{field_count, val_count}
use Rattle.format.specs.Scalar.{sequence_of, predicate_of}
use Rattle.format.specs.Encode.{max_depth, fine, of_kind, in_union, fits_ref, group_at, fits, fits_all, fits_union}

pub record FromFit (n : ℕ) : Type 0 where
  pub from : 6 ≤ n
  pub to : n ≤ 12

abbrev pub Numbers : {A : Type 0} → Answer A → Type 0
Numbers (ok a) = Unit
Numbers (refused n d) = FromFit n

-- a number that is written out
listed : {n : ℕ} → T (leb 6 n) → T (leb n 12) → FromFit n
listed low high = record { from = lit≤ low; to = lit≤ high }

numbers_if : {A : Type 0} (b : Bool) (x y : Answer A) → Numbers x → Numbers y → Numbers (if b x y)
numbers_if true x y p q = p
numbers_if false x y p q = q

numbers_then : {A B : Type 0} (m : Answer A) (f : A → Answer B) → Numbers m → ((a : A) → Numbers (f a)) → Numbers (and_then m f)
numbers_then (ok a) f p q = q a
numbers_then (refused n d) f p q = p

pub kinds : (k : ℕ) (v : Val) (a : Answer Unit) → Numbers a → Numbers (of_kind k v a)
kinds k v a p = numbers_if (eqb (val_kind v) k) _ _ p (listed tt tt)

pub refs : (p r : ℕ) → Numbers (fits_ref p r)
unfolding fits_ref
refs p r = numbers_if (eqb (sequence_of r) 0) _ _ (listed tt tt) (numbers_if (eqb (predicate_of r) p) _ _ tt (listed tt tt))

groups : {A : Type 0} (depth : ℕ) (a : Answer A) → Numbers a → Numbers (group_at depth a)
groups depth a p = numbers_if (ltb depth max_depth) _ _ p (listed tt tt)

unions : {A : Type 0} (tag : ℕ) (a : Answer A) → Numbers a → Numbers (in_union tag a)
unfolding in_union
unions tag (ok a) p = tt
unions tag (refused n d) p = numbers_if (eqb n BadRecord) _ _ (listed tt tt) (numbers_if (eqb n TypeMismatch) _ _ (listed tt tt) p)

mutual
  unfolding fits

  pub fitting : (t : Ty) (depth : ℕ) (v : Val) → Numbers (fits t depth v)
  fitting Ty.Int depth v = kinds 1 v fine tt
  fitting Ty.Str depth v = kinds 2 v fine tt
  fitting Ty.Bytes depth v = kinds 3 v fine tt
  fitting (Ty.Ref p) depth v = kinds 4 v (fits_ref p (number_in v)) (refs p (number_in v))
  fitting (Ty.Record ts) depth v = kinds 5 v _ (numbers_if (eqb (field_count ts) (val_count (fields_in v))) _ _ (groups depth (fits_all ts (depth + 1) (fields_in v)) (fitting_all_lem ts (depth + 1) (fields_in v))) (listed tt tt))
  fitting (Ty.Union alts) depth v = kinds 6 v _ (fitting_union_lem alts depth (number_in v) (payload_in v))
  fitting (Ty.Optional t) depth v = numbers_if (eqb (val_kind v) 0) fine (fits t depth v) tt (fitting t depth v)

  pub fitting_all_lem : (ts : Tys) (depth : ℕ) (vs : Vals) → Numbers (fits_all ts depth vs)
  fitting_all_lem Tys.NoTy depth Vals.NoVal = tt
  fitting_all_lem Tys.NoTy depth (Vals.AddVal v vs) = listed tt tt
  fitting_all_lem (Tys.AddTy t ts) depth Vals.NoVal = listed tt tt
  fitting_all_lem (Tys.AddTy t ts) depth (Vals.AddVal v vs) = numbers_then (fits t depth v) _ (fitting t depth v) (λ u. fitting_all_lem ts depth vs)

  fitting_union_lem : (alts : Alts) (depth disc : ℕ) (v : Val) → Numbers (fits_union alts depth disc v)
  fitting_union_lem Alts.NoAlt depth disc v = listed tt tt
  fitting_union_lem (Alts.AddAlt e t alts) depth disc v =
      numbers_if (eqb e disc) _ _ (unions disc _ (groups depth (fits t (depth + 1) v) (fitting t (depth + 1) v))) (fitting_union_lem alts depth disc v)

-- The trees of a type sheet by their places: what a walk over an admitted sheet goes by.
use Prim.Native.Nat.{ℕ, ◌+◌, ◌≤◌, ◌<◌}
use mathlib.Core.List.{List, [], ◌∷◌, ◌++◌}
use mathlib.Core.Path.{◌≡◌, ap, ◌∙◌}
use lib.ListN.{length, drop, get_or}
use Rattle.format.specs.Tree.{Ty, Tys, Alts}
use Rattle.format.specs.Sheet.{ty_words, tys_words, alts_words, field_count, alt_count}
use Rattle.format.specs.TypeSheet.{got, types, alts, type_at, nesting, nestings, alt_nestings, NotOptional, Single, Singles, SingleAlts, Admitted}
use Rattle.format.proofs.TypeLaws.{reads_back, all_back, alts_back}
use Rattle.format.proofs.SheetPlaces.{Span, all_words, parts, first, first2}

-- the type t, the types ts, the alternatives us stand in w from p up to e, no optional type straight inside another
pub record TypeIn (w : List ℕ) (p : ℕ) (t : Ty) (e : ℕ) : Type 0 where
  pub span : Span w p (ty_words t) e
  pub single : Single t

pub record TypesIn (w : List ℕ) (p : ℕ) (ts : Tys) (e : ℕ) : Type 0 where
  pub span : Span w p (tys_words ts) e
  pub single : Singles ts

pub record AltsIn (w : List ℕ) (p : ℕ) (us : Alts) (e : ℕ) : Type 0 where
  pub span : Span w p (alts_words us) e
  pub single : SingleAlts us

-- an admitted sheet has its tree from 0 to its end
pub top : (w : List ℕ) (t : Ty) → Admitted w t → TypeIn w 0 t (length w)
top w t a = record { span = all_words w (ty_words t) a.words; single = a.single }

-- what stands at a place is what is read there
pub type_read : (w : List ℕ) (p e g : ℕ) (t : Ty) → TypeIn w p t e → nesting t ≤ g → type_at g (drop p w) ≡ got t (drop e w)
type_read w p e g t s d = ap (type_at g) s.span.is ∙ reads_back t g (drop e w) d s.single

pub types_read : (w : List ℕ) (p e g : ℕ) (ts : Tys) → TypesIn w p ts e → nestings ts ≤ g → types (type_at g) (field_count ts) (drop p w) ≡ got ts (drop e w)
types_read w p e g ts s d = ap (types (type_at g) (field_count ts)) s.span.is ∙ all_back ts g (drop e w) d s.single

pub alts_read : (w : List ℕ) (p e g : ℕ) (us : Alts) → AltsIn w p us e → alt_nestings us ≤ g → alts (type_at g) (alt_count us) (drop p w) ≡ got us (drop e w)
alts_read w p e g us s d = ap (alts (type_at g) (alt_count us)) s.span.is ∙ alts_back us g (drop e w) d s.single

-- the kind of a type is its first word
abbrev pub ty_kind : Ty → ℕ
ty_kind Ty.Int = 1
ty_kind Ty.Str = 2
ty_kind Ty.Bytes = 3
ty_kind (Ty.Ref p) = 4
ty_kind (Ty.Record ts) = 5
ty_kind (Ty.Union us) = 6
ty_kind (Ty.Optional t) = 7

pub kind_is : (w : List ℕ) (p e : ℕ) (t : Ty) → TypeIn w p t e → (p < length w) × (get_or w p 0 ≡ ty_kind t)
unfolding ty_words
kind_is w p e Ty.Int s = let f = first w p e 1 [] s.span in (f.0, f.1)
kind_is w p e Ty.Str s = let f = first w p e 2 [] s.span in (f.0, f.1)
kind_is w p e Ty.Bytes s = let f = first w p e 3 [] s.span in (f.0, f.1)
kind_is w p e (Ty.Ref x) s = let f = first w p e 4 (x ∷ []) s.span in (f.0, f.1)
kind_is w p e (Ty.Record ts) s = let f = first w p e 5 (field_count ts ∷ tys_words ts) s.span in (f.0, f.1)
kind_is w p e (Ty.Union us) s = let f = first w p e 6 (alt_count us ∷ alts_words us) s.span in (f.0, f.1)
kind_is w p e (Ty.Optional t) s = let f = first w p e 7 (ty_words t) s.span in (f.0, f.1)

-- a record's count and its fields; a union's count and its alternatives; a reference's predicate
pub record_in : (w : List ℕ) (p e : ℕ) (ts : Tys) → TypeIn w p (Ty.Record ts) e → (p + 1 < length w) × (get_or w (p + 1) 0 ≡ field_count ts) × TypesIn w (p + 2) ts e
unfolding ty_words Single
record_in w p e ts s = let f = first2 w p e 5 (field_count ts) (tys_words ts) s.span in (f.0, f.1, record { span = f.2; single = s.single })

pub union_in : (w : List ℕ) (p e : ℕ) (us : Alts) → TypeIn w p (Ty.Union us) e → (p + 1 < length w) × (get_or w (p + 1) 0 ≡ alt_count us) × AltsIn w (p + 2) us e
unfolding ty_words Single
union_in w p e us s = let f = first2 w p e 6 (alt_count us) (alts_words us) s.span in (f.0, f.1, record { span = f.2; single = s.single })

-- the type behind a 7, which is not optional
pub optional_in : (w : List ℕ) (p e : ℕ) (t : Ty) → TypeIn w p (Ty.Optional t) e → TypeIn w (p + 1) t e × NotOptional t
unfolding ty_words Single
optional_in w p e t s = (record { span = (first w p e 7 (ty_words t) s.span).2; single = s.single.1 }, s.single.0)

pub ref_in_lem : (w : List ℕ) (p e x : ℕ) → TypeIn w p (Ty.Ref x) e → (p + 1 < length w) × (get_or w (p + 1) 0 ≡ x)
unfolding ty_words
ref_in_lem w p e x s = let f = first2 w p e 4 x [] s.span in (f.0, f.1)

-- the next field, and the next alternative
pub field_in : (w : List ℕ) (p e : ℕ) (t : Ty) (ts : Tys) → TypesIn w p (Tys.AddTy t ts) e → TypeIn w p t (p + length (ty_words t)) × TypesIn w (p + length (ty_words t)) ts e
unfolding ty_words Single
field_in w p e t ts s = let f = parts w p e (ty_words t) (tys_words ts) s.span in (record { span = f.0; single = s.single.0 }, record { span = f.1; single = s.single.1 })

pub alt_in : (w : List ℕ) (p e d : ℕ) (t : Ty) (us : Alts) → AltsIn w p (Alts.AddAlt d t us) e
    → (p < length w) × (get_or w p 0 ≡ d) × TypeIn w (p + 1) t (p + 1 + length (ty_words t)) × AltsIn w (p + 1 + length (ty_words t)) us e
unfolding ty_words Single
alt_in w p e d t us s =
    let f = first w p e d (ty_words t ++ alts_words us) s.span in
    let g = parts w (p + 1) e (ty_words t) (alts_words us) f.2 in
    (f.0, f.1, record { span = g.0; single = s.single.0 }, record { span = g.1; single = s.single.1 })

-- The type at a place of a sheet, by the number there: of which kind it is, and its parts. What goes by kinds is cited from here, so that a new
-- constructor is met in this file and in the recursive definitions.
use mathlib.Core.Path.{◌≡◌, refl, sym, ap, ◌∙◌, subst}
use mathlib.Core.List.{List}
use Prim.Native.Nat.{ℕ, ◌+◌, ◌≤◌, ◌<◌}
use native.Mathlib.Omega.{arith}
use lib.ListN.{length, get_or}
use Rattle.format.specs.Answer.{Answer, refused, NoField}
use Rattle.format.specs.Tree.{Ty, Tys, Alts, Val}
use Rattle.format.specs.Sheet.{ty_words, field_count, alt_count}
use Rattle.format.specs.TypeSheet.{nesting, nestings, alt_nestings, NotOptional}
use Rattle.format.specs.Encode.{encode_typed, key_bytes}
use Rattle.format.specs.Decode.{decode_typed, decode_key}
use Rattle.format.specs.Calls.{with_fields}
use Rattle.format.proofs.TypePlaces.{TypeIn, TypesIn, AltsIn, ty_kind, kind_is, record_in, union_in, ref_in_lem, optional_in}
use Rattle.format.proofs.FitLaws.{typed, typed_is, kinds, plain_kinds, types_in, alts_in, predicate_in, behind_in}

-- what holds of the type of a kind
pub of_type : (P : Ty → Type 0) (k : ℕ) (t : Ty) → ty_kind t ≡ k → P (typed k t) → P t
of_type P k t e h = subst P (sym (typed_is t ∙ ap (λ (n : ℕ). typed n t) e)) h

-- ---- at a place

-- a reference, a record or a union at a place: what it is, the word behind its kind, and what follows
pub record RefHere (w : List ℕ) (p : ℕ) (t : Ty) (e : ℕ) : Type 0 where
  pub is : t ≡ Ty.Ref (get_or w (p + 1) 0)
  pub second : p + 1 < length w
  pub end : e ≡ p + 2

pub record RecordHere (w : List ℕ) (p : ℕ) (t : Ty) (e : ℕ) : Type 0 where
  pub ts : Tys
  pub is : t ≡ Ty.Record ts
  pub second : p + 1 < length w
  pub count : get_or w (p + 1) 0 ≡ field_count ts
  pub fields : TypesIn w (p + 2) ts e
  pub deep : nestings ts < nesting t

pub record UnionHere (w : List ℕ) (p : ℕ) (t : Ty) (e : ℕ) : Type 0 where
  pub us : Alts
  pub is : t ≡ Ty.Union us
  pub second : p + 1 < length w
  pub count : get_or w (p + 1) 0 ≡ alt_count us
  pub alts : AltsIn w (p + 2) us e
  pub deep : alt_nestings us < nesting t

-- an optional type at a place: the type behind word 7, which is none
pub record OptionalHere (w : List ℕ) (p : ℕ) (t : Ty) (e : ℕ) : Type 0 where
  pub filled : Ty
  pub is : t ≡ Ty.Optional filled
  pub behind : TypeIn w (p + 1) filled e
  pub plain : NotOptional filled
  pub deep : nesting filled ≡ nesting t

module _ {w : List ℕ} {p e : ℕ} (t : Ty) (s : TypeIn w p t e) where
  -- the number at the place is a kind's
  pub kind_here : (p < length w) × (1 ≤ get_or w p 0) × (get_or w p 0 ≤ 7)
  kind_here =
      let k = kind_is w p e t s in
      let b = kinds t in
      (k.0, omega (arith, k.1, b.0), omega (arith, k.1, b.1))

  pub here : (k : ℕ) → get_or w p 0 ≡ k → t ≡ typed k t
  here k q = of_type (λ (u : Ty). u ≡ typed k t) k t (sym (kind_is w p e t s).1 ∙ q) refl

  ends_as : (u : Ty) → t ≡ u → e ≡ p + length (ty_words u)
  ends_as u q = s.span.long ∙ ap (λ (x : Ty). p + length (ty_words x)) q

  -- the kinds of one word
  pub int_here : get_or w p 0 ≡ 1 → (t ≡ Ty.Int) × (e ≡ p + 1)
  unfolding typed ty_words
  int_here q = (here 1 q, ends_as Ty.Int (here 1 q))

  pub str_here : get_or w p 0 ≡ 2 → (t ≡ Ty.Str) × (e ≡ p + 1)
  unfolding typed ty_words
  str_here q = (here 2 q, ends_as Ty.Str (here 2 q))

  pub bytes_here : get_or w p 0 ≡ 3 → (t ≡ Ty.Bytes) × (e ≡ p + 1)
  unfolding typed ty_words
  bytes_here q = (here 3 q, ends_as Ty.Bytes (here 3 q))

  pub ref_here : get_or w p 0 ≡ 4 → RefHere w p t e
  unfolding typed ty_words
  ref_here q =
      let i = here 4 q in
      let f = ref_in_lem w p e (predicate_in t) (subst (λ (x : Ty). TypeIn w p x e) i s) in
      record { is = i ∙ ap Ty.Ref (sym f.1); second = f.0; end = ends_as (Ty.Ref (predicate_in t)) i }

  pub record_here : get_or w p 0 ≡ 5 → RecordHere w p t e
  unfolding typed ty_words nesting
  record_here q =
      let i = here 5 q in
      let f = record_in w p e (types_in t) (subst (λ (x : Ty). TypeIn w p x e) i s) in
      let n : nesting t ≡ nesting (Ty.Record (types_in t)) = ap nesting i in
      record { ts = types_in t; is = i; second = f.0; count = f.1; fields = f.2; deep = omega arith }

  pub union_here : get_or w p 0 ≡ 6 → UnionHere w p t e
  unfolding typed ty_words nesting
  union_here q =
      let i = here 6 q in
      let f = union_in w p e (alts_in t) (subst (λ (x : Ty). TypeIn w p x e) i s) in
      let n : nesting t ≡ nesting (Ty.Union (alts_in t)) = ap nesting i in
      record { us = alts_in t; is = i; second = f.0; count = f.1; alts = f.2; deep = omega arith }

  pub optional_here : get_or w p 0 ≡ 7 → OptionalHere w p t e
  unfolding typed nesting
  optional_here q =
      let i = here 7 q in
      let f = optional_in w p e (behind_in t) (subst (λ (x : Ty). TypeIn w p x e) i s) in
      record { filled = behind_in t; is = i; behind = f.0; plain = f.1; deep = sym (ap nesting i) }

  -- word 7 stands before every optional type and before no other
  pub plain_here : (get_or w p 0 ≡ 7 → ⊥) → NotOptional t
  plain_here n = other t (λ q. n ((kind_is w p e t s).1 ∙ q))
    where
      other : (u : Ty) → (ty_kind u ≡ 7 → ⊥) → NotOptional u
      other Ty.Int m = tt
      other Ty.Str m = tt
      other Ty.Bytes m = tt
      other (Ty.Ref x) m = tt
      other (Ty.Record ts) m = tt
      other (Ty.Union us) m = tt
      other (Ty.Optional u) m = m refl

  pub plain_kind : NotOptional t → get_or w p 0 ≤ 6
  plain_kind o = omega (arith, (kind_is w p e t s).1, plain_kinds t o)

-- ---- a record or not: what a key, its bytes and the calls on fields ask

pub record NoRecord (t : Ty) : Type 1 where
  pub bytes : (v : Val) → key_bytes t v ≡ encode_typed t v
  pub value : (bs : List ℕ) → decode_key t bs ≡ decode_typed t bs
  pub fields : {A : Type 0} (f : Tys → Answer A) → with_fields t f ≡ refused NoField 0

pub no_record : (t : Ty) → (ty_kind t ≡ 5 → ⊥) → NoRecord t
unfolding key_bytes decode_key
no_record Ty.Int n = record { bytes = λ v. refl; value = λ bs. refl; fields = λ f. refl }
no_record Ty.Str n = record { bytes = λ v. refl; value = λ bs. refl; fields = λ f. refl }
no_record Ty.Bytes n = record { bytes = λ v. refl; value = λ bs. refl; fields = λ f. refl }
no_record (Ty.Ref p) n = record { bytes = λ v. refl; value = λ bs. refl; fields = λ f. refl }
no_record (Ty.Record ts) n = absurd (n refl)
no_record (Ty.Union us) n = record { bytes = λ v. refl; value = λ bs. refl; fields = λ f. refl }
no_record (Ty.Optional t) n = record { bytes = λ v. refl; value = λ bs. refl; fields = λ f. refl }

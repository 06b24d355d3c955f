-- A record sheet by its first two words, whether a type has a field behind as many, and what judging the sheet's values says.
use mathlib.Core.Path.{◌≡◌, refl, sym, ap, ◌∙◌}
use mathlib.Core.Bool.{Bool, true, false}
use mathlib.Core.Option.{Option, some, none}
use mathlib.Core.List.{List, ◌++◌}
use Prim.Native.Nat.{ℕ, ◌+◌, ◌≤◌, ◌<◌, ◌^◌}
use native.Mathlib.Omega.{arith}
use borrow.Author.Tests.{eqb-true, ltb-true}
use lib.Dec.{eqb, ltb}
use lib.ListN.{length, get_or, drop}
use Rattle.std.specs.Prelude.{Result, Ok, Err}
use Rattle.format.specs.Answer.{if, Answer, refused, BadValue, NoField}
use Rattle.format.specs.Refusals.{number_of, detail_of}
use Rattle.format.specs.declared.refusal.Refusal.{Refusal}
use Rattle.format.specs.Tree.{Ty, Tys, Val, Vals, val_kind, fields_in}
use Rattle.format.specs.Sheet.{field_count, val_count, ty_words}
use Rattle.format.specs.TypeSheet as type_sheets
use Rattle.format.specs.TypeSheet.{type_of, is_some, max_groups, nesting, nestings}
use Rattle.format.specs.ValueSheet as value_sheets
use Rattle.format.specs.ValueSheet.{value_of}
use Rattle.format.specs.Encode.{vals_bytes, fits_all, fine}
use Rattle.format.specs.Calls.{over}
use Rattle.format.specs.Fields.{put}
use Rattle.format.specs.Spans.{first_tys, field_type, with_record, with_next}
use Rattle.format.proofs.Tests.{eqb_test, Test, holds, fails}
use Rattle.format.proofs.KindLaws.{is_record_lem}
use Rattle.format.proofs.TypeLaws as types
use Rattle.format.proofs.TypePlaces as type_places
use Rattle.format.proofs.TypePlaces.{TypeIn, TypesIn}
use Rattle.format.proofs.TypeKinds.{no_record}
use Rattle.format.proofs.ValueLaws as values
use Rattle.format.proofs.ValuePlaces as value_places
use Rattle.format.proofs.ValuePlaces.{ValueIn, ValuesIn}
use Rattle.format.proofs.SplitLaws.{first_count}
use Rattle.fit.specs.declared.Fitted.{Fitted}
use Rattle.fit.specs.Fit as fit
use Rattle.fit.specs.Fit.{FitFields, Says, Brief}
use Rattle.key.specs.Records.{is_record, FirstWords, has_next}
use Rattle.key.specs.Firsts.{Firsts}
use Rattle.key.proofs.SpanLaws.{place_at, spans, first_nest, next_span}
use Rattle.key.proofs.CallLaws.{some_words, another, record_type, count_word}
use Rattle.key.proofs.ValueLaws.{its_value, it_is, it_stands}

-- what is put at a buffer's beginning stands over it
pub put_over : (out x : List ℕ) → put out 0 x ≡ over x out
put_over out x = let z : 0 + length x ≡ length x = omega arith in ap (λ (n : ℕ). x ++ drop n out) z

-- ---- the record sheet

-- of another kind, or of none
pub not_record : {A : Type 0} (o : Option Val) (f : Vals → Answer A) → is_record o ≡ false → with_record o f ≡ refused BadValue 0
not_record none f e = refl
not_record (some v) f e = rw e

pub its_fields : (o : Option Val) → is_record o ≡ true → (vs : Vals) × (o ≡ some (Val.Record vs))
its_fields none e = absurd (let z : ◌≡◌ {A = ℕ} 0 1 = cc in omega arith)
its_fields (some v) e = (fields_in v, ap some (is_record_lem v (eqb-true (val_kind v) 5 e)))

module _ (words pool : List ℕ) {b : Bool} (said : b ≡ is_some (value_of words pool)) where
  module _ (yes : b ≡ true) where
    here : (0 < length words) × (get_or words 0 0 ≡ val_kind (its_value words pool said yes))
    here = value_places.kind_is words pool 0 0 (length words) (length pool) (its_value words pool said yes) (it_stands words pool said yes)

    pub first_word : 0 < length words
    first_word = here.0

    pub kind_says : eqb (get_or words 0 0) 5 ≡ is_record (value_of words pool)
    kind_says = ap (λ (n : ℕ). eqb n 5) here.1 ∙ ap is_record (sym (it_is words pool said yes))

-- what stands on a record's sheet: its count, and its fields behind it
module _ (words pool : List ℕ) {vs : Vals} (is : value_of words pool ≡ some (Val.Record vs)) where
  pub sheet : value_sheets.Admitted words pool (Val.Record vs)
  sheet = (values.admitted words pool (Val.Record vs)).0 is

  whole : ValueIn words pool 0 0 (Val.Record vs) (length words) (length pool)
  whole = value_places.top words pool (Val.Record vs) sheet

  pub fields_in_lem : ValuesIn words pool 2 0 vs (length words) (length pool)
  fields_in_lem = value_places.record_in words pool 0 0 (length words) (length pool) vs whole

  pub count_in : (1 < length words) × (get_or words 1 0 ≡ val_count vs)
  count_in = value_places.word_is_lem words pool 0 0 (length words) (length pool) (Val.Record vs) whole (λ z. absurd (omega arith))

-- ---- the field behind

-- the sheets passed their tests: a type, and a record
module _ (ty words pool : List ℕ) {b : Bool} (said : b ≡ is_some (type_of ty)) (yes : b ≡ true) where
  pub its_type : (t : Ty) × (type_of ty ≡ some t)
  its_type = types.some_of (type_of ty) (sym said ∙ yes)

  module _ {q : Bool} (first : q ≡ is_record (value_of words pool)) (record_yes : q ≡ true) where
    pub its_first : (vs : Vals) × (value_of words pool ≡ some (Val.Record vs))
    its_first = its_fields (value_of words pool) (sym first ∙ record_yes)

    pub first_words : FirstWords ty words
    first_words = record { kind_word = some_words ty said yes; type_count = λ k. count_word ty said yes k; value_count = (count_in words pool its_first.1).0 }

    module _ {n : Bool} (next : n ≡ has_next ty words) where
      count : get_or words 1 0 ≡ val_count its_first.0
      count = (count_in words pool its_first.1).1

      -- no field behind them
      pub no_field : {A : Type 0} (f : Tys → Ty → Answer A) → n ≡ false → with_next its_type.0 (val_count its_first.0) f ≡ refused NoField 0
      no_field f h = go (eqb (get_or ty 0 0) 5) (eqb_test (get_or ty 0 0) 5) (sym next ∙ h)
        where
          go : (e : Bool) → Test (get_or ty 0 0 ≡ 5) (get_or ty 0 0 ≡ 5 → ⊥) e → if e (ltb (get_or words 1 0) (get_or ty 1 0)) false ≡ false
              → with_next its_type.0 (val_count its_first.0) f ≡ refused NoField 0
          go _ (holds k) z =
              let r = record_type ty said yes k in
              let is : its_type.0 ≡ Ty.Record r.ts = cc (sym its_type.1 ∙ r.typed) in
              let over : ltb (val_count its_first.0) (field_count r.ts) ≡ false = rw (count, r.count) at z in
              rw (is, over)
          go _ (fails k) z =
              let t = another ty said yes k in
              let is : its_type.0 ≡ t.0 = cc (sym its_type.1 ∙ t.1) in
              rw is ((no_record t.0 t.2).fields _)

      pub the_firsts : n ≡ true → Firsts ty words pool
      the_firsts h = go (eqb (get_or ty 0 0) 5) (eqb_test (get_or ty 0 0) 5) (sym next ∙ h)
        where
          go : (e : Bool) → Test (get_or ty 0 0 ≡ 5) (get_or ty 0 0 ≡ 5 → ⊥) e → if e (ltb (get_or words 1 0) (get_or ty 1 0)) false ≡ true → Firsts ty words pool
          go _ (fails k) z = absurd (let y : ◌≡◌ {A = ℕ} 0 1 = cc in omega arith)
          go _ (holds k) z =
              let r = record_type ty said yes k in
              record { ts = r.ts; vs = its_first.0; typed = r.typed; first_is = its_first.1; inside = ltb-true (val_count its_first.0) (field_count r.ts) (rw (count, r.count) at z) }

-- ---- the first k types and values

module _ {ty words pool : List ℕ} (a : Firsts ty words pool) where
  abbrev k : ℕ
  k = val_count a.vs

  -- the type of the field behind them
  abbrev next : Ty
  next = field_type k a.ts

  type : type_sheets.Admitted ty (Ty.Record a.ts)
  type = (types.admitted ty (Ty.Record a.ts)).0 a.typed

  types_in : (1 < length ty) × (get_or ty 1 0 ≡ field_count a.ts) × TypesIn ty 2 a.ts (length ty)
  types_in = type_places.record_in ty 0 (length ty) a.ts (type_places.top ty (Ty.Record a.ts) type)

  deep : nestings a.ts ≤ max_groups
  unfolding nesting
  deep = omega (arith, type.deep)

  pub k_types : TypesIn ty 2 (first_tys k a.ts) (place_at k a.ts)
  k_types = (spans ty a.ts (length ty) k types_in.2).0

  pub k_deep : nestings (first_tys k a.ts) ≤ max_groups
  k_deep = omega (arith, first_nest k a.ts, deep)

  -- as many as the record sheet's second word says
  pub k_count : field_count (first_tys k a.ts) ≡ get_or words 1 0
  k_count = first_count k a.ts (omega (arith, a.inside)) ∙ sym (count_in words pool a.first_is).1

  pub next_in : TypeIn ty (place_at k a.ts) next (place_at k a.ts + length (ty_words next)) × (nesting next ≤ max_groups)
  next_in = let n = next_span ty a.ts (length ty) k types_in.2 a.inside deep in (n.0, n.2)

  pub k_there : 1 < length words
  k_there = (count_in words pool a.first_is).0

  pub k_small : get_or ty 1 0 < 2 ^ 32 → get_or words 1 0 < 2 ^ 32
  k_small h = omega (arith, types_in.1, (count_in words pool a.first_is).1, a.inside)

  row : fit.Row ty words pool 2 2 0 (get_or words 1 0) (first_tys k a.ts) a.vs (place_at k a.ts) (length words) (length pool)
  row = record { types = k_types; deep = k_deep; values = fields_in_lem words pool a.first_is; count = k_count; same = sym (count_in words pool a.first_is).1 }

  pub k_row : fit.StandingRow ty words pool 2 2 0 (get_or words 1 0)
  k_row = let s = sheet words pool a.first_is in record { ts = first_tys k a.ts; vs = a.vs; e = place_at k a.ts; f = length words; g = length pool; here = row; few = s.long; small = s.large }

  -- what judging them says
  module _ {asked : Bool} where
    first_says : {o : Result Fitted Refusal} → FitFields ty words pool 2 2 0 (get_or words 1 0) 0 asked o
        → Says (fits_all (first_tys k a.ts) 0 a.vs) asked (place_at k a.ts) (length words) (length pool) (length (vals_bytes 0 a.vs)) o
    first_says f = f.says (first_tys k a.ts) a.vs (place_at k a.ts) (length words) (length pool) row

    pub first_refused : {e : Refusal} → FitFields ty words pool 2 2 0 (get_or words 1 0) 0 asked (Err e) → fits_all (first_tys k a.ts) 0 a.vs ≡ refused (number_of e) (detail_of e)
    first_refused f = sym (first_says f).answer

    module _ {x : Fitted} (f : FitFields ty words pool 2 2 0 (get_or words 1 0) 0 asked (Ok x)) where
      pub first_fit : fits_all (first_tys k a.ts) 0 a.vs ≡ fine
      first_fit = sym (first_says f).answer

      pub place : asked ≡ true → x.at ≡ place_at k a.ts
      place q = (first_says f).ends.0 q

      pub first_long : (x.len ≡ length (vals_bytes 0 a.vs)) × (x.len < 2 ^ 32)
      first_long = let b : Brief words pool 2 0 (Ok x) = f.brief in ((first_says f).ends.3, omega (arith, b.1, b.3, b.4, k_row.few, k_row.small))

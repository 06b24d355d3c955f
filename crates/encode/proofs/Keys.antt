-- What the walks over admitted sheets say of a whole value, and of a key: a record's fields bare, any other type as a whole.
use mathlib.Core.Path.{◌≡◌, refl, sym, ap, ◌∙◌, subst}
use mathlib.Core.Bool.{Bool, true, false, not}
use mathlib.Core.List.{List}
use mathlib.Core.Option.{Option, some, none}
use Prim.Native.Nat.{ℕ, ◌+◌, ◌≤◌, ◌<◌}
use native.Mathlib.Omega.{arith}
use borrow.Author.Tests.{eq-eqb, ne_eqb, eqb-true, eqb-false, not-true, not-false}
use lib.Dec.{eqb}
use lib.ListN.{length, get_or}
use Rattle.format.specs.Answer.{if, Answer, ok, refused, and_then, BadRecord, TypeMismatch}
use Rattle.format.specs.Tree.{Ty, Val, val_kind, fields_in}
use Rattle.format.specs.Sheet.{field_count, val_count}
use Rattle.format.specs.TypeSheet as types
use Rattle.format.specs.TypeSheet.{type_of}
use Rattle.format.specs.ValueSheet as values
use Rattle.format.specs.ValueSheet.{value_of}
use Rattle.format.specs.Encode.{val_bytes, vals_bytes, fits, fits_all, of_kind, encode, encode_typed, key_bytes, fine}
use Rattle.format.specs.Calls.{with_type, with_value}
use Rattle.format.specs.Fields.{put}
use Rattle.format.specs.Zeros.{val_zeros}
use Rattle.format.proofs.TypeLaws as type_laws
use Rattle.format.proofs.ValueLaws as value_laws
use Rattle.format.proofs.TypePlaces as type_places
use Rattle.format.proofs.ValuePlaces as value_places
use Rattle.format.proofs.TypeKinds as types_here
use Rattle.format.proofs.ValueKinds as values_here
use Rattle.format.proofs.FitLaws.{clash}
use Rattle.format.proofs.Tests.{eqb_test, passed}
use Rattle.std.specs.Prelude.{Ok, Err}
use Rattle.fit.specs.Fit as fit
use Rattle.fit.proofs.Steps as fit_laws
use Rattle.write.specs.declared.Put.{Put}
use Rattle.write.specs.Write as write
use Rattle.encode.specs.Encoded.{admitted, size_in, sized, key_of, Sheets, Wrote, PutKey}

-- ---- the type and the value of admitted sheets

pub sheets : (ty words pool : List ℕ) → fine ≡ admitted ty words pool → Sheets ty words pool
sheets ty words pool e = go (type_of ty) (value_of words pool) refl refl e
  where
    go : (t : Option Ty) (v : Option Val) → type_of ty ≡ t → value_of words pool ≡ v → fine ≡ with_type t (λ u. with_value v (λ w. fine)) → Sheets ty words pool
    go (some t) (some v) g h k = record { t = t; v = v; is_type = g; is_value = h }
    go (some t) none g h k = clash (sym k)
    go none v g h k = clash (sym k)

-- ---- answers

-- nothing refused, and this is the answer
accepted : (a : Answer Unit) (z x : List ℕ) → and_then a (λ u. ok z) ≡ ok x → (a ≡ fine) × (z ≡ x)
accepted (ok u) z x e = (refl, cc)
accepted (refused n d) z x e = clash e

measured : {a : Answer Unit} {asked : Bool} {e f g n : ℕ} (r : fit.Outcome) (bs : List ℕ) → n ≡ length bs → fit.Says a asked e f g n r → size_in r ≡ sized (and_then a (λ u. ok bs))
measured (Ok x) bs q s = rw (← s.answer) (ap ok (s.ends.3 ∙ q))
measured (Err d) bs q s = rw (← s.answer)

module _ {ty words pool : List ℕ} (s : Sheets ty words pool) where
  value : values.Admitted words pool s.v
  value = (value_laws.admitted words pool s.v).0 s.is_value

  type : types.Admitted ty s.t
  type = (type_laws.admitted ty s.t).0 s.is_type

  pair : fit.Pair ty words pool 0 0 0 s.t s.v (length ty) (length words) (length pool)
  pair = record { type = type_places.top ty s.t type; deep = type.deep; value = value_places.top words pool s.v value }

  pub stands : fit.Standing ty words pool 0 0 0
  stands =
      record {
        T = s.t;
        v = s.v;
        e = length ty;
        f = length words;
        g = length pool;
        here = pair;
        few = value.long;
        small = value.large;
      }

  pub key_is_lem : key_of ty words pool ≡ key_bytes s.t s.v
  key_is_lem = rw (s.is_type, s.is_value)

  -- ---- a whole value

  pub whole_measured : {asked : Bool} {r : fit.Outcome} → fit.FitValue ty words pool 0 0 0 0 asked r → size_in r ≡ sized (encode_typed s.t s.v)
  unfolding encode
  whole_measured {asked} {r} i = measured r (val_bytes 0 s.v) refl (i.says s.t s.v _ _ _ pair)

  -- what was written of the sheet's value
  wrote : {l l' bs : List ℕ} {z : ℕ} → l' ≡ put l 0 bs → z ≡ val_zeros s.v + 0 → Wrote words pool l bs z l'
  wrote {bs = bs} {z} b e = record { bytes = b; zeros = rw s.is_value (omega arith) }

  pub whole_written : {l l' : List ℕ} {p : Put} → write.WroteValue words pool (write.standing 0 0 0 0) 0 l p l' → (bs : List ℕ) → encode_typed s.t s.v ≡ ok bs → length bs ≤ length l
      → Wrote words pool l bs p.zeros l'
  unfolding encode
  whole_written i bs e room =
      let q = accepted (fits s.t 0 s.v) (val_bytes 0 s.v) bs e in
      let d = i.says.one s.t s.v _ _ q.0 value.proper pair.value (rw q.1 (omega arith)) in
      wrote (rw q.1 at d.wrote) d.counted

  -- ---- a key that is no record's

  module _ {r : Bool} (is : r ≡ eqb (get_or ty 0 0) 5) (no : not r ≡ true) where
    whole : get_or ty 0 0 ≡ 5 → ⊥
    whole = eqb-false (get_or ty 0 0) 5 (sym is ∙ not-true r no)

    whole_key : key_of ty words pool ≡ encode_typed s.t s.v
    whole_key = key_is_lem ∙ (types_here.no_record s.t (λ z. whole ((type_places.kind_is ty 0 _ s.t pair.type).1 ∙ z))).bytes s.v

    pub key_whole : {asked : Bool} {f : fit.Outcome} → fit.FitValue ty words pool 0 0 0 0 asked f → size_in f ≡ sized (key_of ty words pool)
    key_whole i = whole_measured i ∙ ap sized (sym whole_key)

    pub put_whole : {l l' : List ℕ} {p : Put} → write.WroteValue words pool (write.standing 0 0 0 0) 0 l p l' → PutKey ty words pool l p.zeros l'
    put_whole i = record { wrote = λ bs e room. whole_written i bs (sym whole_key ∙ e) room }

  -- ---- a record's key

  module _ {r : Bool} (is : r ≡ eqb (get_or ty 0 0) 5) (yes : not r ≡ false) where
    bare : get_or ty 0 0 ≡ 5
    bare = eqb-true (get_or ty 0 0) 5 (sym is ∙ not-false r yes)

    abbrev top : types_here.RecordHere ty 0 s.t (length ty)
    top = types_here.record_here s.t pair.type bare

    key_bare : key_of ty words pool ≡ key_bytes (Ty.Record top.ts) s.v
    key_bare = key_is_lem ∙ ap (λ (t : Ty). key_bytes t s.v) top.is

    pub type_second : 1 < length ty
    type_second = top.second

    pub key_kind : (get_or words 0 0 ≡ 5 → ⊥) → refused TypeMismatch 5 ≡ sized (key_of ty words pool)
    unfolding key_bytes
    key_kind h =
        let k = (value_places.kind_is words pool 0 0 _ _ s.v pair.value).1 in
        rw (key_bare, ne_eqb (val_kind s.v) 5 (λ z. h (k ∙ z)))

    pub value_second : get_or words 0 0 ≡ 5 → 1 < length words
    value_second kind = fit_laws.word_second stands (kind ∙ sym bare)

    module _ (kind : get_or words 0 0 ≡ 5) where
      abbrev val : values_here.RecordHere words pool 0 0 s.v (length words) (length pool)
      val = values_here.record_here s.v pair.value kind

      key_fields : key_of ty words pool ≡ key_bytes (Ty.Record top.ts) (Val.Record val.vs)
      key_fields = key_bare ∙ ap (key_bytes (Ty.Record top.ts)) val.is

      pub key_count : (n : ℕ) → n ≡ get_or ty 1 0 → (get_or words 1 0 ≡ n → ⊥) → refused BadRecord 0 ≡ sized (key_of ty words pool)
      unfolding key_bytes
      key_count n q h = rw (key_fields, ne_eqb (field_count top.ts) (val_count val.vs) (λ z. h (val.count ∙ sym z ∙ sym top.count ∙ sym q)))

      module _ (n : ℕ) (is_n : n ≡ get_or ty 1 0) (same : get_or words 1 0 ≡ n) where
        count : get_or words 1 0 ≡ get_or ty 1 0
        count = same ∙ is_n

        pub fields_stand : fit.StandingRow ty words pool 2 2 0 (get_or ty 1 0)
        fields_stand = fit_laws.fields_stand stands (kind ∙ sym bare) bare count

        pub key_measured : {asked : Bool} {f : fit.Outcome} → fit.FitFields ty words pool 2 2 0 (get_or ty 1 0) 0 asked f → size_in f ≡ sized (key_of ty words pool)
        unfolding key_bytes
        key_measured {asked} {f} i =
            let d = type.deep in
            let row : fit.Row ty words pool 2 2 0 (get_or ty 1 0) top.ts val.vs (length ty) (length words) (length pool) =
            record { types = top.fields; deep = omega (arith, top.deep); values = val.fields; count = sym top.count; same = sym val.count ∙ count } in
            rw (key_fields, eq-eqb (field_count top.ts) (val_count val.vs) (sym top.count ∙ sym count ∙ val.count))
            (measured f (vals_bytes 0 val.vs) refl (i.says top.ts val.vs _ _ _ row))

    -- what an accepted key says of its value
    parts : (v : Val) (bs : List ℕ) → key_bytes (Ty.Record top.ts) v ≡ ok bs → (val_kind v ≡ 5) × (fits_all top.ts 0 (fields_in v) ≡ fine) × (vals_bytes 0 (fields_in v) ≡ bs)
    unfolding key_bytes
    parts v bs e =
        let ts = top.ts in
        let q = accepted (of_kind 5 v (if (eqb (field_count ts) (val_count (fields_in v))) (fits_all ts 0 (fields_in v)) (refused BadRecord 0))) (vals_bytes 0 (fields_in v)) bs e in
        let k = passed _ _ (eqb_test (val_kind v) 5) (λ z. clash z) q.0 in
        let m = passed _ _ (eqb_test (field_count ts) (val_count (fields_in v))) (λ z. clash z) k.1 in
        (k.0, m.1, q.1)

    value_kind : (bs : List ℕ) → key_of ty words pool ≡ ok bs → get_or words 0 0 ≡ 5
    value_kind bs e = (value_places.kind_is words pool 0 0 _ _ s.v pair.value).1 ∙ (parts s.v bs (sym key_bare ∙ e)).0

    pub accepted_second : (bs : List ℕ) → key_of ty words pool ≡ ok bs → 1 < length words
    accepted_second bs e = value_second (value_kind bs e)

    pub put_bare : {l l' : List ℕ} {p : Put} → write.WroteFields words pool (write.standing 2 0 0 0) (get_or words 1 0) 0 l p l' → PutKey ty words pool l p.zeros l'
    unfolding values.Proper val_zeros
    put_bare i =
        record {
          wrote = λ bs e room.
              let b = val (value_kind bs e) in
              let q = parts (Val.Record b.vs) bs (sym (key_fields (value_kind bs e)) ∙ e) in
              let proper = subst values.Proper b.is value.proper in
              let d = i.says.row top.ts b.vs _ _ q.1 proper b.count b.fields (rw q.2 (omega arith)) in
              wrote (rw q.2 at d.wrote) (rw b.is d.counted);
        }

-- From what the steps found to what the bounds call and replacement answer and leave.
use mathlib.Core.Path.{◌≡◌, refl, sym, ap, ◌∙◌}
use mathlib.Core.Bool.{Bool, true, false}
use mathlib.Core.Option.{Option, some, none}
use mathlib.Core.List.{List}
use Prim.Native.Nat.{ℕ, ◌≤◌, ◌<◌, ◌^◌}
use native.Mathlib.Omega.{arith}
use lib.Dec.{leb}
use lib.ListN.{length, take, get_or}
use Rattle.std.specs.Prelude.{Result, Ok, Err}
use Rattle.format.specs.Answer.{if, Answer, ok, refused, and_then, KeyTooLong}
use Rattle.format.specs.Tree.{Ty, Tys, Val, Vals, fields_in}
use Rattle.format.specs.Sheet.{field_count}
use Rattle.format.specs.TypeSheet.{type_of, is_some, max_groups, nesting, nestings}
use Rattle.format.specs.ValueSheet.{value_of}
use Rattle.format.specs.Encode.{vals_bytes, encode, max_key_bytes}
use Rattle.format.specs.Decode.{Decoded, decode_key}
use Rattle.format.specs.Bounds.{first_bytes}
use Rattle.format.specs.Replace.{set_field, spliced}
use Rattle.format.specs.Spans.{field_type}
use Rattle.format.specs.Calls.{written, with_type, with_value, with_fields, replaced, bounded, bounds_call, replace_call}
use Rattle.format.specs.Refusals.{number_of, detail_of, answered, Leaves}
use Rattle.format.specs.declared.refusal.Refusal.{Refusal}
use Rattle.format.specs.declared.refusal.Refusal.TheVariants as made
use Rattle.format.proofs.Bytes.{AllBytes}
use Rattle.format.proofs.Tests.{leb_yes, leb_no, ltb_yes, ltb_no, Test, holds, fails, leb_test}
use Rattle.format.proofs.TypeLaws as types
use Rattle.format.proofs.TypePlaces.{TypesIn, top, kind_is, ty_kind, record_in}
use Rattle.format.proofs.TypeKinds.{record_here, no_record}
use Rattle.format.proofs.ReplaceLaws.{splice_is}
use Rattle.format.proofs.ChangeLaws.{changed_bad, changed_long, changed_ok, value_bytes, spliced_is}
use Rattle.read.specs.Walk.{FieldsAt, TypeAt}
use Rattle.key.specs.declared.bounding.Ends.{Ends}
use Rattle.key.specs.declared.passing.Field.{Field}
use Rattle.key.specs.Records.{count_in}
use Rattle.key.specs.Passing.{SplitSays, Splits, FieldIn, FindSays, Finds}
use Rattle.key.specs.Keys.{BoundsLeft, ValueStands, with, put}

-- ---- the type sheet

-- a record type of n fields, behind the first two words
pub record RecordType (ty : List ℕ) (n : ℕ) : Type 0 where
  pub ts : Tys
  pub typed : type_of ty ≡ some (Ty.Record ts)
  pub here : TypesIn ty 2 ts (length ty)
  pub count : n ≡ field_count ts
  pub deep : nestings ts ≤ max_groups

pub no_type_lem : (ty : List ℕ) → is_some (type_of ty) ≡ false → type_of ty ≡ none
no_type_lem ty h = go (type_of ty) h
  where
    go : (o : Option Ty) → is_some o ≡ false → o ≡ none
    go none e = refl
    go (some t) e = absurd (let z : ◌≡◌ {A = ℕ} 0 1 = cc in omega arith)

-- an admitted sheet, by the test's answer
module _ (ty : List ℕ) {b : Bool} (said : b ≡ is_some (type_of ty)) (yes : b ≡ true) where
  adm : is_some (type_of ty) ≡ true
  adm = sym said ∙ yes

  pub some_words : 0 < length ty
  some_words = let t = types.its_tree ty adm in (kind_is ty 0 (length ty) t.0 (top ty t.0 t.1)).0

  -- of a type that is no record
  pub another : (get_or ty 0 0 ≡ 5 → ⊥) → (t : Ty) × (type_of ty ≡ some t) × (ty_kind t ≡ 5 → ⊥)
  another q = let t = types.its_tree ty adm in (t.0, (types.admitted ty t.0).1 t.1, λ k. q ((kind_is ty 0 (length ty) t.0 (top ty t.0 t.1)).1 ∙ k))

  pub count_another : (get_or ty 0 0 ≡ 5 → ⊥) → answered (Err made.NoField) ≡ count_in ty
  count_another q = let t = another q in rw t.1 (sym ((no_record t.0 t.2).fields _))

  module _ (q : get_or ty 0 0 ≡ 5) where
    pub record_type : RecordType ty (get_or ty 1 0)
    record_type =
        let t = types.its_tree ty adm in
        let r = record_here t.0 (top ty t.0 t.1) q in
        record { ts = r.ts; typed = (types.admitted ty t.0).1 t.1 ∙ ap some r.is; here = r.fields; count = r.count; deep = omega (arith, r.deep, t.1.deep) }

    pub count_word : 1 < length ty
    count_word = let t = types.its_tree ty adm in (record_here t.0 (top ty t.0 t.1) q).second

    pub count_record : answered (Ok (get_or ty 1 0)) ≡ count_in ty
    count_record = let r = record_type in rw r.typed (ap ok r.count)

-- ---- the count of its fields

module _ (ty : List ℕ) where
  -- what refuses the sheet refuses whatever is asked of its fields
  no_fields : {A : Type 0} (e : Refusal) → answered {A = ℕ} (Err e) ≡ count_in ty → (f : Tys → Answer A) → with_type (type_of ty) (λ t. with_fields t f) ≡ refused (number_of e) (detail_of e)
  no_fields {A} e h f = go (type_of ty) h
    where
      go : (o : Option Ty) → answered {A = ℕ} (Err e) ≡ with_type o (λ t. with_fields t (λ ts. ok (field_count ts))) → with_type o (λ t. with_fields t f) ≡ refused (number_of e) (detail_of e)
      go none q = cc
      go (some Ty.Int) q = cc
      go (some Ty.Str) q = cc
      go (some Ty.Bytes) q = cc
      go (some (Ty.Ref p)) q = cc
      go (some (Ty.Record ts)) q = absurd (let z : ◌≡◌ {A = ℕ} 0 1 = cc in omega arith)
      go (some (Ty.Union us)) q = cc
      go (some (Ty.Optional t)) q = cc

  module _ {n : ℕ} (counts : answered (Ok n) ≡ count_in ty) where
    its_record : (ts : Tys) × (type_of ty ≡ some (Ty.Record ts)) × (n ≡ field_count ts)
    its_record = go (type_of ty) refl counts
      where
        go : (o : Option Ty) → type_of ty ≡ o → answered (Ok n) ≡ with_type o (λ t. with_fields t (λ ts. ok (field_count ts))) → (ts : Tys) × (type_of ty ≡ some (Ty.Record ts)) × (n ≡ field_count ts)
        go none e q = absurd (let z : ◌≡◌ {A = ℕ} 0 1 = cc in omega arith)
        go (some Ty.Int) e q = absurd (let z : ◌≡◌ {A = ℕ} 0 1 = cc in omega arith)
        go (some Ty.Str) e q = absurd (let z : ◌≡◌ {A = ℕ} 0 1 = cc in omega arith)
        go (some Ty.Bytes) e q = absurd (let z : ◌≡◌ {A = ℕ} 0 1 = cc in omega arith)
        go (some (Ty.Ref p)) e q = absurd (let z : ◌≡◌ {A = ℕ} 0 1 = cc in omega arith)
        go (some (Ty.Record ts)) e q = (ts, e, cc)
        go (some (Ty.Union us)) e q = absurd (let z : ◌≡◌ {A = ℕ} 0 1 = cc in omega arith)
        go (some (Ty.Optional t)) e q = absurd (let z : ◌≡◌ {A = ℕ} 0 1 = cc in omega arith)

    pub counted : RecordType ty n
    unfolding nesting
    counted =
        let r = its_record in
        let a = (types.admitted ty (Ty.Record r.0)).0 r.1 in
        record { ts = r.0; typed = r.1; here = (record_in ty 0 (length ty) r.0 (top ty (Ty.Record r.0) a)).2; count = r.2; deep = omega (arith, a.deep) }

    abbrev pub fields_at : FieldsAt ty 2 n
    fields_at = let r = counted in record { ts = r.ts; end = length ty; here = r.here; count = r.count; deep = r.deep }

-- ---- bounds

-- the first k fields lie within the key
pub b_start : {ty : List ℕ} {n : ℕ} {key : List ℕ} {k : ℕ} → FieldsAt ty 2 n → AllBytes key → {p : ℕ} → Splits ty n key k (Ok p) → p ≤ length key
b_start {key = key} {k = k} f ab {p} s = go (decode_key (Ty.Record f.ts) key) (s.splits f.ts f.end f.here f.count f.deep ab)
  where
    go : (m : Decoded Val) → SplitSays key k (Ok p) m → p ≤ length key
    go (Decoded.got v left j) q = let w = q.1 in let ep : p ≡ q.0 = cc in rw ep q.2
    go (Decoded.bad c d j) q = absurd (let z : ◌≡◌ {A = ℕ} 0 1 = cc in omega arith)

module _ (ty key : List ℕ) (k : ℕ) (lower upper : List ℕ) where
  says_no : (e : Refusal) → bounds_call ty key k lower upper ≡ record { answer = refused (number_of e) (detail_of e); lower = lower; upper = upper } → BoundsLeft (bounds_call ty key k lower upper) (Err e) lower upper
  says_no e q = rw q (record { answer = refl; low = refl; high = refl })

  pub b_type : {e : Refusal} → answered {A = ℕ} (Err e) ≡ count_in ty → BoundsLeft (bounds_call ty key k lower upper) (Err e) lower upper
  unfolding bounds_call
  b_type {e} h = says_no e (ap (bounded lower upper) (no_fields ty e h _))

  module _ {n : ℕ} (counts : answered (Ok n) ≡ count_in ty) where
    r : RecordType ty n
    r = counted ty counts

    pub b_over : n < k → BoundsLeft (bounds_call ty key k lower upper) (Err made.NoField) lower upper
    unfolding bounds_call
    b_over h = says_no made.NoField (rw (r.typed, leb_no k (field_count r.ts) (omega (arith, r.count))))

    module _ (h : k ≤ n) (ab : AllBytes key) where
      -- what the key's decoding is, and what was said of it
      abbrev Key : Decoded Val
      Key = decode_key (Ty.Record r.ts) key

      splits_as : {o : Result ℕ Refusal} → Splits ty n key k o → SplitSays key k o Key
      splits_as s = s.splits r.ts (length ty) r.here r.count r.deep ab

      pub b_bad : {f : Refusal} → Splits ty n key k (Err f) → BoundsLeft (bounds_call ty key k lower upper) (Err f) lower upper
      unfolding bounds_call
      b_bad {f} s = go Key refl (splits_as s)
        where
          go : (m : Decoded Val) → Key ≡ m → SplitSays key k (Err f) m → BoundsLeft (bounds_call ty key k lower upper) (Err f) lower upper
          go (Decoded.got v left j) e q = absurd (let w = q.1 in let z : ◌≡◌ {A = ℕ} 0 1 = cc in omega arith)
          go (Decoded.bad c d j) e q =
              let ec : c ≡ number_of f = cc in
              let ed : d ≡ detail_of f = cc in
              says_no f (rw (r.typed, leb_yes k (field_count r.ts) (omega (arith, r.count)), e, ec, ed))

      pub b_good : {p : ℕ} → Splits ty n key k (Ok p) → {a : Result Ends Refusal} {lower' upper' : List ℕ} → BoundsLeft (bounded lower upper (ok (take p key))) a lower' upper'
          → BoundsLeft (bounds_call ty key k lower upper) a lower' upper'
      unfolding bounds_call
      b_good {p} s {a} {lower'} {upper'} done = go Key refl (splits_as s)
        where
          go : (m : Decoded Val) → Key ≡ m → SplitSays key k (Ok p) m → BoundsLeft (bounds_call ty key k lower upper) a lower' upper'
          go (Decoded.got v left j) e q =
              let w = q.1 in
              let ep : q.0 ≡ p = cc in
              let fb : first_bytes k (fields_in v) ≡ take p key = q.3 ∙ ap (λ (n : ℕ). take n key) ep in
              rw (r.typed, leb_yes k (field_count r.ts) (omega (arith, r.count)), e, fb) done
          go (Decoded.bad c d j) e q = absurd (let z : ◌≡◌ {A = ℕ} 0 1 = cc in omega arith)

-- ---- replacement

-- what refuses a record with the new value, and its key, by the field that was found
replaced_is : {ty : List ℕ} {ts : Tys} {key : List ℕ} {k : ℕ} {vs : Vals} {at start end : ℕ} → FieldIn ty ts key k vs at start end → (u : Val)
    → replaced ts k u vs key ≡ put (field_type k ts) key start end u
replaced_is {ty} {ts} {key} {k} {vs} {at} {start} {end} f u = go (encode (field_type k ts) 0 u) refl
  where
    go : (a : Answer (List ℕ)) → encode (field_type k ts) 0 u ≡ a
        → replaced ts k u vs key ≡ and_then a (λ x.
        if (leb (length (with key start end x)) max_key_bytes) (ok (with key start end x)) (refused KeyTooLong (length (with key start end x))))
    go (refused n d) e = rw (changed_bad ts vs k u f.inside f.fit n d e)
    go (ok x) e =
        let ux = value_bytes ts vs k u f.inside f.fit x e in
        let sp : spliced k u vs key ≡ with key start end x =
        spliced_is k u vs key start end f.starts f.ends ∙ ap (λ (y : List ℕ). with key start end y) ux in
        let ns : spliced k u vs key ≡ vals_bytes 0 (set_field k u vs) = ap (spliced k u vs) f.bytes ∙ splice_is k u vs f.inside in
        room x e sp (sym ns ∙ sp) (leb (length (with key start end x)) max_key_bytes) (leb_test (length (with key start end x)) max_key_bytes)
      where
        room : (x : List ℕ) → encode (field_type k ts) 0 u ≡ ok x
            → spliced k u vs key ≡ with key start end x → vals_bytes 0 (set_field k u vs) ≡ with key start end x
            → (b : Bool) → Test (length (with key start end x) ≤ max_key_bytes) (max_key_bytes < length (with key start end x)) b
            → replaced ts k u vs key ≡ if b (ok (with key start end x)) (refused KeyTooLong (length (with key start end x)))
        room x e sp ns _ (holds h) = rw (changed_ok ts vs k u f.inside f.fit x e (rw ns h)) (ap ok sp)
        room x e sp ns _ (fails h) = rw (changed_long ts vs k u f.inside f.fit x e (rw ns h)) (ap (λ (y : List ℕ). refused KeyTooLong (length y)) ns)

-- the field that was found, in the key's value
module _ {ty : List ℕ} {n : ℕ} {key : List ℕ} {k : ℕ} (f : FieldsAt ty 2 n) (ab : AllBytes key) {o : Field} (s : Finds ty n key k (Ok o)) where
  found : (v : Val) × (left : List ℕ) × (j : ℕ) × (decode_key (Ty.Record f.ts) key ≡ Decoded.got v left j) × FieldIn ty f.ts key k (fields_in v) o.at o.start o.end
  found = go (decode_key (Ty.Record f.ts) key) refl (s.finds f.ts f.end f.here f.count f.deep ab)
    where
      go : (m : Decoded Val) → decode_key (Ty.Record f.ts) key ≡ m → FindSays ty f.ts key k (Ok o) m
          → (v : Val) × (left : List ℕ) × (j : ℕ) × (decode_key (Ty.Record f.ts) key ≡ Decoded.got v left j) × FieldIn ty f.ts key k (fields_in v) o.at o.start o.end
      go (Decoded.got v left j) e q =
          let w = q.1 in
          let eo : q.0 ≡ o = cc in
          (v, left, j, e, rw eo at q.2)
      go (Decoded.bad c d j) e q = absurd (let z : ◌≡◌ {A = ℕ} 0 1 = cc in omega arith)

  pub r_typed : TypeAt ty o.at
  r_typed = let i = found.4 in record { t = field_type k f.ts; end = i.behind; here = i.typed; deep = i.deep }

  pub r_span : (o.start ≤ o.end) × (o.end ≤ length key)
  r_span = let i = found.4 in (omega (arith, i.starts, i.ends), i.within)

module _ (ty buffer : List ℕ) (used k : ℕ) (words pool : List ℕ) where
  left_alone : (e : Refusal) → replace_call ty buffer used k words pool ≡ record { answer = refused (number_of e) (detail_of e); buffer = buffer }
      → Leaves (replace_call ty buffer used k words pool) (Err e) buffer
  left_alone e q = rw q (record { answer = refl; left = refl })

  pub r_type : {e : Refusal} → answered {A = ℕ} (Err e) ≡ count_in ty → Leaves (replace_call ty buffer used k words pool) (Err e) buffer
  unfolding replace_call
  r_type {e} h = left_alone e (ap (written buffer) (no_fields ty e h _))

  module _ {n : ℕ} (counts : answered (Ok n) ≡ count_in ty) where
    its : RecordType ty n
    its = counted ty counts

    pub r_over : n ≤ k → Leaves (replace_call ty buffer used k words pool) (Err made.NoField) buffer
    unfolding replace_call
    r_over h = left_alone made.NoField (rw (its.typed, ltb_no k (field_count its.ts) (omega (arith, its.count))))

    module _ (h : k < n) where
      pub r_used : length buffer < used → used < 2 ^ 64 → Leaves (replace_call ty buffer used k words pool) (Err (made.NoRoom used)) buffer
      unfolding replace_call
      r_used l s =
          left_alone (made.NoRoom used)
          (rw (its.typed, ltb_yes k (field_count its.ts) (omega (arith, its.count)), leb_no used (length buffer) l, ltb_yes used (2 ^ 64) s))

      module _ (l : used ≤ length buffer) (ab : AllBytes (take used buffer)) where
        -- what the key's decoding is, and what was said of it
        abbrev Old : Decoded Val
        Old = decode_key (Ty.Record its.ts) (take used buffer)

        pub r_bad : {f : Refusal} → Finds ty n (take used buffer) k (Err f) → Leaves (replace_call ty buffer used k words pool) (Err f) buffer
        unfolding replace_call
        r_bad {f} s = go Old refl (s.finds its.ts (length ty) its.here its.count its.deep ab)
          where
            go : (m : Decoded Val) → Old ≡ m → FindSays ty its.ts (take used buffer) k (Err f) m → Leaves (replace_call ty buffer used k words pool) (Err f) buffer
            go (Decoded.got v left j) e q = absurd (let w = q.1 in let z : ◌≡◌ {A = ℕ} 0 1 = cc in omega arith)
            go (Decoded.bad c d j) e q =
                let ec : c ≡ number_of f = cc in
                let ed : d ≡ detail_of f = cc in
                left_alone f (rw (its.typed, ltb_yes k (field_count its.ts) (omega (arith, its.count)), leb_yes used (length buffer) l, e, ec, ed))

        pub r_good : {o : Field} → Finds ty n (take used buffer) k (Ok o) → {a : Result ℕ Refusal} {buffer' : List ℕ}
            → ValueStands ty o.at buffer used o.start o.end words pool a buffer' → Leaves (replace_call ty buffer used k words pool) a buffer'
        unfolding replace_call its
        r_good {o} s stood =
            let v = found (fields_at ty counts) ab s in
            let f = v.4 in
            rw (its.typed, ltb_yes k (field_count its.ts) (omega (arith, its.count)), leb_yes used (length buffer) l, v.3, same (fields_in v.0) f (value_of words pool))
            (stood.stands (field_type k its.ts) f.behind f.typed f.deep)
          where
            same : (vs : Vals) → FieldIn ty its.ts (take used buffer) k vs o.at o.start o.end → (w : Option Val)
                → with_value w (λ u. replaced its.ts k u vs (take used buffer)) ≡ with_value w (λ u. put (field_type k its.ts) (take used buffer) o.start o.end u)
            same vs f none = refl
            same vs f (some u) = replaced_is f u

-- What the walk says of a value, by the numbers at the places: of whatever type and value stand there.
use mathlib.Core.Logic.{◌≢◌}
use mathlib.Core.Path.{◌≡◌, refl, sym, ap, ◌∙◌, subst}
use mathlib.Core.List.{List, [], ◌∷◌, ◌++◌}
use mathlib.Core.Bool.{Bool}
use Prim.Native.Nat.{ℕ, ◌+◌, ◌*◌, ◌≤◌, ◌<◌, ◌^◌}
use native.Mathlib.Omega.{arith}
use borrow.Author.Tests.{eq-eqb, ne_eqb, lt-ltb, le-ltb}
use lib.ListN.{length, get_or, length-append}
use lib.Seq.{slice, length-slice}
use Rattle.std.specs.Prelude.{Option, Some, None, Ok, Err}
use Rattle.format.specs.Answer.{Answer, ok, refused, UnknownDiscriminant, TypeMismatch}
use Rattle.format.specs.Refusals.{answered, number_of, detail_of}
use Rattle.format.specs.Tree.{Ty, Alts, Val, val_kind}
use Rattle.format.specs.Sheet.{field_count, val_count}
use Rattle.format.specs.TypeSheet.{max_groups, nesting}
use Rattle.format.specs.ValueSheet.{max_value_words}
use Rattle.format.specs.Scalar.{uint_bytes}
use Rattle.format.specs.Encode.{val_bytes, vals_bytes, fits, fits_ref, in_union, group_at, fine}
use Rattle.format.proofs.TypePlaces as types
use Rattle.format.proofs.ValuePlaces as values
use Rattle.format.proofs.TypeKinds as type
use Rattle.format.proofs.ValueKinds as value
use Rattle.format.proofs.PlainLaws.{plain_pool, plain_bytes, Plain, plain, bytes_int, run_length}
use Rattle.format.proofs.FitLaws.{mismatch, clash}
use Rattle.format.proofs.Choose.{choose, chosen, fits_chosen}
use Rattle.format.proofs.Tests.{Test, holds, fails, eqb_test}
use Rattle.scalar.proofs.Widths.{int_long, ref_long}
use Rattle.scalar.proofs.Escapes.{escaped_bounds}
use Rattle.sheet.specs.Places.{Picks}
use Rattle.sheet.proofs.PickLaws.{missing, picked}
use Rattle.format.specs.declared.refusal.Refusal.TheVariants as made
use Rattle.fit.specs.Fit.{Pair, Standing, StandingRow, Outcome, placed, leaf_in, ref_in, longer, len_of, Says, Brief, FitValue, FitFields, Closed}

-- ---- the words at the places

module _ {ty words pool : List ℕ} {t w p : ℕ} {T : Ty} {v : Val} {e f g : ℕ} (s : Pair ty words pool t w p T v e f g) where
  pub value_kind : get_or words w 0 ≡ val_kind v
  value_kind = (values.kind_is words pool w p f g v s.value).1

  type_kind : get_or ty t 0 ≡ types.ty_kind T
  type_kind = (types.kind_is ty t e T s.type).1

  module _ (same : get_or words w 0 ≡ get_or ty t 0) where
    second : w + 1 < length words
    second = value.second v s.value (λ z. omega (arith, (type.kind_here T s.type).1))

    -- a value that is no group
    numbers : (depth : ℕ) → get_or ty t 0 < 5 → Plain pool w p f g (get_or ty t 0) (get_or words (w + 1) 0) depth v
    numbers depth h =
        let up : 0 < get_or ty t 0 = omega (arith, (type.kind_here T s.type).1) in
        let x = (values.word_is_lem words pool w p f g v s.value (λ z. omega (arith, value_kind))).1 in
        plain words pool w p f g (get_or ty t 0) (get_or words (w + 1) 0) depth v (sym value_kind ∙ same) (sym x) up h s.value

    -- a type of one word takes every value of its kind
    leaf_type : (depth : ℕ) → get_or ty t 0 < 4 → (fits T depth v ≡ fine) × (e ≡ t + 1)
    unfolding fits
    leaf_type depth h = go (eqb_test (get_or ty t 0) 1) (eqb_test (get_or ty t 0) 2)
      where
        kind : (k : ℕ) → get_or ty t 0 ≡ k → val_kind v ≡ k
        kind k q = sym value_kind ∙ same ∙ q

        go : {a b : Bool} → Test (get_or ty t 0 ≡ 1) (get_or ty t 0 ≢ 1) a → Test (get_or ty t 0 ≡ 2) (get_or ty t 0 ≢ 2) b → (fits T depth v ≡ fine) × (e ≡ t + 1)
        go (holds q) c = let i = type.int_here T s.type q in (rw (i.0, eq-eqb (val_kind v) 1 (kind 1 q)), i.1)
        go (fails n) (holds q) = let i = type.str_here T s.type q in (rw (i.0, eq-eqb (val_kind v) 2 (kind 2 q)), i.1)
        go (fails n) (fails m) =
            let q : get_or ty t 0 ≡ 3 = omega (arith, (type.kind_here T s.type).1) in
            let i = type.bytes_here T s.type q in
            (rw (i.0, eq-eqb (val_kind v) 3 (kind 3 q)), i.1)

module _ {ty words pool : List ℕ} {t w p : ℕ} (s : Standing ty words pool t w p) where
  pub type_in_lem : t < length ty
  type_in_lem = (type.kind_here s.T s.here.type).0

  -- no word 7
  pub plain_kind : (get_or ty t 0 ≡ 7 → ⊥) → get_or ty t 0 < 7
  plain_kind n = omega (arith, n, (type.kind_here s.T s.here.type).2)

  pub word_in : w < length words
  word_in = (values.kind_is words pool w p s.f s.g s.v s.here.value).0

  -- a reference, a record and a union have a second word
  pub type_second : 4 ≤ get_or ty t 0 → get_or ty t 0 < 7 → t + 1 < length ty
  type_second h plain = go (eqb_test (get_or ty t 0) 4) (eqb_test (get_or ty t 0) 5)
    where
      go : {a b : Bool} → Test (get_or ty t 0 ≡ 4) (get_or ty t 0 ≢ 4) a → Test (get_or ty t 0 ≡ 5) (get_or ty t 0 ≢ 5) b → t + 1 < length ty
      go (holds q) c = (type.ref_here s.T s.here.type q).second
      go (fails n) (holds q) = (type.record_here s.T s.here.type q).second
      go (fails n) (fails m) = (type.union_here s.T s.here.type (omega arith)).second

  module _ (same : get_or words w 0 ≡ get_or ty t 0) where
    pub word_second : w + 1 < length words
    word_second = second s.here same

    pub leaf_room : get_or ty t 0 < 4 → p + plain_pool (get_or ty t 0) (get_or words (w + 1) 0) ≤ length pool
    leaf_room h = let n = numbers s.here same 0 (omega arith) in omega (arith, n.pool_ends, n.pool_in)

    -- the fields of a record stand two words on
    pub fields_stand : get_or ty t 0 ≡ 5 → get_or words (w + 1) 0 ≡ get_or ty (t + 1) 0 → StandingRow ty words pool (t + 2) (w + 2) p (get_or ty (t + 1) 0)
    fields_stand q count =
        let a = type.record_here s.T s.here.type q in
        let b = value.record_here s.v s.here.value (same ∙ q) in
        let d = s.here.deep in
        record {
          ts = a.ts;
          vs = b.vs;
          e = s.e;
          f = s.f;
          g = s.g;
          few = s.few;
          small = s.small;
          here = record { types = a.fields; deep = omega (arith, a.deep); values = b.fields; count = sym a.count; same = sym b.count ∙ count };
        }

-- ---- a value of another kind, and leaves

module _ {ty words pool : List ℕ} {t w p depth : ℕ} {asked : Bool} where
  pub differ : get_or ty t 0 < 7 → (get_or words w 0 ≡ get_or ty t 0 → ⊥) → FitValue ty words pool t w p depth asked (Err (made.TypeMismatch (get_or ty t 0)))
  differ plain h =
      record {
        brief = tt;
        says = λ T v e f g s.
            let q = mismatch T depth v (type.plain_here T s.type (λ z. omega arith)) (λ z. h (value_kind s ∙ z ∙ sym (type_kind s))) in
            record { answer = ap (refused TypeMismatch) (type_kind s) ∙ sym q; ends = tt };
      }

  module _ (same : get_or words w 0 ≡ get_or ty t 0) where
    pub leaf : Standing ty words pool t w p → get_or ty t 0 < 4 → FitValue ty words pool t w p depth asked (Ok (leaf_in pool (get_or ty t 0) (get_or words (w + 1) 0) t w p))
    leaf s h =
        let k = get_or ty t 0 in
        let x = get_or words (w + 1) 0 in
        let room = leaf_room s same h in
        record {
          brief = (omega arith, omega (arith, word_second s same), omega arith, room, omega (arith, leaf_short k x (omega arith) room));
          says = λ T v e f g i.
              let n = numbers i same depth (omega arith) in
              let y = leaf_type i same depth h in
              record { answer = sym y.0; ends = (λ q. sym y.1, sym n.ends, sym n.pool_ends, sym (ap length n.bytes)) };
        }
      where
        -- a leaf is at most twice as long as its payload, and twelve bytes
        leaf_short : (k x : ℕ) → k < 4 → p + plain_pool k x ≤ length pool → length (plain_bytes k x (slice p (p + plain_pool k x) pool)) ≤ 12 + 2 * plain_pool k x
        leaf_short k x l room = go (eqb_test k 1)
          where
            long : length (slice p (p + plain_pool k x) pool) ≡ plain_pool k x
            long = length-slice p (p + plain_pool k x) pool room ∙ omega arith

            go : {a : Bool} → Test (k ≡ 1) (k ≢ 1) a → length (plain_bytes k x (slice p (p + plain_pool k x) pool)) ≤ 12 + 2 * plain_pool k x
            go (holds q) = omega (arith, ap length (bytes_int k x (slice p (p + plain_pool k x) pool) q), (int_long x).1)
            go (fails n) =
                omega (arith, run_length k x (slice p (p + plain_pool k x) pool) n (λ z. omega arith), (escaped_bounds (slice p (p + plain_pool k x) pool)).1, long)

    -- a reference, judged
    pub reference : Standing ty words pool t w p → get_or ty t 0 ≡ 4 → {r : Outcome} → answered r ≡ ref_in (fits_ref (get_or ty (t + 1) 0) (get_or words (w + 1) 0)) t w p → FitValue ty words pool t w p depth asked r
    unfolding fits val_bytes
    reference s h {r} k =
        let judge = fits_ref (get_or ty (t + 1) 0) (get_or words (w + 1) 0) in
        record {
          brief = short r judge k;
          says = λ T v e f g i.
              let a = type.ref_here T i.type h in
              let b = value.ref_here v i.value (same ∙ h) in
              rw (a.is, b.is) (said r judge k (sym a.end) (sym b.end) (sym b.pool) (sym (ref_long (get_or words (w + 1) 0))));
        }
      where
        short : (r : Outcome) (a : Answer Unit) → answered r ≡ ref_in a t w p → Brief words pool w p r
        short (Err n) a k = tt
        short (Ok x) (refused n d) k = clash (sym k)
        short (Ok x) (ok u) k =
            let is : x ≡ placed (t + 2) (w + 2) p 9 = cc in
            rw is (omega arith, omega (arith, word_second s same), omega arith, omega (arith, s.here.value.pool.long, s.here.value.pool.within), omega arith)

        said : (r : Outcome) (a : Answer Unit) → answered r ≡ ref_in a t w p → {e f g n : ℕ} → t + 2 ≡ e → w + 2 ≡ f → p ≡ g → 9 ≡ n → Says a asked e f g n r
        said (Ok x) (ok u) k i j l m = let is : x ≡ placed (t + 2) (w + 2) p 9 = cc in rw is (record { answer = refl; ends = (λ q. i, j, l, m) })
        said (Ok x) (refused n d) k i j l m = clash (sym k)
        said (Err n) (ok u) k i j l m = clash k
        said (Err y) (refused m d) k i j l q = record { answer = let z : ◌≡◌ {A = Answer Unit} (refused (number_of y) (detail_of y)) (refused m d) = cc in z; ends = tt }

-- ---- records

longer_brief : (words pool : List ℕ) (w p : ℕ) (r : Outcome) → Brief words pool (w + 2) p r → Brief words pool w p (longer 2 r)
longer_brief words pool w p (Ok x) b = (omega (arith, b.0), b.1, b.2, b.3, omega (arith, b.4))
longer_brief words pool w p (Err n) b = tt

longer_says : {a : Answer Unit} {asked : Bool} {e f g n m : ℕ} (r : Outcome) → n + 2 ≡ m → Says a asked e f g n r → Says a asked e f g m (longer 2 r)
longer_says (Ok x) q s = record { answer = s.answer; ends = (s.ends.0, s.ends.1, s.ends.2, omega (arith, s.ends.3)) }
longer_says (Err d) q s = record { answer = s.answer; ends = tt }

module _ {ty words pool : List ℕ} {t w p depth : ℕ} {asked : Bool} (same : get_or words w 0 ≡ get_or ty t 0) (kind : get_or ty t 0 ≡ 5) where
  pub miscount : (get_or words (w + 1) 0 ≡ get_or ty (t + 1) 0 → ⊥) → FitValue ty words pool t w p depth asked (Err made.BadRecord)
  unfolding fits
  miscount h =
      record {
        brief = tt;
        says = λ T v e f g s.
            let a = type.record_here T s.type kind in
            let b = value.record_here v s.value (same ∙ kind) in
            record { answer = rw (a.is, b.is, ne_eqb (field_count a.ts) (val_count b.vs) (λ z. h (b.count ∙ sym z ∙ sym a.count))); ends = tt };
      }

  module _ (count : get_or words (w + 1) 0 ≡ get_or ty (t + 1) 0) where
    pub too_deep : 256 ≤ depth → FitValue ty words pool t w p depth asked (Err made.BadRecord)
    unfolding fits
    too_deep h =
        record {
          brief = tt;
          says = λ T v e f g s.
              let a = type.record_here T s.type kind in
              let b = value.record_here v s.value (same ∙ kind) in
              record { answer = rw (a.is, b.is, eq-eqb (field_count a.ts) (val_count b.vs) (sym a.count ∙ sym count ∙ b.count), le-ltb depth 256 h); ends = tt };
        }

    pub in_record : depth < 256 → {r : Outcome} → FitFields ty words pool (t + 2) (w + 2) p (get_or ty (t + 1) 0) (depth + 1) asked r → FitValue ty words pool t w p depth asked (longer 2 r)
    unfolding fits val_bytes
    in_record h {r} i =
        record {
          brief = longer_brief words pool w p r i.brief;
          says = λ T v e f g s.
              let a = type.record_here T s.type kind in
              let b = value.record_here v s.value (same ∙ kind) in
              let d = s.deep in
              let inner = i.says a.ts b.vs e f g
              (record { types = a.fields; deep = omega (arith, a.deep); values = b.fields; count = sym a.count; same = sym b.count ∙ count }) in
              rw (a.is, b.is, eq-eqb (field_count a.ts) (val_count b.vs) (sym a.count ∙ sym count ∙ b.count), lt-ltb depth 256 h)
              (longer_says r (omega (arith, length-append (vals_bytes (depth + 1) b.vs) (0 ∷ []))) inner);
        }

-- ---- unions

is_none : (o : Option ℕ) → ((x : ℕ) → o ≡ Some x → ⊥) → o ≡ None
is_none None h = refl
is_none (Some x) h = absurd (h x refl)

-- a union and its value: what fits goes by what the tag chooses
record UnionPair (ty words pool : List ℕ) (t w p depth : ℕ) (T : Ty) (v : Val) (e f g : ℕ) : Type 0 where
  us : Alts
  inner : Val
  type : types.TypeIn ty t (Ty.Union us) e
  deep : nesting (Ty.Union us) ≤ max_groups
  payload : values.ValueIn words pool (w + 2) p inner f g
  is : fits T depth v ≡ chosen (choose (get_or words (w + 1) 0) us) (λ C. in_union (get_or words (w + 1) 0) (group_at depth (fits C (depth + 1) inner))) (refused UnknownDiscriminant (get_or words (w + 1) 0))
  long : length (val_bytes depth v) ≡ length (val_bytes (depth + 1) inner) + (2 + length (uint_bytes (get_or words (w + 1) 0)))

module _ {ty words pool : List ℕ} {t w p : ℕ} (same : get_or words w 0 ≡ get_or ty t 0) (six : get_or ty t 0 ≡ 6) where
  union_pair : (depth : ℕ) {T : Ty} {v : Val} {e f g : ℕ} → Pair ty words pool t w p T v e f g → UnionPair ty words pool t w p depth T v e f g
  unfolding fits val_bytes
  union_pair depth {T} {v} {e} s =
      let a = type.union_here T s.type six in
      let b = value.union_here v s.value (same ∙ six) in
      let x = get_or words (w + 1) 0 in
      let bytes = val_bytes (depth + 1) b.inner in
      record {
        us = a.us;
        inner = b.inner;
        payload = b.payload;
        type = subst (λ (C : Ty). types.TypeIn ty t C e) a.is s.type;
        deep = subst (λ (C : Ty). nesting C ≤ max_groups) a.is s.deep;
        is = ap (λ (C : Ty). fits C depth v) a.is ∙ ap (fits (Ty.Union a.us) depth) b.is ∙ fits_chosen a.us depth x b.inner;
        long = ap (λ (u : Val). length (val_bytes depth u)) b.is ∙ omega (arith, length-append (uint_bytes x) (bytes ++ 0 ∷ []), length-append bytes (0 ∷ []));
      }

  module _ {place : Option ℕ} {left : ℕ} (found : Picks ty t (get_or words (w + 1) 0) place left) where
    pub payload_stands : Standing ty words pool t w p → {at : ℕ} → place ≡ Some at → Standing ty words pool at (w + 2) p
    payload_stands s z =
        let u = union_pair 0 s.here in
        let c = picked found u.us u.type u.deep z in
        record {
          T = c.type;
          v = u.inner;
          e = c.end;
          f = s.f;
          g = s.g;
          few = s.few;
          small = s.small;
          here = record { type = c.here; deep = c.deep; value = u.payload };
        }

    module _ {depth : ℕ} {asked : Bool} where
      pub no_alternative : ((at : ℕ) → place ≡ Some at → ⊥) → FitValue ty words pool t w p depth asked (Err (made.UnknownDiscriminant (get_or words (w + 1) 0)))
      no_alternative z =
          record {
            brief = tt;
            says = λ T v e f g s.
                let u = union_pair depth s in
                record { answer = sym (rw (missing found u.us u.type u.deep (is_none place z)) at u.is); ends = tt };
          }

      module _ {at : ℕ} (z : place ≡ Some at) where
        pub deep_union : 256 ≤ depth → FitValue ty words pool t w p depth asked (Err (made.BadUnion (get_or words (w + 1) 0)))
        unfolding in_union
        deep_union h =
            record {
              brief = tt;
              says = λ T v e f g s.
                  let u = union_pair depth s in
                  let c = picked found u.us u.type u.deep z in
                  record { answer = sym (rw (c.is, le-ltb depth 256 h) at u.is); ends = tt };
            }

        pub in_union_lem : depth < 256 → {r r' : Outcome} → FitValue ty words pool at (w + 2) p (depth + 1) asked r → Closed ty (get_or words (w + 1) 0) left asked r r' → FitValue ty words pool t w p depth asked r'
        in_union_lem h {r} {r'} i end =
            record {
              brief = end.brief words pool w p i.brief;
              says = λ T v e f g s.
                  let u = union_pair depth s in
                  let c = picked found u.us u.type u.deep z in
                  let inner = i.says c.type u.inner c.end f g (record { type = c.here; deep = c.deep; value = u.payload }) in
                  let is = rw (c.is, lt-ltb depth 256 h) at u.is in
                  rw (is, u.long) (end.says (fits c.type (depth + 1) u.inner) c.end f g _ c.more e inner c.behind c.count c.deeps);
            }

-- ---- no sum is too large

pub brief_short : (words pool : List ℕ) (w p : ℕ) (r : Outcome) → length words ≤ max_value_words → length pool ≤ max_value_words → Brief words pool w p r → len_of r < 2 ^ 32
brief_short words pool w p (Ok x) few small b = omega (arith, b.1, b.3, b.4)
brief_short words pool w p (Err n) few small b = omega arith

module _ {ty words pool : List ℕ} {t₀ w₀ p₀ : ℕ} (s : Standing ty words pool t₀ w₀ p₀) {t w p depth : ℕ} {asked : Bool} {r : Outcome} where
  pub value_short : FitValue ty words pool t w p depth asked r → len_of r < 2 ^ 32
  value_short i = brief_short words pool w p r s.few s.small i.brief

  pub fields_short : {n : ℕ} → FitFields ty words pool t w p n depth asked r → len_of r < 2 ^ 32
  fields_short i = brief_short words pool w p r s.few s.small i.brief

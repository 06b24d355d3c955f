-- A key split behind its first k fields, and a field found in it: from what was passed to what the key's decoding says.
use mathlib.Core.Path.{◌≡◌, refl, sym, ap, ◌∙◌, subst}
use mathlib.Core.List.{List, [], ◌∷◌}
use Prim.Native.Nat.{ℕ, zero, suc, ◌+◌, ◌-◌, ◌≤◌, ◌<◌}
use native.Mathlib.Omega.{arith}
use lib.ListN.{length, drop, length-append, length-drop}
use Rattle.std.specs.Prelude.{Result, Ok, Err}
use Rattle.format.specs.Tree.{Ty, Tys, Val, Vals}
use Rattle.format.specs.Sheet.{field_count, val_count, ty_words, tys_words}
use Rattle.format.specs.TypeSheet.{max_groups, nesting, nestings, Single, Singles}
use Rattle.format.specs.Encode.{val_bytes}
use Rattle.format.specs.Decode.{Decoded, both, decode, decode_bare, decode_key, whole}
use Rattle.format.specs.Replace.{field_at}
use Rattle.format.specs.Spans.{first_tys, field_type}
use Rattle.format.proofs.Bytes.{AllBytes}
use Rattle.format.proofs.SheetPlaces.{Span, parts}
use Rattle.format.proofs.TypePlaces.{TypeIn, TypesIn, field_in}
use Rattle.format.proofs.EncodeLaws.{fits_count, key_parts}
use Rattle.format.proofs.CanonLaws.{canon}
use Rattle.format.proofs.KeyRound.{key_canon, bare_canon}
use Rattle.format.proofs.SplitLaws.{rest_tys, join_vals, rest_next, first_count, rest_count, split_words, field_join, first_bytes_lem, bad_first, bad_rest, left_over, good_key}
use Rattle.read.specs.Walk.{FieldsAt, TypeAt}
use Rattle.format.specs.Refusals.{number_of, detail_of}
use Rattle.format.specs.declared.refusal.Refusal.{Refusal}
use Rattle.key.specs.declared.passing.Passed.{Passed}
use Rattle.key.specs.Passing.{Says, to, not, PassesValue, PassesFields, EndSays, Ends, SplitSays, Splits, FindSays, Finds}

-- ---- the types of the parts

pub first_nest : (k : ℕ) (ts : Tys) → nestings (first_tys k ts) ≤ nestings ts
unfolding first_tys nestings
first_nest zero ts = omega arith
first_nest (suc k) Tys.NoTy = omega arith
first_nest (suc k) (Tys.AddTy t ts) = omega (arith, first_nest k ts)

rest_nest : (k : ℕ) (ts : Tys) → nestings (rest_tys k ts) ≤ nestings ts
unfolding rest_tys nestings
rest_nest zero ts = omega arith
rest_nest (suc k) Tys.NoTy = omega arith
rest_nest (suc k) (Tys.AddTy t ts) = omega (arith, rest_nest k ts)

split_single : (k : ℕ) (ts : Tys) → Singles ts → Singles (first_tys k ts) × Singles (rest_tys k ts)
unfolding first_tys rest_tys Single
split_single zero ts o = (tt, o)
split_single (suc k) Tys.NoTy o = (tt, tt)
split_single (suc k) (Tys.AddTy t ts) o = let m = split_single k ts o.1 in ((o.0, m.0), m.1)

nest_head : (t : Ty) (us : Tys) → nesting t ≤ nestings (Tys.AddTy t us)
unfolding nestings
nest_head t us = omega arith

-- the place behind the first k types
abbrev pub place_at : ℕ → Tys → ℕ
place_at k ts = 2 + length (tys_words (first_tys k ts))

module _ (ty : List ℕ) (ts : Tys) (e k : ℕ) (h : TypesIn ty 2 ts e) where
  pub spans : TypesIn ty 2 (first_tys k ts) (place_at k ts) × TypesIn ty (place_at k ts) (rest_tys k ts) e
  spans =
      let p = parts ty 2 e (tys_words (first_tys k ts)) (tys_words (rest_tys k ts)) (subst (λ (l : List ℕ). Span ty 2 l e) (split_words k ts) h.span) in
      let o = split_single k ts h.single in
      (record { span = p.0; single = o.0 }, record { span = p.1; single = o.1 })

-- the type behind the first k, and those behind it
pub next_span : (ty : List ℕ) (ts : Tys) (e k : ℕ) → TypesIn ty 2 ts e → k < field_count ts → nestings ts ≤ max_groups → let a = place_at k ts in
    TypeIn ty a (field_type k ts) (a + length (ty_words (field_type k ts))) × TypesIn ty (a + length (ty_words (field_type k ts))) (rest_tys (suc k) ts) e × (nesting (field_type k ts) ≤ max_groups)
next_span ty ts e k h l d =
    let nx = rest_next k ts l in
    let f = field_in ty (place_at k ts) e (field_type k ts) (rest_tys (suc k) ts) (subst (λ (us : Tys). TypesIn ty (place_at k ts) us e) nx (spans ty ts e k h).1) in
    let m : nestings (Tys.AddTy (field_type k ts) (rest_tys (suc k) ts)) ≤ nestings ts = subst (λ (us : Tys). nestings us ≤ nestings ts) nx (rest_nest k ts) in
    (f.0, f.1, omega (arith, m, nest_head (field_type k ts) (rest_tys (suc k) ts)))

pub first_fields : {ty : List ℕ} {n k : ℕ} → k ≤ n → FieldsAt ty 2 n → FieldsAt ty 2 k
first_fields {ty} {n} {k} l f = record {
  ts = first_tys k f.ts;
  end = place_at k f.ts;
  here = (spans ty f.ts f.end k f.here).0;
  count = sym (first_count k f.ts (omega (arith, f.count)));
  deep = omega (arith, first_nest k f.ts, f.deep);
}

-- ---- what was passed first

module _ {bytes : List ℕ} {x : ℕ} {A : Type 0} where
  place_of : {p : Passed} {m : Decoded A} → Says bytes x (Ok p) m → p.at ≡ x
  place_of (to e h) = e

  -- it was read, up to the next place
  read_to : {p : Passed} {m : Decoded A} → Says bytes x (Ok p) m → (u : A) × (i : ℕ) × (m ≡ Decoded.got u (drop p.next bytes) i) × (p.next ≤ length bytes)
  read_to (to {a = u} {k = i} e h) = (u, i, refl, h)

  -- it was refused
  read_bad : {f : Refusal} {m : Decoded A} → Says bytes x (Err f) m → (i : ℕ) × (m ≡ Decoded.bad (number_of f) (detail_of f) i)
  read_bad (not {k = i}) = (i, refl)

module _ {ty : List ℕ} {n : ℕ} {key : List ℕ} {k : ℕ} (kn : k ≤ n) where
  -- the first k fields of any n types there
  first_says : {r : Result Passed Refusal} → PassesFields ty 2 k key 0 r → (ts : Tys) (e : ℕ) → TypesIn ty 2 ts e → n ≡ field_count ts → nestings ts ≤ max_groups
      → Says key (place_at k ts) r (decode_bare (first_tys k ts) key)
  first_says p ts e h c d = p.pass (first_tys k ts) (place_at k ts) (spans ty ts e k h).0 (sym (first_count k ts (omega arith))) (omega (arith, first_nest k ts))

  pub split_bad : {f : Refusal} → PassesFields ty 2 k key 0 (Err f) → Splits ty n key k (Err f)
  split_bad {f} p = record {
    splits = λ ts e h q dp ab.
        let s = read_bad (first_says p ts e h q dp) in
        rw (bad_first k ts key (number_of f) (detail_of f) s.0 s.1) refl;
  }

  module _ {first : Passed} (p : PassesFields ty 2 k key 0 (Ok first)) where
    abbrev start : ℕ
    start = first.next

    pub start_in : FieldsAt ty 2 n → start ≤ length key
    start_in f = (read_to (first_says p f.ts f.end f.here f.count f.deep)).3

    pub rest_fields : FieldsAt ty 2 n → FieldsAt ty first.at (n - k)
    rest_fields f =
        let ea = place_of (first_says p f.ts f.end f.here f.count f.deep) in
        record {
          ts = rest_tys k f.ts;
          end = f.end;
          here = rw ea (spans ty f.ts f.end k f.here).1;
          count = sym (rest_count k f.ts (omega (arith, f.count)) ∙ ap (λ (m : ℕ). m - k) (sym f.count));
          deep = omega (arith, rest_nest k f.ts, f.deep);
        }

    -- the rest's end, of any n types there
    rest_says : {q : Result Unit Refusal} → Ends ty first.at (n - k) key start q → (ts : Tys) (e : ℕ) → TypesIn ty 2 ts e → n ≡ field_count ts → nestings ts ≤ max_groups
        → EndSays q (whole (decode_bare (rest_tys k ts) (drop start key)))
    rest_says z ts e h c d =
        let ea = place_of (first_says p ts e h c d) in
        z.end (rest_tys k ts) e (rw ea (spans ty ts e k h).1) (sym (rest_count k ts (omega arith) ∙ ap (λ (m : ℕ). m - k) (sym c))) (omega (arith, rest_nest k ts))

    pub split_rest_bad : {f : Refusal} → Ends ty first.at (n - k) key start (Err f) → Splits ty n key k (Err f)
    unfolding whole
    split_rest_bad {f} z = record {
      splits = λ ts e h q dp ab.
          let s = read_to (first_says p ts e h q dp) in
          go ts s.0 s.1 s.2 (decode_bare (rest_tys k ts) (drop start key)) refl (rest_says z ts e h q dp);
    }
      where
        go : (ts : Tys) (vs : Vals) (i : ℕ) → decode_bare (first_tys k ts) key ≡ Decoded.got vs (drop start key) i → (m : Decoded Vals)
            → decode_bare (rest_tys k ts) (drop start key) ≡ m → EndSays (Err f) (whole m) → SplitSays key k (Err f) (decode_key (Ty.Record ts) key)
        go ts vs i l (Decoded.got us [] j) g y = absurd (let z : ◌≡◌ {A = ℕ} 0 1 = cc in omega arith)
        go ts vs i l (Decoded.got us (b ∷ r) j) g y = rw (left_over k ts key vs start i l us b r j g) (cc)
        go ts vs i l (Decoded.bad c' d' j) g y = rw (bad_rest k ts key vs start i l c' d' j g) (cc)

    pub split_good : Ends ty first.at (n - k) key start (Ok tt) → Splits ty n key k (Ok start)
    unfolding whole
    split_good z = record {
      splits = λ ts e h q dp ab.
          let s = read_to (first_says p ts e h q dp) in
          go ts s.0 s.1 s.2 s.3 (omega arith) ab (decode_bare (rest_tys k ts) (drop start key)) refl (rest_says z ts e h q dp);
    }
      where
        go : (ts : Tys) (vs : Vals) (i : ℕ) → decode_bare (first_tys k ts) key ≡ Decoded.got vs (drop start key) i → start ≤ length key → k ≤ field_count ts → AllBytes key
            → (m : Decoded Vals) → decode_bare (rest_tys k ts) (drop start key) ≡ m → EndSays (Ok tt) (whole m) → SplitSays key k (Ok start) (decode_key (Ty.Record ts) key)
        go ts vs i f l kc ab (Decoded.got us [] j) g y = rw (good_key k ts key vs start i f us j g) (start, refl, l, (first_bytes_lem k ts vs key start i kc ab l f us).2)
        go ts vs i f l kc ab (Decoded.got us (b ∷ r) j) g y = absurd (let z : ◌≡◌ {A = ℕ} 0 1 = cc in omega arith)
        go ts vs i f l kc ab (Decoded.bad c d j) g y = absurd (let z : ◌≡◌ {A = ℕ} 0 1 = cc in omega arith)

-- ---- a field behind the first k

all_drop : (n : ℕ) (l : List ℕ) → AllBytes l → AllBytes (drop n l)
all_drop zero l h = h
all_drop (suc n) [] h = tt
all_drop (suc n) (x ∷ l) h = all_drop n l h.1

module _ {ty : List ℕ} {n : ℕ} {key : List ℕ} {k : ℕ} (kn : k < n) where
  pub find_bad : {f : Refusal} → PassesFields ty 2 k key 0 (Err f) → Finds ty n key k (Err f)
  find_bad {f} p = record {
    finds = λ ts e h q dp ab.
        let s = read_bad (first_says {n = n} (omega arith) p ts e h q dp) in
        rw (bad_first k ts key (number_of f) (detail_of f) s.0 s.1) refl;
  }

  module _ {first : Passed} (p : PassesFields ty 2 k key 0 (Ok first)) where
    abbrev begin : ℕ
    begin = first.next

    -- the place behind the field's type
    abbrev behind : Tys → ℕ
    behind ts = first.at + length (ty_words (field_type k ts))

    -- the field's type stands there
    field_span : (ts : Tys) (e : ℕ) → TypesIn ty 2 ts e → n ≡ field_count ts → nestings ts ≤ max_groups
        → TypeIn ty first.at (field_type k ts) (behind ts) × TypesIn ty (behind ts) (rest_tys (suc k) ts) e × (nesting (field_type k ts) ≤ max_groups)
    field_span ts e h c d = rw (place_of (first_says {n = n} (omega arith) p ts e h c d)) (next_span ty ts e k h (omega arith) d)

    pub start_of : FieldsAt ty 2 n → begin ≤ length key
    start_of f = start_in {n = n} (omega arith) p f

    pub field_type_lem : FieldsAt ty 2 n → TypeAt ty first.at
    field_type_lem f =
        let s = field_span f.ts f.end f.here f.count f.deep in
        record { t = field_type k f.ts; end = behind f.ts; here = s.0; deep = s.2 }

    -- what the key's decoding says, by the field and the fields behind it
    abbrev joined : Tys → Decoded Val → Decoded Vals
    joined ts m = both m (λ left. decode_bare (rest_tys (suc k) ts) left) Vals.AddVal

    split_field : (ts : Tys) → n ≡ field_count ts → decode_bare (rest_tys k ts) (drop begin key) ≡ joined ts (decode (field_type k ts) 0 (drop begin key))
    unfolding decode_bare
    split_field ts c = rw (rest_next k ts (omega arith))

    field_says : {r : Result Passed Refusal} → PassesValue ty first.at key begin r → (ts : Tys) (e : ℕ) → TypesIn ty 2 ts e → n ≡ field_count ts → nestings ts ≤ max_groups
        → Says key (behind ts) r (decode (field_type k ts) 0 (drop begin key))
    field_says v ts e h c d = let s = field_span ts e h c d in v.pass (field_type k ts) (behind ts) s.0 s.2

    pub find_field_bad : {f : Refusal} → PassesValue ty first.at key begin (Err f) → Finds ty n key k (Err f)
    find_field_bad {f} v = record {
      finds = λ ts e h q dp ab.
          let s = read_to (first_says {n = n} (omega arith) p ts e h q dp) in
          let b = read_bad (field_says v ts e h q dp) in
          rw (bad_rest k ts key s.0 begin s.1 s.2 (number_of f) (detail_of f) b.0 (split_field ts q ∙ ap (joined ts) b.1)) refl;
    }

    module _ {own : Passed} (v : PassesValue ty first.at key begin (Ok own)) where
      abbrev end : ℕ
      end = own.next

      pub field_end_in : FieldsAt ty 2 n → end ≤ length key
      field_end_in f = (read_to (field_says v f.ts f.end f.here f.count f.deep)).3

      pub behind_fields : FieldsAt ty 2 n → FieldsAt ty own.at (n - k - 1)
      behind_fields f =
          let s = field_span f.ts f.end f.here f.count f.deep in
          let ea = place_of (field_says v f.ts f.end f.here f.count f.deep) in
          let cn : n - k - 1 ≡ field_count (rest_tys (suc k) f.ts) = omega (arith, rest_count (suc k) f.ts (omega (arith, f.count)), f.count) in
          record { ts = rest_tys (suc k) f.ts; end = f.end; here = rw ea s.1; count = cn; deep = omega (arith, rest_nest (suc k) f.ts, f.deep) }

      behind_says : {q : Result Unit Refusal} → Ends ty own.at (n - k - 1) key end q → (ts : Tys) (e : ℕ) → TypesIn ty 2 ts e → n ≡ field_count ts → nestings ts ≤ max_groups
          → EndSays q (whole (decode_bare (rest_tys (suc k) ts) (drop end key)))
      behind_says z ts e h c d =
          let s = field_span ts e h c d in
          let ea = place_of (field_says v ts e h c d) in
          let cn : n - k - 1 ≡ field_count (rest_tys (suc k) ts) = omega (arith, rest_count (suc k) ts (omega arith)) in
          z.end (rest_tys (suc k) ts) e (rw ea s.1) cn (omega (arith, rest_nest (suc k) ts))

      pub find_rest_bad : {f : Refusal} → Ends ty own.at (n - k - 1) key end (Err f) → Finds ty n key k (Err f)
      unfolding whole
      find_rest_bad {f} z = record {
        finds = λ ts e h q dp ab.
            let s = read_to (first_says {n = n} (omega arith) p ts e h q dp) in
            let o = read_to (field_says v ts e h q dp) in
            go ts s.0 s.1 s.2 o.0 o.1 (split_field ts q ∙ ap (joined ts) o.2) (decode_bare (rest_tys (suc k) ts) (drop end key)) refl (behind_says z ts e h q dp);
      }
        where
          go : (ts : Tys) (vs : Vals) (i : ℕ) → decode_bare (first_tys k ts) key ≡ Decoded.got vs (drop begin key) i → (u : Val) (i2 : ℕ)
              → decode_bare (rest_tys k ts) (drop begin key) ≡ joined ts (Decoded.got u (drop end key) i2)
              → (m : Decoded Vals) → decode_bare (rest_tys (suc k) ts) (drop end key) ≡ m → EndSays (Err f) (whole m) → FindSays ty ts key k (Err f) (decode_key (Ty.Record ts) key)
          go ts vs i l u i2 g (Decoded.got us [] j) m y = absurd (let z : ◌≡◌ {A = ℕ} 0 1 = cc in omega arith)
          go ts vs i l u i2 g (Decoded.got us (b ∷ r) j) m y = rw (left_over k ts key vs begin i l (Vals.AddVal u us) b r (i2 + j) (g ∙ rw m refl)) (cc)
          go ts vs i l u i2 g (Decoded.bad c' d' j) m y = rw (bad_rest k ts key vs begin i l c' d' (i2 + j) (g ∙ rw m refl)) (cc)

      pub find_good : Ends ty own.at (n - k - 1) key end (Ok tt) → Finds ty n key k (Ok (record { at = first.at; start = begin; end = end }))
      unfolding whole
      find_good z = record {
        finds = λ ts e h q dp ab.
            let s = read_to (first_says {n = n} (omega arith) p ts e h q dp) in
            let o = read_to (field_says v ts e h q dp) in
            let sp = field_span ts e h q dp in
            go ts s.0 s.1 s.2 s.3 o.0 o.1 o.2 o.3 (split_field ts q ∙ ap (joined ts) o.2) (omega arith) ab sp.0 sp.2
            (decode_bare (rest_tys (suc k) ts) (drop end key)) refl (behind_says z ts e h q dp);
      }
        where
          go : (ts : Tys) (vs : Vals) (i : ℕ) → decode_bare (first_tys k ts) key ≡ Decoded.got vs (drop begin key) i → begin ≤ length key → (u : Val) (i2 : ℕ)
              → decode (field_type k ts) 0 (drop begin key) ≡ Decoded.got u (drop end key) i2 → end ≤ length key
              → decode_bare (rest_tys k ts) (drop begin key) ≡ joined ts (Decoded.got u (drop end key) i2)
              → k < field_count ts → AllBytes key → TypeIn ty first.at (field_type k ts) (behind ts) → nesting (field_type k ts) ≤ max_groups
              → (m : Decoded Vals) → decode_bare (rest_tys (suc k) ts) (drop end key) ≡ m → EndSays (Ok tt) (whole m)
              → FindSays ty ts key k (Ok (record { at = first.at; start = begin; end = end })) (decode_key (Ty.Record ts) key)
          go ts vs i f l u i2 du le g kc ab ti nt (Decoded.got us [] j) m y =
              let gk = good_key k ts key vs begin i f (Vals.AddVal u us) (i2 + j) (g ∙ rw m refl) in
              let kb = key_canon (Ty.Record ts) key (Val.Record (join_vals vs (Vals.AddVal u us))) [] (i + (i2 + j)) ab gk in
              let kp = key_parts ts (Val.Record (join_vals vs (Vals.AddVal u us))) key kb.bytes in
              let fb = first_bytes_lem k ts vs key begin i (omega arith) ab l f (Vals.AddVal u us) in
              let cn : val_count vs ≡ k = sym (fits_count (first_tys k ts) 0 vs (bare_canon (first_tys k ts) key vs (drop begin key) i ab f).fit) ∙ first_count k ts (omega arith) in
              let fj = field_join k vs us u cn in
              let cu = canon (field_type k ts) 0 (drop begin key) u (drop end key) i2 (all_drop begin key ab) du in
              let len : end ≡ begin + length (val_bytes 0 u) = omega (arith, ap length cu.bytes, length-append (val_bytes 0 u) (drop end key), length-drop begin key, length-drop end key) in
              rw gk (
                record { at = first.at; start = begin; end = end },
                refl,
                record {
                  behind = behind ts;
                  typed = ti;
                  deep = nt;
                  starts = fb.1;
                  ends = len ∙ (let w : length (val_bytes 0 u) ≡ length (val_bytes 0 (field_at k (join_vals vs (Vals.AddVal u us)))) = ap (λ (x : Val). length (val_bytes 0 x)) (sym fj) in omega (arith, fb.1));
                  within = le;
                  bytes = sym kp.2;
                  fit = kp.1;
                  inside = omega (arith, fits_count ts 0 (join_vals vs (Vals.AddVal u us)) kp.1);
                },
              )
          go ts vs i f l u i2 du le g kc ab ti nt (Decoded.got us (b ∷ r) j) m y = absurd (let z : ◌≡◌ {A = ℕ} 0 1 = cc in omega arith)
          go ts vs i f l u i2 du le g kc ab ti nt (Decoded.bad c d j) m y = absurd (let z : ◌≡◌ {A = ℕ} 0 1 = cc in omega arith)

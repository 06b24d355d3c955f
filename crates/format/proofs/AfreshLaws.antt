-- A record that encode_key accepts has an admitted sheet: its words are few by its type, its groups by the depth limit, its pool by the key's length.
use mathlib.Core.Path.{◌≡◌, refl, sym, subst}
use mathlib.Core.Bool.{Bool, true, false}
use mathlib.Core.List.{List, [], ◌∷◌, ◌++◌}
use mathlib.Core.Option.{some}
use Prim.Native.Nat.{ℕ, ◌+◌, ◌*◌, ◌≤◌, ◌<◌}
use native.Mathlib.Omega.{arith}
use lib.Dec.{eqb, lit≤}
use lib.ListN.{length, length-append}
use Rattle.format.specs.Answer.{if}
use Rattle.format.specs.Tree.{Ty, Tys, Alts, Val, Vals, number_in, fields_in, payload_in}
use Rattle.format.specs.Sheet.{ty_words, tys_words, alts_words, field_count, val_count, val_words, vals_words, val_pool, vals_pool}
use Rattle.format.specs.TypeSheet.{type_of, max_type_words}
use Rattle.format.specs.ValueSheet.{value_of, nesting, nestings, Proper, AllProper}
use Rattle.format.specs.Scalar.{uint_bytes, escaped}
use Rattle.format.specs.Encode.{val_bytes, vals_bytes, fits, fits_all, fits_union, in_union, group_at, max_depth, max_key_bytes, fine}
use Rattle.format.proofs.Tests.{ltb_test, eqb_test, passed}
use Rattle.format.proofs.KindLaws.{built}
use Rattle.format.proofs.EncodeLaws.{no_answer, and_fine, of_kind_lem}
use Rattle.format.proofs.RoundLaws.{union_fine, optional_fine}
use Rattle.format.proofs.TypeLaws as types
use Rattle.format.proofs.ValueLaws as values

-- a record's fields and depth were accepted
record_fine : (ts : Tys) (depth : ℕ) (v : Val) → fits (Ty.Record ts) depth v ≡ fine → (v ≡ Val.Record (fields_in v)) × (depth < max_depth) × (fits_all ts (depth + 1) (fields_in v) ≡ fine)
unfolding fits built
record_fine ts depth v f =
    let k = of_kind_lem 5 v _ f in
    let c = passed _ _ (eqb_test (field_count ts) (val_count (fields_in v))) no_answer k.1 in
    let g = passed _ _ (ltb_test depth max_depth) no_answer c.1 in
    (k.0, g.0, g.1)

union_fine_at : (alts : Alts) (depth : ℕ) (v : Val) → fits (Ty.Union alts) depth v ≡ fine → (v ≡ Val.Union (number_in v) (payload_in v)) × (fits_union alts depth (number_in v) (payload_in v) ≡ fine)
unfolding fits built
union_fine_at alts depth v f = of_kind_lem 6 v _ f

-- ---- words: at most two for each word of the type

mutual
  unfolding fits built ty_words val_words

  words_fit : (t : Ty) (depth : ℕ) (v : Val) → fits t depth v ≡ fine → length (val_words v) ≤ 2 * length (ty_words t)
  words_fit Ty.Int depth v f = rw (of_kind_lem 1 v _ f).0 (lit≤ tt)
  words_fit Ty.Str depth v f = rw (of_kind_lem 2 v _ f).0 (lit≤ tt)
  words_fit Ty.Bytes depth v f = rw (of_kind_lem 3 v _ f).0 (lit≤ tt)
  words_fit (Ty.Ref p) depth v f = rw (of_kind_lem 4 v _ f).0 (lit≤ tt)
  words_fit (Ty.Record ts) depth v f =
      let k = record_fine ts depth v f in
      rw k.0 (omega (arith, all_words_fit ts (depth + 1) (fields_in v) k.2))
  words_fit (Ty.Union alts) depth v f =
      let k = union_fine_at alts depth v f in
      rw k.0 (omega (arith, union_words_fit alts depth (number_in v) (payload_in v) k.1))
  words_fit (Ty.Optional t) depth v f = optional_fine t depth v f (λ p. rw p (omega arith)) (λ h g. omega (arith, words_fit t depth v g))

  pub all_words_fit : (ts : Tys) (depth : ℕ) (vs : Vals) → fits_all ts depth vs ≡ fine → length (vals_words vs) ≤ 2 * length (tys_words ts)
  all_words_fit Tys.NoTy depth Vals.NoVal f = lit≤ tt
  all_words_fit Tys.NoTy depth (Vals.AddVal v vs) f = absurd (no_answer f)
  all_words_fit (Tys.AddTy t ts) depth Vals.NoVal f = absurd (no_answer f)
  all_words_fit (Tys.AddTy t ts) depth (Vals.AddVal v vs) f =
      let h = and_fine (fits t depth v) (fits_all ts depth vs) f in
      omega (arith, words_fit t depth v h.0, all_words_fit ts depth vs h.1, length-append (val_words v) (vals_words vs), length-append (ty_words t) (tys_words ts))

  union_words_fit : (alts : Alts) (depth d : ℕ) (v : Val) → fits_union alts depth d v ≡ fine → length (val_words v) ≤ 2 * length (alts_words alts)
  union_words_fit Alts.NoAlt depth d v f = absurd (no_answer f)
  union_words_fit (Alts.AddAlt e t alts) depth d v f = go (eqb e d) f (λ h. words_fit t (depth + 1) v h) (λ h. union_words_fit alts depth d v h)
    where
      go : (b : Bool) → if b (in_union d (group_at depth (fits t (depth + 1) v))) (fits_union alts depth d v) ≡ fine
          → (fits t (depth + 1) v ≡ fine → length (val_words v) ≤ 2 * length (ty_words t)) → (fits_union alts depth d v ≡ fine → length (val_words v) ≤ 2 * length (alts_words alts))
          → length (val_words v) ≤ 2 * length (alts_words (Alts.AddAlt e t alts))
      go true g here rest = omega (arith, here (passed _ _ (ltb_test depth max_depth) no_answer (union_fine d _ g)).1, length-append (ty_words t) (alts_words alts))
      go false g here rest = omega (arith, rest g, length-append (ty_words t) (alts_words alts))

-- ---- groups: none opens at the depth limit

mutual
  unfolding fits built nesting

  nest_fit : (t : Ty) (depth : ℕ) (v : Val) → depth ≤ max_depth → fits t depth v ≡ fine → nesting v + depth ≤ max_depth
  nest_fit Ty.Int depth v l f = rw (of_kind_lem 1 v _ f).0 (omega arith)
  nest_fit Ty.Str depth v l f = rw (of_kind_lem 2 v _ f).0 (omega arith)
  nest_fit Ty.Bytes depth v l f = rw (of_kind_lem 3 v _ f).0 (omega arith)
  nest_fit (Ty.Ref p) depth v l f = rw (of_kind_lem 4 v _ f).0 (omega arith)
  nest_fit (Ty.Record ts) depth v l f =
      let k = record_fine ts depth v f in
      rw k.0 (omega (arith, all_nest_fit ts (depth + 1) (fields_in v) (omega (arith, k.1)) k.2))
  nest_fit (Ty.Union alts) depth v l f =
      let k = union_fine_at alts depth v f in
      rw k.0 (omega (arith, union_nest_fit alts depth (number_in v) (payload_in v) k.1))
  nest_fit (Ty.Optional t) depth v l f = optional_fine t depth v f (λ p. rw p (omega arith)) (λ h g. nest_fit t depth v l g)

  pub all_nest_fit : (ts : Tys) (depth : ℕ) (vs : Vals) → depth ≤ max_depth → fits_all ts depth vs ≡ fine → nestings vs + depth ≤ max_depth
  all_nest_fit Tys.NoTy depth Vals.NoVal l f = omega arith
  all_nest_fit Tys.NoTy depth (Vals.AddVal v vs) l f = absurd (no_answer f)
  all_nest_fit (Tys.AddTy t ts) depth Vals.NoVal l f = absurd (no_answer f)
  all_nest_fit (Tys.AddTy t ts) depth (Vals.AddVal v vs) l f =
      let h = and_fine (fits t depth v) (fits_all ts depth vs) f in
      omega (arith, nest_fit t depth v l h.0, all_nest_fit ts depth vs l h.1)

  union_nest_fit : (alts : Alts) (depth d : ℕ) (v : Val) → fits_union alts depth d v ≡ fine → nesting v + (depth + 1) ≤ max_depth
  union_nest_fit Alts.NoAlt depth d v f = absurd (no_answer f)
  union_nest_fit (Alts.AddAlt e t alts) depth d v f = go (eqb e d) f (λ l h. nest_fit t (depth + 1) v l h) (λ h. union_nest_fit alts depth d v h)
    where
      go : (b : Bool) → if b (in_union d (group_at depth (fits t (depth + 1) v))) (fits_union alts depth d v) ≡ fine
          → (depth + 1 ≤ max_depth → fits t (depth + 1) v ≡ fine → nesting v + (depth + 1) ≤ max_depth) → (fits_union alts depth d v ≡ fine → nesting v + (depth + 1) ≤ max_depth)
          → nesting v + (depth + 1) ≤ max_depth
      go true g here rest = let h = passed _ _ (ltb_test depth max_depth) no_answer (union_fine d _ g) in here (omega (arith, h.0)) h.1
      go false g here rest = rest g

-- ---- pool: each byte of it is a byte of the encoding

long_escape : (s : List ℕ) → length s ≤ length (escaped s)
unfolding escaped
long_escape [] = lit≤ tt
long_escape (b ∷ s) = go (eqb b 0) (long_escape s)
  where
    go : (c : Bool) → length s ≤ length (escaped s) → length (b ∷ s) ≤ length (if c (0 ∷ 0xFF ∷ escaped s) (b ∷ escaped s))
    go true h = omega arith
    go false h = omega arith

mutual
  unfolding val_pool val_bytes

  pool_fit : (depth : ℕ) (v : Val) → length (val_pool v) ≤ length (val_bytes depth v)
  pool_fit depth Val.Null = omega arith
  pool_fit depth (Val.Int w) = omega arith
  pool_fit depth (Val.Str s) = omega (arith, long_escape s)
  pool_fit depth (Val.Bytes s) = omega (arith, long_escape s)
  pool_fit depth (Val.Ref r) = omega arith
  pool_fit depth (Val.Record vs) = omega (arith, all_pool_fit (depth + 1) vs, length-append (vals_bytes (depth + 1) vs) (0 ∷ []))
  pool_fit depth (Val.Union d v) = omega (arith, pool_fit (depth + 1) v, length-append (uint_bytes d) (val_bytes (depth + 1) v ++ 0 ∷ []), length-append (val_bytes (depth + 1) v) (0 ∷ []))

  pub all_pool_fit : (depth : ℕ) (vs : Vals) → length (vals_pool vs) ≤ length (vals_bytes depth vs)
  all_pool_fit depth Vals.NoVal = lit≤ tt
  all_pool_fit depth (Vals.AddVal v vs) = omega (arith, pool_fit depth v, all_pool_fit depth vs, length-append (val_pool v) (vals_pool vs), length-append (val_bytes depth v) (vals_bytes depth vs))

-- ---- so the sheet of an accepted record is admitted, and its value is the record

pub afresh : (ty : List ℕ) (ts : Tys) (vs : Vals) → type_of ty ≡ some (Ty.Record ts) → AllProper vs → fits_all ts 0 vs ≡ fine → length (vals_bytes 0 vs) ≤ max_key_bytes
    → value_of (val_words (Val.Record vs)) (val_pool (Val.Record vs)) ≡ some (Val.Record vs)
unfolding val_words val_pool ty_words nesting Proper
afresh ty ts vs e p f l =
    let a = (types.admitted ty (Ty.Record ts)).0 e in
    let n : length (ty_words (Ty.Record ts)) ≤ max_type_words = subst (λ (w : List ℕ). length w ≤ max_type_words) (sym a.words) a.long in
    (values.admitted (val_words (Val.Record vs)) (val_pool (Val.Record vs)) (Val.Record vs)).1
    (record {
      words = refl;
      pool = refl;
      proper = p;
      deep = omega (arith, all_nest_fit ts 0 vs (lit≤ tt) f);
      long = omega (arith, all_words_fit ts 0 vs f);
      large = omega (arith, all_pool_fit 0 vs);
    })

-- What was encoded is decoded again, with its count of values.
use mathlib.Core.Path.{◌≡◌, refl, subst, ◌∙◌}
use mathlib.Core.Bool.{Bool, true, false}
use mathlib.Core.Logic.{◌≢◌}
use mathlib.Core.List.{List, [], ◌∷◌, ◌++◌, append_assoc}
use Prim.Native.Nat.{ℕ, ◌+◌, ◌<◌}
use native.Mathlib.Omega.{arith}
use lib.Dec.{ltb, eqb, lit<}
use Rattle.format.specs.Answer.{Answer, ok, refused, if, BadRecord, TypeMismatch, BadUnion}
use Rattle.format.specs.Tree.{Ty, Tys, Alts, Val, Vals, val_kind, number_in, run_in, fields_in, payload_in}
use Rattle.format.specs.Sheet.{field_count, val_count}
use Rattle.format.specs.TypeSheet.{NotOptional}
use Rattle.format.specs.Scalar.{uint_bytes}
use Rattle.format.specs.Encode.{val_bytes, vals_bytes, fits, fits_all, fits_union, in_union, group_at, max_depth, fine}
use Rattle.format.specs.Read.{starts_ff, ends_here, null_at}
use Rattle.format.specs.Decode.{Decoded, after, both, union_end, blank_or, decode, decode_group, decode_union}
use Rattle.format.specs.Order.{rank}
use Rattle.format.proofs.Begun.{begun, begun_all}
use Rattle.format.proofs.Tests.{Test, holds, fails, ltb_test, eqb_test, ltb_yes, eqb_no, passed}
use Rattle.format.proofs.Sound.{Sound, AllSound}
use Rattle.format.proofs.KindLaws.{built, is_null, not_zero}
use Rattle.format.proofs.OrderLaws.{marked}
use Rattle.format.proofs.EncodeLaws.{no_answer, and_fine, of_kind_lem}
use Rattle.format.proofs.ReadLaws.{get_uint_bytes, get_int_bytes, get_str_bytes, get_bytes_bytes, get_ref_bytes}

-- ---- what was accepted

pub union_fine : (tag : ℕ) (g : Answer Unit) → in_union tag g ≡ fine → g ≡ fine
unfolding in_union
union_fine tag (ok u) e = refl
union_fine tag (refused n d) e = go (eqb n BadRecord) (eqb n TypeMismatch) e
  where
    go : (b c : Bool) → if b (refused BadUnion tag) (if c (refused BadUnion tag) (refused n d)) ≡ fine → refused n d ≡ fine
    go true c h = cc
    go false true h = cc
    go false false h = h

-- a union's depth was in reach
pub union_deep : (alts : Alts) (depth d : ℕ) (v : Val) → fits_union alts depth d v ≡ fine → depth < max_depth
unfolding fits_union
union_deep Alts.NoAlt depth d v e = absurd (let z : ◌≡◌ {A = ℕ} 0 1 = cc in omega arith)
union_deep (Alts.AddAlt e t alts) depth d v f = go (eqb e d) f (union_deep alts depth d v)
  where
    go : (b : Bool) → if b (in_union d (group_at depth (fits t (depth + 1) v))) (fits_union alts depth d v) ≡ fine
        → (fits_union alts depth d v ≡ fine → depth < max_depth) → depth < max_depth
    go true h rest = (passed _ _ (ltb_test depth max_depth) no_answer (union_fine d _ h)).0
    go false h rest = rest h

-- Null fits an optional type and no other
pub not_null : (t : Ty) (depth : ℕ) (v : Val) → NotOptional t → fits t depth v ≡ fine → 0 < rank v
unfolding fits built
not_null Ty.Int depth v o f = rw (of_kind_lem 1 v _ f).0 (lit< tt)
not_null Ty.Str depth v o f = rw (of_kind_lem 2 v _ f).0 (lit< tt)
not_null Ty.Bytes depth v o f = rw (of_kind_lem 3 v _ f).0 (lit< tt)
not_null (Ty.Ref p) depth v o f = rw (of_kind_lem 4 v _ f).0 (lit< tt)
not_null (Ty.Record ts) depth v o f = rw (of_kind_lem 5 v _ f).0 (lit< tt)
not_null (Ty.Union alts) depth v o f = rw (of_kind_lem 6 v _ f).0 (lit< tt)
not_null (Ty.Optional t) depth v o f = absurd o

pub null_fits : (t : Ty) (depth : ℕ) → fits (Ty.Optional t) depth Val.Null ≡ fine
unfolding fits
null_fits t depth = refl

-- what fits an optional type is Null, or fits the type behind it
pub optional_fine : (t : Ty) (depth : ℕ) (v : Val) {P : Type 0} → fits (Ty.Optional t) depth v ≡ fine → (v ≡ Val.Null → P) → (0 < rank v → fits t depth v ≡ fine → P) → P
unfolding fits
optional_fine t depth v {P} f blank filled = go (eqb (val_kind v) 0) (eqb_test (val_kind v) 0) f
  where
    go : (b : Bool) → Test (val_kind v ≡ 0) (val_kind v ≢ 0) b → if b fine (fits t depth v) ≡ fine → P
    go _ (holds p) g = blank (is_null v p)
    go _ (fails p) g = filled (not_zero v p) g

-- ---- what may follow

pub starts_val : (depth : ℕ) (v : Val) → Sound v → (r : List ℕ) → starts_ff (val_bytes depth v ++ r) ≡ false
unfolding starts_ff
starts_val depth v s r = let m = marked depth v s in rw (m.bytes, eqb_no m.mark 0xFF (omega (arith, m.small)))

pub starts_vals : (depth : ℕ) (vs : Vals) → AllSound vs → (r : List ℕ) → starts_ff r ≡ false → starts_ff (vals_bytes depth vs ++ r) ≡ false
unfolding vals_bytes
starts_vals depth Vals.NoVal s r e = e
starts_vals depth (Vals.AddVal v vs) s r e = rw append_assoc (starts_val depth v s.0 (vals_bytes depth vs ++ r))

pub zero_starts : (r : List ℕ) → starts_ff (0 ∷ r) ≡ false
unfolding starts_ff
zero_starts r = refl

pub ends : (r : List ℕ) → starts_ff r ≡ false → ends_here (0 ∷ r) ≡ true
unfolding ends_here
ends r e = rw e

-- a field of a group does not begin with the group's end, a null neither
group_step : (t : Ty) (ts : Tys) (depth : ℕ) (v : Val) (z : List ℕ) → Sound v → 0 < depth
    → decode_group (Tys.AddTy t ts) depth (val_bytes depth v ++ z) ≡ both (decode t depth (val_bytes depth v ++ z)) (λ rest. decode_group ts depth rest) Vals.AddVal
unfolding decode_group ends_here starts_ff val_bytes
group_step t ts depth v z s l = go (eqb (val_kind v) 0) (eqb_test (val_kind v) 0)
  where
    go : (b : Bool) → Test (val_kind v ≡ 0) (val_kind v ≢ 0) b
        → decode_group (Tys.AddTy t ts) depth (val_bytes depth v ++ z) ≡ both (decode t depth (val_bytes depth v ++ z)) (λ rest. decode_group ts depth rest) Vals.AddVal
    go _ (holds p) = rw (is_null v p, ltb_yes 0 depth l)
    go _ (fails p) = let m = marked depth v s in rw (m.bytes, eqb_no m.mark 0 (omega (arith, m.least, not_zero v p)))

-- a null is read as one, and nothing else is
null_read : (depth : ℕ) (d : Decoded Val) (r : List ℕ) → blank_or (null_at depth (val_bytes depth Val.Null ++ r)) d ≡ Decoded.got Val.Null r 1
unfolding val_bytes starts_ff
null_read depth d r = go (ltb 0 depth) refl
  where
    go : (b : Bool) → ltb 0 depth ≡ b → blank_or (null_at depth (if b (0 ∷ 0xFF ∷ []) (0 ∷ []) ++ r)) d ≡ Decoded.got Val.Null r 1
    go true e = rw e
    go false e = rw e

filled_read : (depth : ℕ) (v : Val) (d : Decoded Val) (r : List ℕ) → Sound v → 0 < rank v → blank_or (null_at depth (val_bytes depth v ++ r)) d ≡ d
filled_read depth v d r s h = let m = marked depth v s in rw (m.bytes, eqb_no m.mark 0 (omega (arith, m.least)))

-- ---- the round trip

mutual
  unfolding fits decode val_bytes begun built union_end

  pub round : (t : Ty) (depth : ℕ) (a : Val) (r : List ℕ) → fits t depth a ≡ fine → Sound a → starts_ff r ≡ false
      → decode t depth (val_bytes depth a ++ r) ≡ Decoded.got a r (begun a)
  round Ty.Int depth a r f s e = let m = (of_kind_lem 1 a _ f).0 in rw (m, get_int_bytes (number_in a) r (subst Sound m s))
  round Ty.Str depth a r f s e = let m = (of_kind_lem 2 a _ f).0 in rw (m, get_str_bytes (run_in a) r (subst Sound m s).0 e)
  round Ty.Bytes depth a r f s e = let m = (of_kind_lem 3 a _ f).0 in rw (m, get_bytes_bytes (run_in a) r e)
  round (Ty.Ref p) depth a r f s e = let m = of_kind_lem 4 a _ f in rw (m.0, get_ref_bytes p (number_in a) r (subst Sound m.0 s) m.1)
  round (Ty.Record ts) depth a r f s e =
      let m = of_kind_lem 5 a _ f in
      let g = passed _ _ (eqb_test (field_count ts) (val_count (fields_in a))) no_answer m.1 in
      let h = passed _ _ (ltb_test depth max_depth) no_answer g.1 in
      rw (m.0, append_assoc (vals_bytes (depth + 1) (fields_in a)), ltb_yes depth max_depth h.0, rounds ts (depth + 1) (fields_in a) r (omega arith) h.1 (subst Sound m.0 s) e)
  round (Ty.Union alts) depth a r f s e =
      let m = of_kind_lem 6 a _ f in
      let su : Sound (Val.Union (number_in a) (payload_in a)) = subst Sound m.0 s in
      rw (
        m.0,
        append_assoc (uint_bytes (number_in a)),
        append_assoc (val_bytes (depth + 1) (payload_in a)),
        get_uint_bytes (number_in a) (val_bytes (depth + 1) (payload_in a) ++ 0 ∷ r) su.0,
        ltb_yes depth max_depth (union_deep alts depth (number_in a) (payload_in a) m.1),
      )
      (round_union alts depth (number_in a) (payload_in a) r m.1 su.1 e)
  round (Ty.Optional t) depth a r f s e =
      optional_fine t depth a f (λ p. rw p (null_read depth (decode t depth (val_bytes depth Val.Null ++ r)) r))
      (λ h g. filled_read depth a (decode t depth (val_bytes depth a ++ r)) r s h ∙ round t depth a r g s e)

  -- inside a group, so that a null is no end
  pub rounds : (ts : Tys) (depth : ℕ) (vs : Vals) (r : List ℕ) → 0 < depth → fits_all ts depth vs ≡ fine → AllSound vs → starts_ff r ≡ false
      → decode_group ts depth (vals_bytes depth vs ++ 0 ∷ r) ≡ Decoded.got vs r (begun_all vs)
  rounds Tys.NoTy depth Vals.NoVal r l f s e = rw (ends r e)
  rounds Tys.NoTy depth (Vals.AddVal v vs) r l f s e = cc
  rounds (Tys.AddTy t ts) depth Vals.NoVal r l f s e = cc
  rounds (Tys.AddTy t ts) depth (Vals.AddVal v vs) r l f s e =
      let h = and_fine (fits t depth v) (fits_all ts depth vs) f in
      rw (
        append_assoc (val_bytes depth v),
        group_step t ts depth v (vals_bytes depth vs ++ 0 ∷ r) s.0 l,
        round t depth v (vals_bytes depth vs ++ 0 ∷ r) h.0 s.0 (starts_vals depth vs s.1 (0 ∷ r) (zero_starts r)),
        rounds ts depth vs r l h.1 s.1 e,
      )

  pub round_union : (alts : Alts) (depth d : ℕ) (v : Val) (r : List ℕ) → fits_union alts depth d v ≡ fine → Sound v → starts_ff r ≡ false
      → decode_union alts depth d (val_bytes (depth + 1) v ++ 0 ∷ r) ≡ Decoded.got (Val.Union d v) r (1 + begun v)
  round_union Alts.NoAlt depth d v r f s e = cc
  round_union (Alts.AddAlt tag t alts) depth d v r f s e =
      alt (eqb tag d) f (λ h. round t (depth + 1) v (0 ∷ r) h s (zero_starts r)) (λ h. round_union alts depth d v r h s e)
    where
      alt : (b : Bool) → if b (in_union d (group_at depth (fits t (depth + 1) v))) (fits_union alts depth d v) ≡ fine
          → (fits t (depth + 1) v ≡ fine → decode t (depth + 1) (val_bytes (depth + 1) v ++ 0 ∷ r) ≡ Decoded.got v (0 ∷ r) (begun v))
          → (fits_union alts depth d v ≡ fine → decode_union alts depth d (val_bytes (depth + 1) v ++ 0 ∷ r) ≡ Decoded.got (Val.Union d v) r (1 + begun v))
          → if b (after 1 (Val.Union d) (union_end (decode t (depth + 1) (val_bytes (depth + 1) v ++ 0 ∷ r)))) (decode_union alts depth d (val_bytes (depth + 1) v ++ 0 ∷ r)) ≡ Decoded.got (Val.Union d v) r (1 + begun v)
      alt true h one rest = rw (one (passed _ _ (ltb_test depth max_depth) no_answer (union_fine d _ h)).1, ends r e)
      alt false h one rest = rest h

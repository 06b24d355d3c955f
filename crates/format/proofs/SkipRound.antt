-- A value's bytes are skipped as one field, exactly, and so is an encoded field; a null where the escape is required and where it is not, so a blank too.
use mathlib.Core.Path.{◌≡◌, refl, ap, ◌∙◌}
use mathlib.Core.Logic.{◌≢◌}
use mathlib.Core.Bool.{Bool, true, false, ◌||◌, ◌&&◌}
use mathlib.Core.List.{List, ◌∷◌, ◌++◌, append_assoc}
use Prim.Native.Nat.{ℕ, ◌+◌, ◌-◌, ◌^◌, ◌≤◌, ◌<◌}
use native.Mathlib.Omega.{arith}
use lib.Dec.{ltb, eqb}
use lib.ListN.{length, length-append}
use lib.Seq.{drop_at}
use Rattle.format.specs.Answer.{if, ok, UnexpectedTerminator}
use Rattle.format.specs.Tree.{Ty, Tys, Alts, Val, Vals, val_kind, number_in, fields_in, payload_in}
use Rattle.format.specs.Sheet.{field_count, val_count}
use Rattle.format.specs.Scalar.{be, width, uint_bytes, neg_bytes, int_bytes, magnitude, escaped}
use Rattle.format.specs.Encode.{val_bytes, vals_bytes, max_depth, fits, fits_all, fits_union, in_union, group_at, fine, encode}
use Rattle.format.specs.Read.{Read, get_big, starts_ff, ends_here}
use Rattle.format.specs.Skip.{pass_bytes, pass_null, pass_field, turn, skip}
use Rattle.format.proofs.Tests.{Test, holds, fails, ltb_test, eqb_test, leb_yes, ltb_yes, ltb_no, eqb_no, passed}
use Rattle.format.proofs.ScalarLaws.{wide, width_pos}
use Rattle.format.proofs.Sound.{Sound, AllSound}
use Rattle.format.proofs.KindLaws.{built, is_null}
use Rattle.format.proofs.EncodeLaws.{no_answer, and_fine, accepted, of_kind_lem}
use Rattle.format.proofs.ReadLaws.{length_be, get_uint_bytes, get_run_escaped}
use Rattle.format.proofs.RoundLaws.{union_fine, optional_fine, starts_vals, ends, zero_starts}
use Rattle.format.proofs.SkipLaws.{ended, walk_from, walk_step, skip_walk}

-- no Null at depth 0, and groups only where the depth allows them
abbrev mutual
  pub Open : ℕ → Val → Type 0
  Open depth Val.Null = 0 < depth
  Open depth (Val.Int w) = Unit
  Open depth (Val.Str s) = Unit
  Open depth (Val.Bytes s) = Unit
  Open depth (Val.Ref r) = Unit
  Open depth (Val.Record vs) = (depth < max_depth) × OpenAll (depth + 1) vs
  Open depth (Val.Union d v) = (depth < max_depth) × Open (depth + 1) v

  pub OpenAll : ℕ → Vals → Type 0
  OpenAll depth Vals.NoVal = Unit
  OpenAll depth (Vals.AddVal v vs) = Open depth v × OpenAll depth vs

-- ---- one turn

and_false : (b : Bool) → (b && false) ≡ false
and_false true = refl
and_false false = refl

or_true : (b : Bool) → (b || true) ≡ true
or_true true = refl
or_true false = refl

turn_field : (escape : Bool) (depth m : ℕ) (bs : List ℕ) → ends_here (m ∷ bs) ≡ false → turn escape depth (m ∷ bs) ≡ pass_field escape depth m bs
unfolding turn
turn_field escape depth m bs e = rw (e, and_false)

-- a mark that is not 0 ends no group
not_end : (m : ℕ) (bs : List ℕ) → 0 < m → ends_here (m ∷ bs) ≡ false
unfolding ends_here
not_end m bs h = rw (eqb_no m 0 (omega arith))

pass_bytes_lem : (w depth : ℕ) (x r : List ℕ) → length x ≡ w → pass_bytes w depth (x ++ r) ≡ Read.got depth r
unfolding get_big
pass_bytes_lem w depth x r e = rw (leb_yes w (length (x ++ r)) (omega (arith, length-append x r)), drop_at x r w e)

-- an integer's mark
pass_above : (escape : Bool) (depth w : ℕ) (x r : List ℕ) → w ≤ 8 → length x ≡ w → pass_field escape depth (0x48 + w) (x ++ r) ≡ Read.got depth r
unfolding pass_field
pass_above escape depth w x r l e =
    let k : 0x48 + w - 0x48 ≡ w = omega arith in
    rw (
      eqb_no (0x48 + w) 0x00 (omega arith),
      eqb_no (0x48 + w) 0x21 (omega arith),
      eqb_no (0x48 + w) 0x53 (omega arith),
      eqb_no (0x48 + w) 0x22 (omega arith),
      ltb_no (0x48 + w) 0x40 (omega arith),
      ltb_no (0x48 + w) 0x48 (omega arith),
      leb_yes (0x48 + w) 0x50 (omega arith),
      k,
    )
    (pass_bytes_lem w depth x r e)

pass_below : (escape : Bool) (depth w : ℕ) (x r : List ℕ) → 0 < w → w ≤ 8 → length x ≡ w
    → pass_field escape depth (0x48 - w) (x ++ r) ≡ Read.got depth r
unfolding pass_field
pass_below escape depth w x r p l e =
    let k : 0x48 - (0x48 - w) ≡ w = omega arith in
    rw (
      eqb_no (0x48 - w) 0x00 (omega arith),
      eqb_no (0x48 - w) 0x21 (omega arith),
      eqb_no (0x48 - w) 0x53 (omega arith),
      eqb_no (0x48 - w) 0x22 (omega arith),
      ltb_no (0x48 - w) 0x40 (omega arith),
      ltb_yes (0x48 - w) 0x48 (omega arith),
      k,
    )
    (pass_bytes_lem w depth x r e)

pass_int : (escape : Bool) (depth n : ℕ) (r : List ℕ) → n < 2 ^ 64 → turn escape depth (int_bytes n ++ r) ≡ Read.got depth r
unfolding int_bytes uint_bytes neg_bytes
pass_int escape depth n r h = go (ltb n (2 ^ 63)) (ltb_test n (2 ^ 63))
  where
    go : (b : Bool) → Test (n < 2 ^ 63) (2 ^ 63 ≤ n) b → turn escape depth (if b (uint_bytes n) (neg_bytes (magnitude n)) ++ r) ≡ Read.got depth r
    go _ (holds p) =
        turn_field escape depth (0x48 + width n) (be (width n) n ++ r) (not_end (0x48 + width n) (be (width n) n ++ r) (omega arith))
        ∙ pass_above escape depth (width n) (be (width n) n) r (wide n h).most (length_be (width n) n)
    go _ (fails p) =
        let l : magnitude n < 2 ^ 64 = omega arith in
        let k : width (magnitude n) ≤ 8 = (wide (magnitude n) l).most in
        turn_field escape depth (0x48 - width (magnitude n)) (be (width (magnitude n)) (2 ^ 64 - 1 - magnitude n) ++ r) (not_end (0x48 - width (magnitude n)) _ (omega arith))
        ∙ pass_below escape depth (width (magnitude n)) (be (width (magnitude n)) (2 ^ 64 - 1 - magnitude n)) r (width_pos (magnitude n) (omega arith) l) k (length_be (width (magnitude n)) _)

-- ---- a whole value

step : (escape : Bool) (depth d : ℕ) (bs rest : List ℕ) → turn escape depth bs ≡ Read.got d rest
    → walk_from escape depth bs ≡ ended (walk_from escape) d rest
step escape depth d bs rest e = rw (walk_step escape depth bs, e)

-- the end of an open group
close : (escape : Bool) (depth : ℕ) (r : List ℕ) → starts_ff r ≡ false → walk_from escape (depth + 1) (0 ∷ r) ≡ ended (walk_from escape) depth r
unfolding turn
close escape depth r e =
    let k : depth + 1 - 1 ≡ depth = omega arith in
    step escape (depth + 1) depth (0 ∷ r) r (rw (ltb_yes 0 (depth + 1) (omega arith), ends r e, k))

-- inside a group there are further turns
inside : (escape : Bool) (depth : ℕ) (r : List ℕ) → 0 < depth → ended (walk_from escape) depth r ≡ walk_from escape depth r
inside escape depth r h = rw (eqb_no depth 0 (omega arith))

mutual
  unfolding val_bytes ends_here pass_field starts_ff

  past : (v : Val) (escape : Bool) (depth : ℕ) (r : List ℕ) → Sound v → Open depth v → starts_ff r ≡ false
      → walk_from escape depth (val_bytes depth v ++ r) ≡ ended (walk_from escape) depth r
  past Val.Null escape depth r s o e =
      rw (ltb_yes 0 depth o) (step escape depth depth (0 ∷ 0xFF ∷ r) r (turn_field escape depth 0 (0xFF ∷ r) refl ∙ rw (ltb_yes 0 depth o, or_true escape)))
  past (Val.Int w) escape depth r s o e = step escape depth depth (int_bytes w ++ r) r (pass_int escape depth w r s)
  past (Val.Str x) escape depth r s o e = step escape depth depth (0x21 ∷ (escaped x ++ r)) r (turn_field escape depth 0x21 (escaped x ++ r) refl ∙ rw (get_run_escaped x r e))
  past (Val.Bytes x) escape depth r s o e = step escape depth depth (0x53 ∷ (escaped x ++ r)) r (turn_field escape depth 0x53 (escaped x ++ r) refl ∙ rw (get_run_escaped x r e))
  past (Val.Ref q) escape depth r s o e = step escape depth depth (0x51 ∷ (be 8 q ++ r)) r (turn_field escape depth 0x51 (be 8 q ++ r) refl ∙ pass_bytes_lem 8 depth (be 8 q) r (length_be 8 q))
  past (Val.Record vs) escape depth r s o e =
      rw append_assoc
      (step escape depth (depth + 1) (0x22 ∷ (vals_bytes (depth + 1) vs ++ 0 ∷ r)) (vals_bytes (depth + 1) vs ++ 0 ∷ r)
      (turn_field escape depth 0x22 (vals_bytes (depth + 1) vs ++ 0 ∷ r) refl ∙ rw (ltb_yes depth max_depth o.0))
      ∙ inside escape (depth + 1) (vals_bytes (depth + 1) vs ++ 0 ∷ r) (omega arith)
      ∙ pasts vs escape (depth + 1) (0 ∷ r) s o.1 (omega arith) (zero_starts r)
      ∙ close escape depth r e)
  past (Val.Union d v) escape depth r s o e =
      rw (append_assoc (uint_bytes d), append_assoc (val_bytes (depth + 1) v))
      (step escape depth (depth + 1) (0x52 ∷ (uint_bytes d ++ (val_bytes (depth + 1) v ++ 0 ∷ r))) (val_bytes (depth + 1) v ++ 0 ∷ r)
      (turn_field escape depth 0x52 (uint_bytes d ++ (val_bytes (depth + 1) v ++ 0 ∷ r)) refl ∙ rw (ltb_yes depth max_depth o.0, get_uint_bytes d (val_bytes (depth + 1) v ++ 0 ∷ r) s.0))
      ∙ inside escape (depth + 1) (val_bytes (depth + 1) v ++ 0 ∷ r) (omega arith)
      ∙ past v escape (depth + 1) (0 ∷ r) s.1 o.1 (zero_starts r)
      ∙ inside escape (depth + 1) (0 ∷ r) (omega arith)
      ∙ close escape depth r e)

  pasts : (vs : Vals) (escape : Bool) (depth : ℕ) (r : List ℕ) → AllSound vs → OpenAll depth vs → 0 < depth → starts_ff r ≡ false
      → walk_from escape depth (vals_bytes depth vs ++ r) ≡ walk_from escape depth r
  pasts Vals.NoVal escape depth r s o h e = refl
  pasts (Vals.AddVal v vs) escape depth r s o h e =
      rw append_assoc
      (past v escape depth (vals_bytes depth vs ++ r) s.0 o.0 (starts_vals depth vs s.1 r e)
      ∙ inside escape depth (vals_bytes depth vs ++ r) h
      ∙ pasts vs escape depth r s.1 o.1 h e)

-- skipping a value's bytes ends behind them
pub skip_val : (v : Val) (escape : Bool) (r : List ℕ) → Sound v → Open 0 v → starts_ff r ≡ false → skip escape (val_bytes 0 v ++ r) ≡ Read.got tt r
skip_val v escape r s o e = skip_walk escape (val_bytes 0 v ++ r) ∙ past v escape 0 r s o e

-- ---- an encoded field

mutual
  unfolding fits built

  pub fits_open : (t : Ty) (depth : ℕ) (v : Val) → (v ≡ Val.Null → 0 < depth) → fits t depth v ≡ fine → Open depth v
  fits_open Ty.Int depth v z f = rw (of_kind_lem 1 v _ f).0 tt
  fits_open Ty.Str depth v z f = rw (of_kind_lem 2 v _ f).0 tt
  fits_open Ty.Bytes depth v z f = rw (of_kind_lem 3 v _ f).0 tt
  fits_open (Ty.Ref p) depth v z f = rw (of_kind_lem 4 v _ f).0 tt
  fits_open (Ty.Record ts) depth v z f =
      let m = of_kind_lem 5 v _ f in
      let g = passed _ _ (eqb_test (field_count ts) (val_count (fields_in v))) no_answer m.1 in
      let h = passed _ _ (ltb_test depth max_depth) no_answer g.1 in
      rw m.0 (h.0, fits_opens ts (depth + 1) (fields_in v) (omega arith) h.1)
  fits_open (Ty.Optional t) depth v z f = optional_fine t depth v f (λ p. rw p (z p)) (λ h g. fits_open t depth v z g)
  fits_open (Ty.Union alts) depth v z f = let m = of_kind_lem 6 v _ f in rw m.0 (fits_payload alts depth (number_in v) (payload_in v) m.1)

  fits_opens : (ts : Tys) (depth : ℕ) (vs : Vals) → 0 < depth → fits_all ts depth vs ≡ fine → OpenAll depth vs
  fits_opens Tys.NoTy depth Vals.NoVal l f = tt
  fits_opens Tys.NoTy depth (Vals.AddVal v vs) l f = absurd (no_answer f)
  fits_opens (Tys.AddTy t ts) depth Vals.NoVal l f = tt
  fits_opens (Tys.AddTy t ts) depth (Vals.AddVal v vs) l f =
      let h = and_fine (fits t depth v) (fits_all ts depth vs) f in
      (fits_open t depth v (λ e. l) h.0, fits_opens ts depth vs l h.1)

  fits_payload : (alts : Alts) (depth d : ℕ) (v : Val) → fits_union alts depth d v ≡ fine → (depth < max_depth) × Open (depth + 1) v
  fits_payload Alts.NoAlt depth d v f = absurd (no_answer f)
  fits_payload (Alts.AddAlt tag t alts) depth d v f = go (eqb tag d) f (λ h. fits_open t (depth + 1) v (λ e. omega arith) h) (λ h. fits_payload alts depth d v h)
    where
      go : (b : Bool) → if b (in_union d (group_at depth (fits t (depth + 1) v))) (fits_union alts depth d v) ≡ fine
          → (fits t (depth + 1) v ≡ fine → Open (depth + 1) v) → (fits_union alts depth d v ≡ fine → (depth < max_depth) × Open (depth + 1) v)
          → (depth < max_depth) × Open (depth + 1) v
      go true h one rest = let g = passed _ _ (ltb_test depth max_depth) no_answer (union_fine d _ h) in (g.0, one g.1)
      go false h one rest = rest h

-- ---- nulls

null_turn : (escape : Bool) (bs : List ℕ) → turn escape 0 (0 ∷ bs) ≡ pass_null escape 0 bs
unfolding turn pass_field
null_turn escape bs = refl

-- without the escape a null is 00, whatever follows
pub skip_null : (r : List ℕ) → skip false (0 ∷ r) ≡ Read.got tt r
skip_null r = skip_walk false (0 ∷ r) ∙ step false 0 0 (0 ∷ r) r (null_turn false r)

-- where the escape is required it is 00 FF
pub skip_null_escaped : (r : List ℕ) → skip true (0 ∷ 0xFF ∷ r) ≡ Read.got tt r
unfolding starts_ff
skip_null_escaped r = skip_walk true (0 ∷ 0xFF ∷ r) ∙ step true 0 0 (0 ∷ 0xFF ∷ r) r (null_turn true (0xFF ∷ r))

-- and a 00 without FF is UnexpectedTerminator
pub skip_null_bare : (r : List ℕ) → starts_ff r ≡ false → skip true (0 ∷ r) ≡ Read.bad UnexpectedTerminator 0
skip_null_bare r e = skip_walk true (0 ∷ r) ∙ rw (walk_step true 0 (0 ∷ r), null_turn true r, e)

-- ---- an encoded field

-- It is skipped exactly, but for a blank where the escape of a null is required: its bare 00 is UnexpectedTerminator there.
pub skip_encoded : (t : Ty) (v : Val) (x : List ℕ) (escape : Bool) (r : List ℕ) → encode t 0 v ≡ ok x → Sound v → starts_ff r ≡ false
    → skip escape (x ++ r) ≡ if (escape && eqb (val_kind v) 0) (Read.bad UnexpectedTerminator 0) (Read.got tt r)
unfolding encode val_bytes
skip_encoded t v x escape r e s f = let h = accepted (fits t 0 v) e in rw (← h.1) (go escape (eqb (val_kind v) 0) (eqb_test (val_kind v) 0) h.0)
  where
    go : (y z : Bool) → Test (val_kind v ≡ 0) (val_kind v ≢ 0) z → fits t 0 v ≡ fine → skip y (val_bytes 0 v ++ r) ≡ if (y && z) (Read.bad UnexpectedTerminator 0) (Read.got tt r)
    go true _ (holds p) g = rw (is_null v p) (skip_null_bare r f)
    go false _ (holds p) g = rw (is_null v p) (skip_null r)
    go true _ (fails p) g = skip_val v true r s (fits_open t 0 v (λ q. absurd (p (ap val_kind q))) g) f
    go false _ (fails p) g = skip_val v false r s (fits_open t 0 v (λ q. absurd (p (ap val_kind q))) g) f

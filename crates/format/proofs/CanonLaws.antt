-- Canonical bytes of fields and groups: what is decoded fits its type, and is encoded to the bytes that it was decoded from.
use mathlib.Core.Path.{◌≡◌, refl, sym, ap, ap₂, ◌∙◌, subst}
use mathlib.Core.Logic.{◌≢◌}
use mathlib.Core.Bool.{Bool, true, false, not}
use mathlib.Core.List.{List, [], ◌∷◌, ◌++◌, append_assoc}
use Prim.Native.Nat.{ℕ, ◌+◌, ◌^◌, ◌<◌}
use native.Mathlib.Omega.{arith}
use lib.Dec.{ltb, eqb}
use lib.ListN.{drop}
use Rattle.format.specs.Answer.{if, BadRecord, UnexpectedTerminator}
use Rattle.format.specs.Tree.{Ty, Tys, Alts, Val, Vals, val_kind}
use Rattle.format.specs.Sheet.{field_count, val_count}
use Rattle.format.specs.Scalar.{uint_bytes}
use Rattle.format.specs.Encode.{null_bytes, val_bytes, vals_bytes, fits, fits_all, fits_union, in_union, max_depth, fine}
use Rattle.format.specs.Read.{Read, get_uint, get_int, get_str, get_bytes, get_ref, starts_ff, ends_here, null_at}
use Rattle.format.specs.Decode.{Decoded, scalar, after, both, union_end, blank_or, opened, with_tag, decode, decode_group, decode_union}
use Rattle.format.proofs.Bytes.{AllBytes, bytes_behind}
use Rattle.format.proofs.Begun.{begun, begun_all}
use Rattle.format.proofs.Tests.{Test, holds, fails, ltb_test, eqb_test, bool_test, ltb_yes, eqb_yes, passed, failed}
use Rattle.format.proofs.Sound.{Sound, AllSound}
use Rattle.format.proofs.EncodeLaws.{fits_count}
use Rattle.format.proofs.BackLaws.{bad_got, uint_back, int_back, str_back, bytes_back, ref_back, run_bytes}

-- ---- decodings taken apart

pub lost : {A : Type 0} {n d k : ℕ} {a : A} {r : List ℕ} {j : ℕ} → Decoded.bad n d k ≡ Decoded.got a r j → ⊥
lost e = let z : ◌≡◌ {A = ℕ} 0 1 = cc in omega arith

scalar_got : {A : Type 0} (f : A → Val) (m : Read A) {a : Val} {r : List ℕ} {n : ℕ} → scalar f m ≡ Decoded.got a r n
    → (x : A) × (m ≡ Read.got x r) × (a ≡ f x) × (n ≡ 1)
scalar_got f (Read.got x s) e = (x, cc, cc, cc)
scalar_got f (Read.bad n d) e = absurd (lost e)

pub after_got : {A B : Type 0} (k : ℕ) (f : A → B) (m : Decoded A) {b : B} {r : List ℕ} {n : ℕ} → after k f m ≡ Decoded.got b r n
    → (a : A) × (j : ℕ) × (m ≡ Decoded.got a r j) × (b ≡ f a) × (n ≡ k + j)
after_got k f (Decoded.got a s j) e = (a, j, cc, cc, cc)
after_got k f (Decoded.bad n d j) e = absurd (lost e)

pub both_got : {A B C : Type 0} (m : Decoded A) (f : List ℕ → Decoded B) (g : A → B → C) {c : C} {r : List ℕ} {n : ℕ} → both m f g ≡ Decoded.got c r n
    → (a : A) × (s : List ℕ) × (k : ℕ) × (b : B) × (j : ℕ) × (m ≡ Decoded.got a s k) × (f s ≡ Decoded.got b r j) × (c ≡ g a b) × (n ≡ k + j)
both_got (Decoded.got a s k) f g e = let h = after_got k (g a) (f s) e in (a, s, k, h.0, h.1, refl, h.2, h.3, h.4)
both_got (Decoded.bad n d k) f g e = absurd (lost e)

opened_got : {A : Type 0} (mark : ℕ) (f : List ℕ → Decoded A) (bs : List ℕ) {a : A} {r : List ℕ} {n : ℕ} → opened mark f bs ≡ Decoded.got a r n
    → (rest : List ℕ) × (bs ≡ mark ∷ rest) × (f rest ≡ Decoded.got a r n)
opened_got mark f [] e = absurd (lost e)
opened_got mark f (m ∷ bs) e = let h = passed _ _ (eqb_test m mark) lost e in (bs, ap (λ (x : ℕ). x ∷ bs) h.0, h.1)

tag_got : {A : Type 0} (depth : ℕ) (m : Read ℕ) (f : ℕ → List ℕ → Decoded A) {a : A} {r : List ℕ} {n : ℕ} → with_tag depth m f ≡ Decoded.got a r n
    → (tag : ℕ) × (more : List ℕ) × (m ≡ Read.got tag more) × (depth < max_depth) × (f tag more ≡ Decoded.got a r n)
tag_got depth (Read.got tag more) f e = let h = passed _ _ (ltb_test depth max_depth) lost e in (tag, more, refl, h.0, h.1)
tag_got depth (Read.bad n d) f e = absurd (lost e)

-- a group's end is 00
end_zero : (b : ℕ) (bs : List ℕ) → ends_here (b ∷ bs) ≡ true → b ≡ 0
unfolding ends_here
end_zero b bs e = go (eqb b 0) (eqb_test b 0) e
  where
    go : (c : Bool) → Test (b ≡ 0) (b ≢ 0) c → if c (not (starts_ff bs)) false ≡ true → b ≡ 0
    go _ (holds p) f = p
    go _ (fails p) f = absurd (let z : ◌≡◌ {A = ℕ} 0 1 = cc in omega arith)

union_end_lem : {A : Type 0} (m : Decoded A) {a : A} {r : List ℕ} {k : ℕ} → union_end m ≡ Decoded.got a r k → m ≡ Decoded.got a (0 ∷ r) k
unfolding union_end
union_end_lem (Decoded.got a [] k) e = absurd (lost e)
union_end_lem (Decoded.got a (b ∷ bs) k) e = let h = passed _ _ (bool_test (ends_here (b ∷ bs))) lost e in cc (h.1, end_zero b bs h.0)
union_end_lem (Decoded.bad n d k) e = absurd (lost e)

pub record_fits : (ts : Tys) (depth : ℕ) (vs : Vals) → depth < max_depth → fits_all ts (depth + 1) vs ≡ fine
    → fits (Ty.Record ts) depth (Val.Record vs) ≡ fine
unfolding fits
record_fits ts depth vs l f = rw (eqb_yes (field_count ts) (val_count vs) (fits_count ts (depth + 1) vs f), ltb_yes depth max_depth l) f

-- ---- the law

pub record Canon (t : Ty) (depth : ℕ) (bs : List ℕ) (a : Val) (r : List ℕ) (n : ℕ) : Type 0 where
  pub bytes : bs ≡ val_bytes depth a ++ r
  pub fit : fits t depth a ≡ fine
  pub sound : Sound a
  pub count : n ≡ begun a

pub record Canons (ts : Tys) (depth : ℕ) (bs : List ℕ) (vs : Vals) (r : List ℕ) (n : ℕ) : Type 0 where
  pub bytes : bs ≡ vals_bytes depth vs ++ 0 ∷ r
  pub fit : fits_all ts depth vs ≡ fine
  pub sound : AllSound vs
  pub count : n ≡ begun_all vs

pub record CanonUnion (alts : Alts) (depth tag : ℕ) (bs : List ℕ) (a : Val) (r : List ℕ) (n : ℕ) : Type 0 where
  pub payload : Val
  pub whole : a ≡ Val.Union tag payload
  pub bytes : bs ≡ val_bytes (depth + 1) payload ++ 0 ∷ r
  pub fit : fits_union alts depth tag payload ≡ fine
  pub sound : Sound payload
  pub count : n ≡ 1 + begun payload

moved : {t : Ty} {depth : ℕ} {bs cs : List ℕ} {a b : Val} {r : List ℕ} {n m : ℕ} → a ≡ b → n ≡ m → bs ≡ cs → Canon t depth cs b r m
    → Canon t depth bs a r n
moved p q s c = rw (p, q, s) c

moved_all : {ts : Tys} {depth : ℕ} {bs cs : List ℕ} {vs us : Vals} {r s : List ℕ} {n m : ℕ} → vs ≡ us → n ≡ m → bs ≡ cs → r ≡ s
    → Canons ts depth cs us s m → Canons ts depth bs vs r n
moved_all p q s k c = rw (p, q, s, k) c

-- a union behind its mark and its tag
union_whole : {alts : Alts} {depth tag : ℕ} {bs rest more : List ℕ} {a : Val} {r : List ℕ} {n : ℕ} → bs ≡ 0x52 ∷ rest → rest ≡ uint_bytes tag ++ more
    → tag < 2 ^ 64 → CanonUnion alts depth tag more a r n
    → Canon (Ty.Union alts) depth bs a r n
unfolding fits val_bytes begun
union_whole {depth = depth} {tag = tag} {r = r} p q l c =
    let inside : List ℕ = val_bytes (depth + 1) c.payload in
    moved {b = Val.Union tag c.payload} c.whole refl refl
    record {
      bytes = p ∙ ap (λ (x : List ℕ). 0x52 ∷ x) (q ∙ ap (λ (x : List ℕ). uint_bytes tag ++ x) (c.bytes ∙ sym (append_assoc inside (0 ∷ []) r)) ∙ sym (append_assoc (uint_bytes tag) (inside ++ 0 ∷ []) r));
      fit = c.fit;
      sound = (l, c.sound);
      count = c.count;
    }

-- a null that was read
null_back : (depth : ℕ) (bs rest : List ℕ) → null_at depth bs ≡ Read.got tt rest → bs ≡ null_bytes depth ++ rest
unfolding starts_ff
null_back depth [] rest e = absurd (bad_got e)
null_back depth (b ∷ bs) rest e =
    let h = passed _ _ (eqb_test b 0) bad_got e in
    ap (λ (x : ℕ). x ∷ bs) h.0 ∙ go (ltb 0 depth) bs h.1
  where
    go : (c : Bool) (cs : List ℕ) → ◌≡◌ {A = Read (Unit {0})} (if c (if (starts_ff cs) (Read.got tt (drop 1 cs)) (Read.bad UnexpectedTerminator 0)) (Read.got tt cs)) (Read.got tt rest) → 0 ∷ cs ≡ if c (0 ∷ 0xFF ∷ []) (0 ∷ []) ++ rest
    go true [] f = absurd (bad_got f)
    go true (c ∷ cs) f = let g = passed _ _ (eqb_test c 0xFF) bad_got f in ap₂ (λ (x : ℕ) (l : List ℕ). 0 ∷ x ∷ l) g.0 (cc g.1)
    go false cs f = ap (λ (l : List ℕ). 0 ∷ l) (cc)

optional_made : (t : Ty) (depth : ℕ) (v : Val) → fits t depth v ≡ fine → fits (Ty.Optional t) depth v ≡ fine
unfolding fits
optional_made t depth v f = go (eqb (val_kind v) 0)
  where
    go : (b : Bool) → if b fine (fits t depth v) ≡ fine
    go true = refl
    go false = f

blank_whole : {t : Ty} {depth : ℕ} {bs rest : List ℕ} {a : Val} {r : List ℕ} {n : ℕ} → bs ≡ null_bytes depth ++ rest → Decoded.got Val.Null rest 1 ≡ Decoded.got a r n → Canon (Ty.Optional t) depth bs a r n
unfolding fits val_bytes begun
blank_whole {depth = depth} {rest = rest} {r = r} q e =
    let same : rest ≡ r = cc in
    moved {b = Val.Null} {m = 1} (cc) (cc) (q ∙ ap (λ (x : List ℕ). null_bytes depth ++ x) same) record { bytes = refl; fit = refl; sound = tt; count = refl }

mutual
  unfolding fits decode val_bytes begun in_union

  pub canon : (t : Ty) (depth : ℕ) (bs : List ℕ) (a : Val) (r : List ℕ) (n : ℕ) → AllBytes bs → decode t depth bs ≡ Decoded.got a r n
      → Canon t depth bs a r n
  canon Ty.Int depth bs a r n h e =
      let g = scalar_got Val.Int (get_int bs) e in
      let b = int_back bs h g.1 in
      moved g.2 g.3 refl record { bytes = b.0; fit = refl; sound = b.1; count = refl }
  canon Ty.Str depth bs a r n h e =
      let g = scalar_got Val.Str (get_str bs) e in
      let b = str_back bs g.0 r g.1 in
      moved g.2 g.3 refl record { bytes = b.0; fit = refl; sound = (b.1, run_bytes g.0 r (subst AllBytes b.0 h).1); count = refl }
  canon Ty.Bytes depth bs a r n h e =
      let g = scalar_got Val.Bytes (get_bytes bs) e in
      let b = bytes_back bs g.0 r g.1 in
      moved g.2 g.3 refl record { bytes = b; fit = refl; sound = run_bytes g.0 r (subst AllBytes b h).1; count = refl }
  canon (Ty.Ref p) depth bs a r n h e =
      let g = scalar_got Val.Ref (get_ref p bs) e in
      let b = ref_back p bs g.0 r h g.1 in
      moved g.2 g.3 refl record { bytes = b.0; fit = b.2; sound = b.1; count = refl }
  canon (Ty.Record ts) depth bs a r n h e =
      let g = opened_got 0x22 (λ rest. if (ltb depth max_depth) (after 1 Val.Record (decode_group ts (depth + 1) rest)) (Decoded.bad BadRecord 0 1)) bs e in
      let d = passed _ _ (ltb_test depth max_depth) lost g.2 in
      let m = after_got 1 Val.Record (decode_group ts (depth + 1) g.0) d.1 in
      let c = canons ts (depth + 1) g.0 m.0 r m.1 (rw g.1 at h).1 m.2 in
      moved m.3 m.4 g.1
      record {
        bytes = rw append_assoc (ap (λ (x : List ℕ). 0x22 ∷ x) c.bytes);
        fit = record_fits ts depth m.0 d.0 c.fit;
        sound = c.sound;
        count = ap (λ (x : ℕ). 1 + x) c.count;
      }
  canon (Ty.Union alts) depth bs a r n h e =
      let g = opened_got 0x52 (λ rest. with_tag depth (get_uint rest) (λ tag more. decode_union alts depth tag more)) bs e in
      let m = tag_got depth (get_uint g.0) (λ tag more. decode_union alts depth tag more) g.2 in
      let u = uint_back g.0 (rw g.1 at h).1 m.2 in
      let c = canon_union alts depth m.0 m.1 a r n m.3 (bytes_behind (uint_bytes m.0) m.1 (rw u.0 at (rw g.1 at h).1)) m.4 in
      union_whole g.1 u.0 u.1 c
  canon (Ty.Optional t) depth bs a r n h e = go (null_at depth bs) refl e (λ f. canon t depth bs a r n h f)
    where
      go : (m : Read Unit) → null_at depth bs ≡ m → blank_or m (decode t depth bs) ≡ Decoded.got a r n → (decode t depth bs ≡ Decoded.got a r n → Canon t depth bs a r n)
          → Canon (Ty.Optional t) depth bs a r n
      go (Read.got u rest) q f behind = blank_whole (null_back depth bs rest q) f
      go (Read.bad k d) q f behind = let c = behind f in record { bytes = c.bytes; fit = optional_made t depth a c.fit; sound = c.sound; count = c.count }

  pub canons : (ts : Tys) (depth : ℕ) (bs : List ℕ) (vs : Vals) (r : List ℕ) (n : ℕ) → AllBytes bs → decode_group ts depth bs ≡ Decoded.got vs r n
      → Canons ts depth bs vs r n
  canons Tys.NoTy depth [] vs r n h e = absurd (lost e)
  canons Tys.NoTy depth (b ∷ bs) vs r n h e =
      let g = passed _ _ (bool_test (ends_here (b ∷ bs))) lost e in
      let z : b ≡ 0 = end_zero b bs g.0 in
      moved_all {us = Vals.NoVal} {s = bs} {m = 0} (cc g.1) (cc g.1) (ap (λ (x : ℕ). x ∷ bs) z) (cc g.1) record { bytes = refl; fit = refl; sound = tt; count = refl }
  canons (Tys.AddTy t ts) depth [] vs r n h e = absurd (lost e)
  canons (Tys.AddTy t ts) depth (b ∷ bs) vs r n h e =
      let g = failed _ _ (bool_test (ends_here (b ∷ bs))) lost e in
      let m = both_got (decode t depth (b ∷ bs)) (λ rest. decode_group ts depth rest) Vals.AddVal g.1 in
      let c = canon t depth (b ∷ bs) m.0 m.1 m.2 h m.5 in
      let d = canons ts depth m.1 m.3 r m.4 (bytes_behind (val_bytes depth m.0) m.1 (subst AllBytes c.bytes h)) m.6 in
      moved_all m.7 m.8 refl refl
      record {
        bytes = c.bytes ∙ ap (λ (x : List ℕ). val_bytes depth m.0 ++ x) d.bytes ∙ sym (append_assoc (val_bytes depth m.0) (vals_bytes depth m.3) (0 ∷ r));
        fit = rw c.fit d.fit;
        sound = (c.sound, d.sound);
        count = ap₂ ◌+◌ c.count d.count;
      }

  pub canon_union : (alts : Alts) (depth tag : ℕ) (bs : List ℕ) (a : Val) (r : List ℕ) (n : ℕ) → depth < max_depth → AllBytes bs
      → decode_union alts depth tag bs ≡ Decoded.got a r n
      → CanonUnion alts depth tag bs a r n
  canon_union Alts.NoAlt depth tag bs a r n l h e = absurd (lost e)
  canon_union (Alts.AddAlt d t alts) depth tag bs a r n l h e =
      go (eqb d tag) refl e (λ v k f. canon t (depth + 1) bs v (0 ∷ r) k h f) (λ f. canon_union alts depth tag bs a r n l h f)
    where
      go : (c : Bool) → eqb d tag ≡ c → if c (after 1 (Val.Union tag) (union_end (decode t (depth + 1) bs))) (decode_union alts depth tag bs) ≡ Decoded.got a r n
          → ((v : Val) (k : ℕ) → decode t (depth + 1) bs ≡ Decoded.got v (0 ∷ r) k → Canon t (depth + 1) bs v (0 ∷ r) k)
          → (decode_union alts depth tag bs ≡ Decoded.got a r n → CanonUnion alts depth tag bs a r n)
          → CanonUnion (Alts.AddAlt d t alts) depth tag bs a r n
      go true q f one rest =
          let m = after_got 1 (Val.Union tag) (union_end (decode t (depth + 1) bs)) f in
          let c = one m.0 m.1 (union_end_lem (decode t (depth + 1) bs) m.2) in
          record {
            payload = m.0;
            whole = m.3;
            bytes = c.bytes;
            fit = rw (q, ltb_yes depth max_depth l, c.fit);
            sound = c.sound;
            count = m.4 ∙ ap (λ (x : ℕ). 1 + x) c.count;
          }
      go false q f one rest =
          let c = rest f in
          record { payload = c.payload; whole = c.whole; bytes = c.bytes; fit = rw q c.fit; sound = c.sound; count = c.count }

-- Discriminants: a value that fits a type has only discriminants of the type, so they are below 2^32 where the type's are, as on every type sheet.
use mathlib.Core.Path.{◌≡◌, sym}
use mathlib.Core.Logic.{◌≢◌}
use mathlib.Core.Bool.{Bool}
use mathlib.Core.List.{List}
use Prim.Native.Nat.{ℕ, ◌+◌, ◌^◌, ◌<◌}
use lib.Dec.{eqb}
use Rattle.format.specs.Answer.{if, ok}
use Rattle.format.specs.Tree.{Ty, Tys, Alts, Val, Vals, number_in, fields_in, payload_in}
use Rattle.format.specs.Sheet.{field_count, val_count}
use Rattle.format.specs.ValueSheet.{Proper, AllProper}
use Rattle.format.specs.Encode.{max_depth, encode, key_bytes, fits, fits_all, fits_union, in_union, group_at, fine}
use Rattle.format.specs.Decode.{Decoded, decode, decode_key}
use Rattle.format.proofs.Bytes.{AllBytes}
use Rattle.format.proofs.Tests.{Test, holds, fails, ltb_test, eqb_test, passed}
use Rattle.format.proofs.Sound.{Sound, AllSound}
use Rattle.format.proofs.KindLaws.{built}
use Rattle.format.proofs.EncodeLaws.{no_answer, and_fine, accepted, of_kind_lem, key_parts}
use Rattle.format.proofs.RoundLaws.{union_fine, optional_fine}
use Rattle.format.proofs.CanonLaws.{canon}
use Rattle.format.proofs.KeyRound.{key_canon}

-- every discriminant of a type is below 2^32
abbrev mutual
  pub SmallTy : Ty → Type 0
  SmallTy Ty.Int = Unit
  SmallTy Ty.Str = Unit
  SmallTy Ty.Bytes = Unit
  SmallTy (Ty.Ref p) = Unit
  SmallTy (Ty.Record ts) = SmallTys ts
  SmallTy (Ty.Union alts) = SmallAlts alts
  SmallTy (Ty.Optional t) = SmallTy t

  pub SmallTys : Tys → Type 0
  SmallTys Tys.NoTy = Unit
  SmallTys (Tys.AddTy t ts) = SmallTy t × SmallTys ts

  pub SmallAlts : Alts → Type 0
  SmallAlts Alts.NoAlt = Unit
  SmallAlts (Alts.AddAlt e t alts) = (e < 2 ^ 32) × SmallTy t × SmallAlts alts

-- every discriminant of a value is below 2^32
abbrev mutual
  pub Tagged : Val → Type 0
  Tagged Val.Null = Unit
  Tagged (Val.Int w) = Unit
  Tagged (Val.Str s) = Unit
  Tagged (Val.Bytes s) = Unit
  Tagged (Val.Ref r) = Unit
  Tagged (Val.Record vs) = AllTagged vs
  Tagged (Val.Union d v) = (d < 2 ^ 32) × Tagged v

  pub AllTagged : Vals → Type 0
  AllTagged Vals.NoVal = Unit
  AllTagged (Vals.AddVal v vs) = Tagged v × AllTagged vs

mutual
  unfolding fits built

  pub fits_tagged : (t : Ty) (depth : ℕ) (v : Val) → fits t depth v ≡ fine → SmallTy t → Tagged v
  fits_tagged Ty.Int depth v f s = rw (of_kind_lem 1 v _ f).0 tt
  fits_tagged Ty.Str depth v f s = rw (of_kind_lem 2 v _ f).0 tt
  fits_tagged Ty.Bytes depth v f s = rw (of_kind_lem 3 v _ f).0 tt
  fits_tagged (Ty.Ref p) depth v f s = rw (of_kind_lem 4 v _ f).0 tt
  fits_tagged (Ty.Record ts) depth v f s =
      let m = of_kind_lem 5 v _ f in
      let g = passed _ _ (eqb_test (field_count ts) (val_count (fields_in v))) no_answer m.1 in
      let h = passed _ _ (ltb_test depth max_depth) no_answer g.1 in
      rw m.0 (fits_all_tagged ts (depth + 1) (fields_in v) h.1 s)
  fits_tagged (Ty.Union alts) depth v f s = let m = of_kind_lem 6 v _ f in rw m.0 (union_tagged alts depth (number_in v) (payload_in v) m.1 s)
  fits_tagged (Ty.Optional t) depth v f s = optional_fine t depth v f (λ p. rw p tt) (λ h g. fits_tagged t depth v g s)

  pub fits_all_tagged : (ts : Tys) (depth : ℕ) (vs : Vals) → fits_all ts depth vs ≡ fine → SmallTys ts → AllTagged vs
  fits_all_tagged Tys.NoTy depth Vals.NoVal f s = tt
  fits_all_tagged Tys.NoTy depth (Vals.AddVal v vs) f s = absurd (no_answer f)
  fits_all_tagged (Tys.AddTy t ts) depth Vals.NoVal f s = tt
  fits_all_tagged (Tys.AddTy t ts) depth (Vals.AddVal v vs) f s =
      let h = and_fine (fits t depth v) (fits_all ts depth vs) f in
      (fits_tagged t depth v h.0 s.0, fits_all_tagged ts depth vs h.1 s.1)

  union_tagged : (alts : Alts) (depth d : ℕ) (v : Val) → fits_union alts depth d v ≡ fine → SmallAlts alts → (d < 2 ^ 32) × Tagged v
  union_tagged Alts.NoAlt depth d v f s = absurd (no_answer f)
  union_tagged (Alts.AddAlt e t alts) depth d v f s = go (eqb e d) (eqb_test e d) f (λ h. fits_tagged t (depth + 1) v h s.1) (λ h. union_tagged alts depth d v h s.2)
    where
      go : (b : Bool) → Test (e ≡ d) (e ≢ d) b → if b (in_union d (group_at depth (fits t (depth + 1) v))) (fits_union alts depth d v) ≡ fine
          → (fits t (depth + 1) v ≡ fine → Tagged v) → (fits_union alts depth d v ≡ fine → (d < 2 ^ 32) × Tagged v) → (d < 2 ^ 32) × Tagged v
      go _ (holds p) h one rest = (rw (sym p) s.0, one (passed _ _ (ltb_test depth max_depth) no_answer (union_fine d _ h)).1)
      go _ (fails p) h one rest = rest h

-- ---- values that were decoded

pub decode_tagged : (t : Ty) (depth : ℕ) (bs : List ℕ) (v : Val) (r : List ℕ) (n : ℕ) → AllBytes bs → SmallTy t
    → decode t depth bs ≡ Decoded.got v r n → Tagged v
decode_tagged t depth bs v r n h s e = fits_tagged t depth v (canon t depth bs v r n h e).fit s

-- a key's value has a fitting type's discriminants
pub key_tagged : (t : Ty) (v : Val) (x : List ℕ) → key_bytes t v ≡ ok x → SmallTy t → Tagged v
unfolding key_bytes encode
key_tagged Ty.Int v x e s = fits_tagged Ty.Int 0 v (accepted (fits Ty.Int 0 v) e).0 s
key_tagged Ty.Str v x e s = fits_tagged Ty.Str 0 v (accepted (fits Ty.Str 0 v) e).0 s
key_tagged Ty.Bytes v x e s = fits_tagged Ty.Bytes 0 v (accepted (fits Ty.Bytes 0 v) e).0 s
key_tagged (Ty.Ref p) v x e s = fits_tagged (Ty.Ref p) 0 v (accepted (fits (Ty.Ref p) 0 v) e).0 s
key_tagged (Ty.Record ts) v x e s = let p = key_parts ts v x e in rw p.0 (fits_all_tagged ts 0 (fields_in v) p.1 s)
key_tagged (Ty.Union alts) v x e s = fits_tagged (Ty.Union alts) 0 v (accepted (fits (Ty.Union alts) 0 v) e).0 s
key_tagged (Ty.Optional t) v x e s = fits_tagged (Ty.Optional t) 0 v (accepted (fits (Ty.Optional t) 0 v) e).0 s

pub decode_key_tagged : (t : Ty) (x : List ℕ) (v : Val) (r : List ℕ) (n : ℕ) → AllBytes x → SmallTy t → decode_key t x ≡ Decoded.got v r n → Tagged v
decode_key_tagged t x v r n h s e = key_tagged t v x (key_canon t x v r n h e).bytes s

-- ---- what a sheet of a value asks for besides

mutual
  unfolding Proper

  pub tagged_proper : (v : Val) → Sound v → Tagged v → Proper v
  tagged_proper Val.Null s t = tt
  tagged_proper (Val.Int w) s t = tt
  tagged_proper (Val.Str x) s t = s.0
  tagged_proper (Val.Bytes x) s t = tt
  tagged_proper (Val.Ref r) s t = tt
  tagged_proper (Val.Record vs) s t = tagged_all_proper vs s t
  tagged_proper (Val.Union d v) s t = (t.0, tagged_proper v s.1 t.1)

  pub tagged_all_proper : (vs : Vals) → AllSound vs → AllTagged vs → AllProper vs
  tagged_all_proper Vals.NoVal s t = tt
  tagged_all_proper (Vals.AddVal v vs) s t = (tagged_proper v s.0 t.0, tagged_all_proper vs s.1 t.1)

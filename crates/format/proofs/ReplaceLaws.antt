-- A field of a key replaced: the splice of its bytes is the key of the changed fields, refused exactly where the new value is.
use mathlib.Core.Path.{◌≡◌, refl, ap, ◌∙◌}
use mathlib.Core.List.{List, ◌++◌, append_assoc}
use Prim.Native.Nat.{ℕ, zero, suc, ◌<◌}
use native.Mathlib.Omega.{arith}
use lib.Seq.{take-append_seam, drop-append_seam, drop-append-add}
use Rattle.format.specs.Answer.{Answer, ok, refused, and_then}
use Rattle.format.specs.Tree.{Ty, Tys, Val, Vals}
use Rattle.format.specs.Sheet.{val_count}
use Rattle.format.specs.Encode.{val_bytes, vals_bytes, encode_key, fits, fits_all, fine}
use Rattle.format.specs.Bounds.{firsts, rests, first_bytes}
use Rattle.format.specs.Replace.{field_at, set_field, spliced}
use Rattle.format.specs.Calls.{replaced}
use Rattle.format.specs.Spans.{field_type}
use Rattle.format.proofs.Sound.{Sound, AllSound}
use Rattle.format.proofs.EncodeLaws.{and_fine, key_ok}

-- the key's bytes: those before the field, the field's, and those behind
pub field_split : (k : ℕ) (vs : Vals) → k < val_count vs
    → vals_bytes 0 vs ≡ first_bytes k vs ++ (val_bytes 0 (field_at k vs) ++ vals_bytes 0 (rests (suc k) vs))
unfolding val_count vals_bytes firsts rests field_at
field_split k Vals.NoVal l = absurd (omega arith)
field_split zero (Vals.AddVal v vs) l = refl
field_split (suc k) (Vals.AddVal v vs) l = rw (append_assoc, field_split k vs (omega arith))

pub field_set : (k : ℕ) (u : Val) (vs : Vals) → k < val_count vs
    → vals_bytes 0 (set_field k u vs) ≡ first_bytes k vs ++ (val_bytes 0 u ++ vals_bytes 0 (rests (suc k) vs))
unfolding val_count vals_bytes firsts rests set_field
field_set k u Vals.NoVal l = absurd (omega arith)
field_set zero u (Vals.AddVal v vs) l = refl
field_set (suc k) u (Vals.AddVal v vs) l = rw (append_assoc, field_set k u vs (omega arith))

-- the splice of a key is the key of the changed fields
pub splice_is : (k : ℕ) (u : Val) (vs : Vals) → k < val_count vs → spliced k u vs (vals_bytes 0 vs) ≡ vals_bytes 0 (set_field k u vs)
unfolding spliced
splice_is k u vs l = rw (field_split k vs l, field_set k u vs l, take-append_seam, drop-append-add, drop-append_seam)

-- so a replacement's key is the one that encode_key writes afresh, and its refusal that of encode_key
pub replaced_is : (ts : Tys) (k : ℕ) (u : Val) (vs : Vals) → k < val_count vs
    → replaced ts k u vs (vals_bytes 0 vs) ≡ encode_key (Ty.Record ts) (Val.Record (set_field k u vs))
replaced_is ts k u vs l = go (encode_key (Ty.Record ts) (Val.Record (set_field k u vs))) refl
  where
    go : (a : Answer (List ℕ)) → encode_key (Ty.Record ts) (Val.Record (set_field k u vs)) ≡ a
        → and_then a (λ x. ok (spliced k u vs (vals_bytes 0 vs))) ≡ a
    go (ok x) e = ap ok (splice_is k u vs l ∙ (key_ok ts (set_field k u vs) x e).1)
    go (refused n d) e = refl

then_fine : (g : Answer Unit) → and_then g (λ u. fine) ≡ g
then_fine (ok u) = refl
then_fine (refused n d) = refl

-- what refuses the changed record is what refuses the new value under its field's type
pub refit : (ts : Tys) (depth k : ℕ) (u : Val) (vs : Vals) → k < val_count vs → fits_all ts depth vs ≡ fine
    → fits_all ts depth (set_field k u vs) ≡ fits (field_type k ts) depth u
unfolding val_count fits_all set_field field_type
refit ts depth k u Vals.NoVal l f = absurd (omega arith)
refit Tys.NoTy depth zero u (Vals.AddVal v vs) l f = cc
refit Tys.NoTy depth (suc k) u (Vals.AddVal v vs) l f = cc
refit (Tys.AddTy t ts) depth zero u (Vals.AddVal v vs) l f = rw (and_fine (fits t depth v) (fits_all ts depth vs) f).1 (then_fine (fits t depth u))
refit (Tys.AddTy t ts) depth (suc k) u (Vals.AddVal v vs) l f =
    let h = and_fine (fits t depth v) (fits_all ts depth vs) f in
    rw h.0 (refit ts depth k u vs (omega arith) h.1)

pub set_count : (k : ℕ) (u : Val) (vs : Vals) → val_count (set_field k u vs) ≡ val_count vs
unfolding val_count set_field
set_count k u Vals.NoVal = refl
set_count zero u (Vals.AddVal v vs) = refl
set_count (suc k) u (Vals.AddVal v vs) = rw (set_count k u vs)

pub set_sound : (k : ℕ) (u : Val) (vs : Vals) → Sound u → AllSound vs → AllSound (set_field k u vs)
unfolding set_field
set_sound k u Vals.NoVal su s = s
set_sound zero u (Vals.AddVal v vs) su s = (su, s.1)
set_sound (suc k) u (Vals.AddVal v vs) su s = (s.0, set_sound k u vs su s.1)

pub field_sound : (k : ℕ) (vs : Vals) → AllSound vs → Sound (field_at k vs)
unfolding field_at
field_sound k Vals.NoVal s = tt
field_sound zero (Vals.AddVal v vs) s = s.0
field_sound (suc k) (Vals.AddVal v vs) s = field_sound k vs s.1

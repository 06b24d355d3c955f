-- Whole values and keys: encoding and decoding undo each other, with the count of values begun.
use mathlib.Core.Path.{◌≡◌, refl, sym, ap, ap₂, ◌∙◌, subst}
use mathlib.Core.Bool.{false}
use mathlib.Core.List.{List, [], ◌∷◌, ◌++◌, append_assoc, append-nil}
use Prim.Native.Nat.{ℕ, ◌+◌}
use native.Mathlib.Nat.{zero-add}
use Rattle.format.specs.Answer.{ok}
use Rattle.format.specs.Tree.{Ty, Tys, Val, Vals, fields_in}
use Rattle.format.specs.Encode.{val_bytes, vals_bytes, encode, encode_typed, key_bytes, fits, fits_all, fine}
use Rattle.format.specs.Read.{starts_ff}
use Rattle.format.specs.Decode.{Decoded, after, decode, decode_bare, decode_typed, decode_key, whole}
use Rattle.format.proofs.Bytes.{AllBytes, bytes_behind}
use Rattle.format.proofs.Begun.{begun, begun_all}
use Rattle.format.proofs.Sound.{Sound, AllSound}
use Rattle.format.proofs.EncodeLaws.{and_fine, accepted, key_parts, key_made}
use Rattle.format.proofs.RoundLaws.{starts_vals, round}
use Rattle.format.proofs.CanonLaws.{lost, after_got, both_got, canon}

nil_starts : starts_ff [] ≡ false
unfolding starts_ff
nil_starts = refl

whole_got : {A : Type 0} (m : Decoded A) {a : A} {r : List ℕ} {n : ℕ} → whole m ≡ Decoded.got a r n → (m ≡ Decoded.got a [] n) × (r ≡ [])
unfolding whole
whole_got (Decoded.got a [] k) e = (cc, cc)
whole_got (Decoded.got a (b ∷ bs) k) e = absurd (lost e)
whole_got (Decoded.bad n d k) e = absurd (lost e)

-- ---- one value with nothing behind it

pub typed_round : (t : Ty) (v : Val) (x : List ℕ) → Sound v → encode_typed t v ≡ ok x → decode_typed t x ≡ Decoded.got v [] (begun v)
unfolding encode whole
typed_round t v x s e =
    let h = accepted (fits t 0 v) e in
    rw (← h.1, rw append-nil at (round t 0 v [] h.0 s nil_starts))

-- what a value was decoded from is its encoding
pub record TypedCanon (t : Ty) (x : List ℕ) (v : Val) (r : List ℕ) (n : ℕ) : Type 0 where
  pub bytes : encode_typed t v ≡ ok x
  pub sound : Sound v
  pub used_up : r ≡ []
  pub count : n ≡ begun v

pub typed_canon : (t : Ty) (x : List ℕ) (v : Val) (r : List ℕ) (n : ℕ) → AllBytes x → decode_typed t x ≡ Decoded.got v r n → TypedCanon t x v r n
unfolding encode
typed_canon t x v r n h e =
    let w = whole_got (decode t 0 x) e in
    let c = canon t 0 x v [] n h w.0 in
    record { bytes = rw c.fit (ap ok (sym (c.bytes ∙ append-nil (val_bytes 0 v)))); sound = c.sound; used_up = w.1; count = c.count }

-- ---- bare fields

bare_round : (ts : Tys) (vs : Vals) (r : List ℕ) → fits_all ts 0 vs ≡ fine → AllSound vs → starts_ff r ≡ false
    → decode_bare ts (vals_bytes 0 vs ++ r) ≡ Decoded.got vs r (begun_all vs)
unfolding decode_bare fits_all vals_bytes begun_all
bare_round Tys.NoTy Vals.NoVal r f s e = refl
bare_round Tys.NoTy (Vals.AddVal v vs) r f s e = cc
bare_round (Tys.AddTy t ts) Vals.NoVal r f s e = cc
bare_round (Tys.AddTy t ts) (Vals.AddVal v vs) r f s e =
    let h = and_fine (fits t 0 v) (fits_all ts 0 vs) f in
    rw (append_assoc, round t 0 v (vals_bytes 0 vs ++ r) h.0 s.0 (starts_vals 0 vs s.1 r e), bare_round ts vs r h.1 s.1 e)

pub record Bare (ts : Tys) (bs : List ℕ) (vs : Vals) (r : List ℕ) (n : ℕ) : Type 0 where
  pub bytes : bs ≡ vals_bytes 0 vs ++ r
  pub fit : fits_all ts 0 vs ≡ fine
  pub sound : AllSound vs
  pub count : n ≡ begun_all vs

moved_bare : {ts : Tys} {bs : List ℕ} {vs us : Vals} {r s : List ℕ} {n m : ℕ} → vs ≡ us → n ≡ m → r ≡ s → Bare ts bs us s m → Bare ts bs vs r n
moved_bare p q k c = rw (p, q, k) c

pub bare_canon : (ts : Tys) (bs : List ℕ) (vs : Vals) (r : List ℕ) (n : ℕ) → AllBytes bs → decode_bare ts bs ≡ Decoded.got vs r n → Bare ts bs vs r n
unfolding decode_bare fits_all vals_bytes begun_all
bare_canon Tys.NoTy bs vs r n h e = moved_bare {us = Vals.NoVal} {s = bs} {m = 0} (cc) (cc) (cc) record { bytes = refl; fit = refl; sound = tt; count = refl }
bare_canon (Tys.AddTy t ts) bs vs r n h e =
    let m = both_got (decode t 0 bs) (λ rest. decode_bare ts rest) Vals.AddVal e in
    let c = canon t 0 bs m.0 m.1 m.2 h m.5 in
    let d = bare_canon ts m.1 m.3 r m.4 (bytes_behind (val_bytes 0 m.0) m.1 (subst AllBytes c.bytes h)) m.6 in
    moved_bare m.7 m.8 refl
    record {
      bytes = c.bytes ∙ ap (λ (x : List ℕ). val_bytes 0 m.0 ++ x) d.bytes ∙ sym (append_assoc (val_bytes 0 m.0) (vals_bytes 0 m.3) r);
      fit = rw c.fit d.fit;
      sound = (c.sound, d.sound);
      count = ap₂ ◌+◌ c.count d.count;
    }

-- ---- keys

-- the values that a key's decoding begins: a bare record counts none
unfoldable pub key_begun : Ty → Val → ℕ
key_begun Ty.Int v = begun v
key_begun Ty.Str v = begun v
key_begun Ty.Bytes v = begun v
key_begun (Ty.Ref p) v = begun v
key_begun (Ty.Record ts) v = begun_all (fields_in v)
key_begun (Ty.Union alts) v = begun v
key_begun (Ty.Optional t) v = begun v

pub record_round : (ts : Tys) (vs : Vals) → AllSound vs → fits_all ts 0 vs ≡ fine
    → decode_key (Ty.Record ts) (vals_bytes 0 vs) ≡ Decoded.got (Val.Record vs) [] (begun_all vs)
unfolding decode_key whole
record_round ts vs s f = rw (rw append-nil at (bare_round ts vs [] f s nil_starts), zero-add)

pub key_round : (t : Ty) (v : Val) (x : List ℕ) → Sound v → key_bytes t v ≡ ok x → decode_key t x ≡ Decoded.got v [] (key_begun t v)
unfolding key_bytes decode_key key_begun
key_round Ty.Int v x s e = typed_round Ty.Int v x s e
key_round Ty.Str v x s e = typed_round Ty.Str v x s e
key_round Ty.Bytes v x s e = typed_round Ty.Bytes v x s e
key_round (Ty.Ref p) v x s e = typed_round (Ty.Ref p) v x s e
key_round (Ty.Record ts) v x s e =
    let p = key_parts ts v x e in
    rw (← p.2) (record_round ts (fields_in v) (subst Sound p.0 s) p.1 ∙ ap (λ (u : Val). Decoded.got u [] (begun_all (fields_in v))) (sym p.0))
key_round (Ty.Union alts) v x s e = typed_round (Ty.Union alts) v x s e
key_round (Ty.Optional t) v x s e = typed_round (Ty.Optional t) v x s e

-- what a key was decoded from is its encoding
pub record KeyCanon (t : Ty) (x : List ℕ) (v : Val) (r : List ℕ) (n : ℕ) : Type 0 where
  pub bytes : key_bytes t v ≡ ok x
  pub sound : Sound v
  pub used_up : r ≡ []
  pub count : n ≡ key_begun t v

-- a type whose key is as encode_typed has it
as_key : {t : Ty} {x : List ℕ} {v : Val} {r : List ℕ} {n : ℕ} → key_bytes t v ≡ encode_typed t v → key_begun t v ≡ begun v → TypedCanon t x v r n
    → KeyCanon t x v r n
as_key p q c = record { bytes = p ∙ c.bytes; sound = c.sound; used_up = c.used_up; count = c.count ∙ sym q }

pub key_canon : (t : Ty) (x : List ℕ) (v : Val) (r : List ℕ) (n : ℕ) → AllBytes x → decode_key t x ≡ Decoded.got v r n → KeyCanon t x v r n
unfolding key_bytes decode_key key_begun
key_canon Ty.Int x v r n h e = as_key refl refl (typed_canon Ty.Int x v r n h e)
key_canon Ty.Str x v r n h e = as_key refl refl (typed_canon Ty.Str x v r n h e)
key_canon Ty.Bytes x v r n h e = as_key refl refl (typed_canon Ty.Bytes x v r n h e)
key_canon (Ty.Ref p) x v r n h e = as_key refl refl (typed_canon (Ty.Ref p) x v r n h e)
key_canon (Ty.Record ts) x v r n h e =
    let w = whole_got (after 0 Val.Record (decode_bare ts x)) e in
    let m = after_got 0 Val.Record (decode_bare ts x) w.0 in
    let c = bare_canon ts x m.0 [] m.1 h m.2 in
    record {
      bytes = ap (key_bytes (Ty.Record ts)) m.3 ∙ key_made ts m.0 c.fit ∙ ap ok (sym (c.bytes ∙ append-nil (vals_bytes 0 m.0)));
      sound = subst Sound (sym m.3) c.sound;
      used_up = w.1;
      count = m.4 ∙ zero-add m.1 ∙ c.count ∙ ap (λ (u : Val). begun_all (fields_in u)) (sym m.3);
    }
key_canon (Ty.Union alts) x v r n h e = as_key refl refl (typed_canon (Ty.Union alts) x v r n h e)
key_canon (Ty.Optional t) x v r n h e = as_key refl refl (typed_canon (Ty.Optional t) x v r n h e)

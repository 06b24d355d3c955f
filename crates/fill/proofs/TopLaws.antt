-- Laws of the calls: what a key decodes to is what its bytes hold, so the walk fills it.
use Rattle.std.proofs.Common.{◌≡◌, ℕ, ◌<◌, ◌≤◌, List, [], ◌∷◌, ◌++◌, length, drop, sym, refl, ap, ◌∙◌, append-nil, zero-add, arith}
use Rattle.format.specs.Answer.{Answer, and_then}
use Rattle.format.specs.Tree.{Ty, Tys, Val, Vals}
use Rattle.format.specs.Sheet.{val_count, val_words, vals_words, val_pool, vals_pool}
use Rattle.format.specs.Encode.{val_bytes, vals_bytes, fits, fits_all, fine}
use Rattle.format.specs.Decode.{Decoded, decode, decode_bare}
use Rattle.format.specs.Calls.{over}
use Rattle.format.specs.Fields.{put}
use Rattle.format.proofs.Bytes.{AllBytes}
use Rattle.format.proofs.CanonLaws.{canon}
use Rattle.format.proofs.KeyRound.{bare_canon}
use Rattle.fill.proofs.PlaceLaws.{put_before}
use Rattle.fill.specs.declared.Filled.{Filled}
use Rattle.fill.specs.Fill.{lent, standing, fields_end, FieldsFilled, ValueFilled, BareFilled}

at_front : (l m xs : List ℕ) → m ≡ put l 0 xs → m ≡ over xs l
at_front l m xs e = e ∙ ap (λ (k : ℕ). xs ++ drop k l) (zero-add (length xs))

module _ {bytes win pin : List ℕ} {r : Filled} {pout : List ℕ} (ab : AllBytes bytes) where
  pub value_filled : {wout : List ℕ} → FieldsFilled bytes (standing 0 0 0 0) 0 (lent win pin) r (lent wout pout) → ValueFilled bytes win pin wout pout
  unfolding fits vals_bytes vals_words vals_pool fields_end
  value_filled {wout} f = record { fills = go }
    where
      go : (t : Ty) (v : Val) (k : ℕ) → decode t 0 bytes ≡ Decoded.got v [] k → length (val_words v) ≤ length win → length (val_pool v) ≤ length pin
          → (wout ≡ over (val_words v) win) × (pout ≡ over (val_pool v) pin)
      go t v k e lw lp =
          let c = canon t 0 bytes v [] k ab e in
          let b : bytes ≡ (val_bytes 0 v ++ []) ++ [] = c.bytes ∙ sym (append-nil (val_bytes 0 v ++ [])) in
          let nw = append-nil (val_words v) in
          let np = append-nil (val_pool v) in
          let all : fits_all (Tys.AddTy t Tys.NoTy) 0 (Vals.AddVal v Vals.NoVal) ≡ fine = ap (λ (q : Answer Unit). and_then q (λ u. fine)) c.fit in
          let d = f.says.row (Tys.AddTy t Tys.NoTy) (Vals.AddVal v Vals.NoVal) [] all (c.sound, tt) refl b (omega (arith, ap length nw)) (omega (arith, ap length np)) in
          (at_front win wout (val_words v) (d.0.written ∙ ap (put win 0) nw), at_front pin pout (val_pool v) (d.0.pooled ∙ ap (put pin 0) np))

  pub bare_filled : {w1 wout : List ℕ} → FieldsFilled bytes (standing 0 2 0 0) 0 (lent win pin) r (lent w1 pout) → wout ≡ put w1 0 (5 ∷ r.count ∷ []) → BareFilled bytes win pin wout pout
  unfolding val_words val_pool fields_end
  bare_filled {w1} {wout} f ew = record { fills = go }
    where
      go : (ts : Tys) (vs : Vals) (k : ℕ) → decode_bare ts bytes ≡ Decoded.got vs [] k → length (val_words (Val.Record vs)) ≤ length win → length (val_pool (Val.Record vs)) ≤ length pin
          → (wout ≡ over (val_words (Val.Record vs)) win) × (pout ≡ over (val_pool (Val.Record vs)) pin)
      go ts vs k e lw lp =
          let c = bare_canon ts bytes vs [] k ab e in
          let d = f.says.row ts vs [] c.fit c.sound refl c.bytes (omega arith) (omega arith) in
          let n : r.count ≡ val_count vs = omega (arith, d.1) in
          let ws : wout ≡ put win 0 (5 ∷ val_count vs ∷ vals_words vs) =
          ew ∙ ap (λ (j : ℕ). put w1 0 (5 ∷ j ∷ [])) n ∙ ap (λ (l : List ℕ). put l 0 (5 ∷ val_count vs ∷ [])) d.0.written ∙ put_before win 0 (5 ∷ val_count vs ∷ []) (vals_words vs) (omega arith) in
          (at_front win wout (5 ∷ val_count vs ∷ vals_words vs) ws, at_front pin pout (vals_pool vs) d.0.pooled)

-- a record has two words at least
pub bare_short : {bytes win pin : List ℕ} → length win < 2 → BareFilled bytes win pin win pin
unfolding val_words
bare_short s = record { fills = λ ts vs k e lw lp. absurd (omega arith) }

-- Text goes by characters: the step from one to the next, and text in pieces.
use Prim.Native.Nat.{ℕ, zero, suc, ◌+◌, ◌≤◌, ◌<◌}
use mathlib.Core.List.{List, [], ◌∷◌, ◌++◌}
use mathlib.Core.Bool.{Bool, true, false, ◌&&◌}
use mathlib.Core.Path.{◌≡◌, refl, ap, ◌∙◌}
use native.Mathlib.Omega.{arith}
use lib.ListN.{length, get_or, drop, drop_of_length-le, length-drop}
use lib.Seq.{slice, drop-drop}
use borrow.Author.Tests.{lt-ltb}
use Rattle.format.specs.Utf8.{first_char, width_of, onward, text_from, utf8}
use Rattle.format.proofs.Tests.{Test, holds, fails, ltb_test}
use Rattle.blocks.specs.Ascii.{Low}
use Rattle.blocks.proofs.Spans.{drop_split, span_slice}
use Rattle.text.proofs.Fronts.{width_fits, char_append, char_zero}

pub text_skip : (k : ℕ) (s : List ℕ) → text_from k s ≡ utf8 (drop k s)
unfolding text_from
text_skip zero s = refl
text_skip (suc k) [] = refl
text_skip (suc k) (b ∷ r) = text_skip k r

pub empty_text : utf8 [] ≡ true
unfolding text_from
empty_text = refl

-- no text where no character is at the front
pub not_text : (b : ℕ) (r : List ℕ) → width_of (first_char (b ∷ r)) ≡ 0 → utf8 (b ∷ r) ≡ false
unfolding text_from
not_text b r e = ap (λ (n : ℕ). onward n (λ k. text_from k r)) e

-- text behind the first character
pub text_on : (b : ℕ) (r : List ℕ) → (width_of (first_char (b ∷ r)) ≡ 0 → ⊥) → utf8 (b ∷ r) ≡ utf8 (drop (width_of (first_char (b ∷ r))) (b ∷ r))
unfolding text_from
text_on b r z = go (width_of (first_char (b ∷ r))) z
  where
    go : (n : ℕ) → (n ≡ 0 → ⊥) → onward n (λ k. text_from k r) ≡ utf8 (drop n (b ∷ r))
    go zero h = absurd (h refl)
    go (suc k) h = text_skip k r

-- ---- at a place of the bytes

module _ (s : List ℕ) (at w : ℕ) (e : w ≡ width_of (first_char (drop at s))) where
  pub step_fits : at ≤ length s → at + w ≤ length s
  step_fits h = omega (arith, width_fits (drop at s), length-drop at s)

  pub step_on_lem : (w ≡ 0 → ⊥) → utf8 (drop at s) ≡ utf8 (drop (at + w) s)
  unfolding first_char
  step_on_lem z = rw (e, ← drop-drop) (go (drop at s) (λ y. z (e ∙ y)))
    where
      go : (l : List ℕ) → (width_of (first_char l) ≡ 0 → ⊥) → utf8 l ≡ utf8 (drop (width_of (first_char l)) l)
      go [] n = absurd (n refl)
      go (b ∷ r) n = text_on b r n

pub step_stops : (s : List ℕ) (at : ℕ) → at < length s → width_of (first_char (drop at s)) ≡ 0 → utf8 (drop at s) ≡ false
step_stops s at h e = go (drop at s) (omega (arith, length-drop at s)) e
  where
    go : (l : List ℕ) → 0 < length l → width_of (first_char l) ≡ 0 → utf8 l ≡ false
    go [] n y = absurd (omega arith)
    go (b ∷ r) n y = not_text b r y

pub ends_well : (s : List ℕ) (at : ℕ) → length s ≤ at → utf8 (drop at s) ≡ true
ends_well s at h = ap utf8 (drop_of_length-le s h) ∙ empty_text

-- a block that begins at a place or behind it ends behind the place
pub moves_on : (at from stop n : ℕ) → at < n → at ≤ from → from ≤ stop → (from < n → from < stop) → at < stop
moves_on at from stop n h a b f = go (ltb_test from n)
  where
    go : {t : Bool} → Test (from < n) (n ≤ from) t → at < stop
    go (holds l) = omega (arith, f l)
    go (fails l) = omega arith

-- ---- in pieces

-- text goes on behind ASCII
pub text_low : (t u : List ℕ) → ((k : ℕ) → k < length t → get_or t k 0 < 0x80) → utf8 (t ++ u) ≡ utf8 u
unfolding text_from first_char
text_low [] u h = refl
text_low (b ∷ t) u h = rw (lt-ltb b 0x80 (h 0 (omega arith))) (text_low t u (λ k l. h (suc k) (omega arith)))

pub text_chunk : (s : List ℕ) (i z : ℕ) → i ≤ z → z ≤ length s → Low s i z → utf8 (drop i s) ≡ utf8 (drop z s)
text_chunk s i z h l low = ap utf8 (drop_split s i z h l) ∙ text_low (slice i z s) (drop z s) (span_slice s (λ b. b < 0x80) i z l low)

-- text goes on behind text
append_from : (k : ℕ) (s t : List ℕ) → k ≤ length s → text_from k s ≡ true → text_from k (s ++ t) ≡ utf8 t
unfolding text_from
append_from zero [] t h e = refl
append_from (suc k) [] t h e = absurd (omega arith)
append_from (suc k) (b ∷ r) t h e = append_from k r t (omega arith) e
append_from zero (b ∷ r) t h e = go (width_of (first_char (b ∷ r))) refl e (λ k l d. append_from k r t l d)
  where
    go : (n : ℕ) → width_of (first_char (b ∷ r)) ≡ n → onward n (λ k. text_from k r) ≡ true → ((k : ℕ) → k ≤ length r → text_from k r ≡ true → text_from k (r ++ t) ≡ utf8 t)
        → onward (width_of (first_char (b ∷ (r ++ t)))) (λ k. text_from k (r ++ t)) ≡ utf8 t
    go zero p q ih = let z : ◌≡◌ {A = ℕ} 0 1 = cc in absurd (omega arith)
    go (suc k) p q ih =
        let c : width_of (first_char (b ∷ (r ++ t))) ≡ suc k = ap width_of (char_append (b ∷ r) t (λ y. omega arith)) ∙ p in
        ap (λ (n : ℕ). onward n (λ k. text_from k (r ++ t))) c ∙ ih k (omega (arith, width_fits (b ∷ r))) q

pub text_append : (s t : List ℕ) → utf8 s ≡ true → utf8 (s ++ t) ≡ utf8 t
text_append s t e = append_from 0 s t (omega arith) e

-- a 00 parts text: both sides are judged alone
zero_from : (k : ℕ) (s t : List ℕ) → k ≤ length s → text_from k (s ++ 0 ∷ t) ≡ (text_from k s && utf8 t)
unfolding text_from first_char
zero_from zero [] t h = refl
zero_from (suc k) [] t h = absurd (omega arith)
zero_from (suc k) (b ∷ r) t h = zero_from k r t (omega arith)
zero_from zero (b ∷ r) t h =
    ap (λ (n : ℕ). onward n (λ k. text_from k (r ++ 0 ∷ t))) (ap width_of (char_zero b r t)) ∙ go (width_of (first_char (b ∷ r))) (width_fits (b ∷ r)) (λ k l. zero_from k r t l)
  where
    go : (n : ℕ) → n ≤ length (b ∷ r) → ((k : ℕ) → k ≤ length r → text_from k (r ++ 0 ∷ t) ≡ (text_from k r && utf8 t))
        → onward n (λ k. text_from k (r ++ 0 ∷ t)) ≡ (onward n (λ k. text_from k r) && utf8 t)
    go zero l ih = refl
    go (suc k) l ih = ih k (omega arith)

pub text_zero : (s t : List ℕ) → utf8 (s ++ 0 ∷ t) ≡ (utf8 s && utf8 t)
text_zero s t = zero_from 0 s t (omega arith)

-- The lead byte tells how wide a character is, as the string reader takes it.
use Prim.Native.Nat.{ℕ, zero, suc, ◌≤◌, ◌<◌}
use mathlib.Core.List.{List, [], ◌∷◌}
use mathlib.Core.Bool.{Bool, true, false}
use mathlib.Core.Logic.{◌⊎◌, inl, inr}
use mathlib.Core.Path.{◌≡◌, refl, sym, ap, ◌∙◌}
use native.Mathlib.Omega.{arith}
use lib.Dec.{ltb, eqb}
use lib.ListN.{length, take, drop, drop_of_length-le, length-take}
use borrow.Author.Tests.{ltb-true, eq-eqb, ne_eqb}
use Rattle.format.specs.Utf8.{Char, char, none, when, first_char, second, third, fourth, width_of, within, utf8, is2, is3, is4, code2, code3, code4}
use Rattle.format.specs.Chars.{lead_width}
use Rattle.format.specs.Answer.{if}
use Rattle.text.proofs.Fronts.{char_take}
use Rattle.text.proofs.Texts.{empty_text, not_text, text_on}
use Rattle.text.proofs.Ranges.{inside, below, above, bounds2, bounds3, bounds4}

module _ (b : ℕ) where
  pub lead_one : b < 0xC0 → lead_width b ≡ 1
  unfolding lead_width
  lead_one h = rw (below 0xC0 0xDF b h, below 0xE0 0xEF b (omega arith), below 0xF0 0xF7 b (omega arith))

  pub lead_two : 0xC0 ≤ b → b ≤ 0xDF → lead_width b ≡ 2
  unfolding lead_width
  lead_two l h = rw (inside 0xC0 0xDF b l h)

  pub lead_three : 0xE0 ≤ b → b ≤ 0xEF → lead_width b ≡ 3
  unfolding lead_width
  lead_three l h = rw (above 0xC0 0xDF b (omega arith), inside 0xE0 0xEF b l h)

  pub lead_four : 0xF0 ≤ b → b ≤ 0xF7 → lead_width b ≡ 4
  unfolding lead_width
  lead_four l h = rw (above 0xC0 0xDF b (omega arith), above 0xE0 0xEF b (omega arith), inside 0xF0 0xF7 b l h)

-- what holds of a character's width where its test holds, and of the cases behind it
widths : (t : Bool) (w k m : ℕ) (y : Char) → (t ≡ true → w ≡ m) → (width_of y ≡ 0) ⊎ (width_of y ≡ m) → (width_of (when t (char w k) y) ≡ 0) ⊎ (width_of (when t (char w k) y) ≡ m)
widths true w k m y f g = inr (f refl)
widths false w k m y f g = g

fourth_lead : (a b c : ℕ) (r : List ℕ) → (width_of (fourth a b c r) ≡ 0) ⊎ (width_of (fourth a b c r) ≡ lead_width a)
unfolding fourth
fourth_lead a b c [] = inl refl
fourth_lead a b c (d ∷ r) =
    widths (is4 a b c d) 4 (code4 a b c d) (lead_width a) none (λ t. let h = bounds4 a b c d refl t in sym (lead_four a h.0 (omega arith))) (inl refl)

third_lead : (a b : ℕ) (r : List ℕ) → (width_of (third a b r) ≡ 0) ⊎ (width_of (third a b r) ≡ lead_width a)
unfolding third
third_lead a b [] = inl refl
third_lead a b (c ∷ r) =
    widths (is3 a b c) 3 (code3 a b c) (lead_width a) (fourth a b c r) (λ t. let h = bounds3 a b c refl t in sym (lead_three a h.0 h.1)) (fourth_lead a b c r)

second_lead : (a : ℕ) (r : List ℕ) → (width_of (second a r) ≡ 0) ⊎ (width_of (second a r) ≡ lead_width a)
unfolding second
second_lead a [] = inl refl
second_lead a (b ∷ r) =
    widths (is2 a b) 2 (code2 a b) (lead_width a) (third a b r) (λ t. let h = bounds2 a b refl t in sym (lead_two a (omega arith) h.1)) (third_lead a b r)

-- a character has its lead's width
pub char_lead : (b : ℕ) (r : List ℕ) → (width_of (first_char (b ∷ r)) ≡ 0) ⊎ (width_of (first_char (b ∷ r)) ≡ lead_width b)
unfolding first_char
char_lead b r = widths (ltb b 0x80) 1 b (lead_width b) (second b r) (λ t. let h = ltb-true b 0x80 t in sym (lead_one b (omega arith))) (second_lead b r)

pub lead_some : (b : ℕ) → 0 < lead_width b
unfolding lead_width
lead_some b = go (within 0xC0 0xDF b) (within 0xE0 0xEF b) (within 0xF0 0xF7 b)
  where
    go : (x y z : Bool) → 0 < if x 2 (if y 3 (if z 4 1))
    go true y z = omega arith
    go false true z = omega arith
    go false false true = omega arith
    go false false false = omega arith

-- the lead's bytes are text exactly where a character of that width is at the front
pub lead_text : (b : ℕ) (r : List ℕ) → utf8 (take (lead_width b) (b ∷ r)) ≡ eqb (width_of (first_char (b ∷ r))) (lead_width b)
lead_text b r = go (lead_width b) (lead_some b) (char_lead b r)
  where
    go : (w : ℕ) → 0 < w → (width_of (first_char (b ∷ r)) ≡ 0) ⊎ (width_of (first_char (b ∷ r)) ≡ w) → utf8 (take w (b ∷ r)) ≡ eqb (width_of (first_char (b ∷ r))) w
    go zero p h = absurd (omega arith)
    go (suc m) p (inl e) =
        let k : first_char (b ∷ take m r) ≡ first_char (b ∷ r) = char_take (suc m) (b ∷ r) (omega arith) in
        not_text b (take m r) (ap width_of k ∙ e) ∙ sym (ne_eqb (width_of (first_char (b ∷ r))) (suc m) (λ z. omega arith))
    go (suc m) p (inr e) =
        let k : first_char (b ∷ take m r) ≡ first_char (b ∷ r) = char_take (suc m) (b ∷ r) (omega arith) in
        let w : width_of (first_char (b ∷ take m r)) ≡ suc m = ap width_of k ∙ e in
        let l : length (b ∷ take m r) ≤ suc m = omega (arith, length-take m r) in
        text_on b (take m r) (λ z. omega arith) ∙ ap (λ (n : ℕ). utf8 (drop n (b ∷ take m r))) w ∙ ap utf8 (drop_of_length-le (b ∷ take m r) l) ∙ empty_text
        ∙ sym (eq-eqb (width_of (first_char (b ∷ r))) (suc m) e)

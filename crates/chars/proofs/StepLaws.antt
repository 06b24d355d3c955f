-- A step of the string reader, by the bytes at its place; and the mark of a string.
use Rattle.std.specs.Prelude.{Ok, Err, slice_range}
use mathlib.Core.Path.{◌≡◌, refl, ap, sym, ◌∙◌}
use mathlib.Core.Bool.{Bool, true, false}
use mathlib.Core.List.{List, [], ◌∷◌}
use Prim.Native.Nat.{ℕ, ◌+◌, ◌-◌, ◌≤◌, ◌<◌}
use native.Mathlib.Omega.{arith}
use lib.ListN.{length, get_or, take, drop, length-take, length-drop, drop_of_length-le}
use borrow.Author.Tests.{eq-eqb, ne_eqb, lt-ltb, le-ltb}
use Rattle.format.specs.Answer.{if}
use Rattle.format.specs.Utf8.{none, first_char, within, width_of, code_of, utf8}
use Rattle.format.specs.Read.{starts_ff}
use Rattle.format.specs.Chars.{Step, lead_width, finished, gave, sequence_at, step_on, step_at, opened}
use Rattle.format.proofs.SheetPlaces.{front}
use Rattle.format.specs.declared.refusal.Refusal.TheVariants as made
use Rattle.text.proofs.Fronts.{char_take}
use Rattle.text.proofs.Texts.{step_stops}
use Rattle.chars.specs.Reader.{Opens}

-- a lead's width is 1 to 4
pub width_few : (b w : ℕ) → w ≡ lead_width b → (1 ≤ w) × (w ≤ 4)
unfolding lead_width
width_few b w e = rw e (go (within 0xC0 0xDF b) (within 0xE0 0xEF b) (within 0xF0 0xF7 b))
  where
    go : (x y z : Bool) → (1 ≤ if x 2 (if y 3 (if z 4 1))) × (if x 2 (if y 3 (if z 4 1)) ≤ 4)
    go true y z = (omega arith, omega arith)
    go false true z = (omega arith, omega arith)
    go false false true = (omega arith, omega arith)
    go false false false = (omega arith, omega arith)

-- ---- a step

module _ (s : List ℕ) (at : ℕ) where
  pub step_eof : length s ≤ at → finished (Step.bad 1 0) at ≡ step_at s at false
  unfolding step_at step_on
  step_eof h = rw (drop_of_length-le s h)

  module _ (inl : at < length s) where
    module _ (z : get_or s at 0 ≡ 0) where
      pub zero_last : length s ≤ at + 1 → finished Step.end at ≡ step_at s at false
      unfolding step_at step_on starts_ff
      zero_last h = rw (front s at inl, eq-eqb (get_or s at 0) 0 z, drop_of_length-le s h)

      module _ (b : ℕ) (h : at + 1 < length s) (e : b ≡ get_or s (at + 1) 0) where
        pub zero_end : (b ≡ 0xFF → ⊥) → finished Step.end at ≡ step_at s at false
        unfolding step_at step_on starts_ff
        zero_end f = rw (front s at inl, eq-eqb (get_or s at 0) 0 z, front s (at + 1) h, ← e, ne_eqb b 0xFF f)

        pub zero_char : b ≡ 0xFF → gave 0 (at + 2) ≡ step_at s at false
        unfolding step_at step_on starts_ff
        zero_char f = rw (front s at inl, eq-eqb (get_or s at 0) 0 z, front s (at + 1) h, ← e, eq-eqb b 0xFF f)

    module _ (z : get_or s at 0 ≡ 0 → ⊥) (w : ℕ) (e : w ≡ lead_width (get_or s at 0)) where
      sequence : sequence_at at w (drop at s) ≡ step_at s at false
      unfolding step_at step_on
      sequence = rw (e, front s at inl, ne_eqb (get_or s at 0) 0 z)

      pub char_short : length s - at < w → finished (Step.bad 1 0) at ≡ step_at s at false
      char_short h = rw (← sequence, lt-ltb (length (drop at s)) w (simp length-drop h))

      module _ (h : at + w ≤ length s) where
        pub char_bad : utf8 (take w (drop at s)) ≡ false → finished (Step.bad 4 0) at ≡ step_at s at false
        char_bad u = let l : w ≤ length s - at = omega arith in rw (← sequence, le-ltb (length (drop at s)) w (simp length-drop l), u)

        pub char_good : utf8 (take w (drop at s)) ≡ true → (k : ℕ) → k ≡ code_of (first_char (drop at s)) → gave k (at + w) ≡ step_at s at false
        char_good u k f = let l : w ≤ length s - at = omega arith in rw (← sequence, le-ltb (length (drop at s)) w (simp length-drop l), u, f)

        -- what is judged is the sequence
        pub judged : {r : Bool} {t : List ℕ} → t ≡ slice_range s at (at + w) → r ≡ utf8 t → r ≡ utf8 (take w (drop at s))
        judged p q = let k : at + w - at ≡ w = omega arith in rw k at (rw p at q)

        -- no character is no text
        pub char_none : none ≡ first_char (drop at s) → finished (Step.bad 4 0) at ≡ step_at s at false
        char_none n =
            let l = drop at s in
            let k = width_few (get_or s at 0) w e in
            let z : width_of (first_char l) ≡ 0 = sym (ap width_of n) in
            let t : first_char (take w l) ≡ first_char l = char_take w l (omega arith) in
            let m : 0 < length (take w l) = simp (length-take, length-drop) (omega arith) in
            char_bad (step_stops (take w l) 0 m (ap width_of t ∙ z))

-- ---- the mark of a string

pub open_eof : (s : List ℕ) → length s ≤ 0 → Opens s (Err made.UnexpectedEof)
unfolding opened
open_eof [] h = record { answer = refl }
open_eof (b ∷ s) h = absurd (omega arith)

module _ (s : List ℕ) (m : ℕ) (l : 0 < length s) (e : m ≡ get_or s 0 0) where
  pub open_good : m ≡ 0x21 → Opens s (Ok tt)
  unfolding opened
  open_good h = go s l (sym e ∙ h)
    where
      go : (s : List ℕ) → 0 < length s → get_or s 0 0 ≡ 0x21 → Opens s (Ok tt)
      go [] l h = absurd (omega arith)
      go (b ∷ s) l h = record { answer = rw (eq-eqb b 0x21 h) }

  pub open_mark : (m ≡ 0x21 → ⊥) → Opens s (Err (made.UnexpectedMark m))
  unfolding opened
  open_mark h = go s l e
    where
      go : (s : List ℕ) → 0 < length s → m ≡ get_or s 0 0 → Opens s (Err (made.UnexpectedMark m))
      go [] l e = absurd (omega arith)
      go (b ∷ s) l e = record { answer = rw (e, ne_eqb b 0x21 (λ z. h (e ∙ z))) }

-- Text judged on a run's bytes, from a place on.
use Rattle.std.proofs.Common.{◌≡◌, ℕ, ◌+◌, ◌-◌, ◌<◌, ◌≤◌, Bool, true, false, not, ◌&&◌, ltb, List, ◌++◌, length, take, drop, sym, ap, ◌∙◌, append-nil, ltb-false, ltb-true}
use lib.Seq.{slice}
use borrow.Author.Tests.{not-true, not-false}
use Rattle.format.specs.Utf8.{utf8}
use Rattle.blocks.specs.Zeros.{ZeroFrom}
use Rattle.text.proofs.Texts.{empty_text, text_zero}
use Rattle.scalar.specs.Runs.{unescape}
use Rattle.scalar.proofs.Cases.{by_test}
use Rattle.scalar.proofs.Parts.{part_slice}
use Rattle.scalar.proofs.Chunks.{unescape_chunk, unescape_over, unescape_past}

module _ (s : List ℕ) (i z : ℕ) (f : ZeroFrom s i z) where
  -- up to the next zero, and behind it
  judged_over : z < length s → utf8 (unescape (drop i s)) ≡ (utf8 (slice i z s) && utf8 (unescape (drop (z + 2) s)))
  judged_over h = ap utf8 (unescape_chunk s i z f ∙ ap (λ (l : List ℕ). slice i z s ++ l) (unescape_over s i z f h)) ∙ text_zero (slice i z s) (unescape (drop (z + 2) s))

  pub judged_last : length s ≤ z → utf8 (unescape (drop i s)) ≡ utf8 (slice i z s)
  judged_last h = ap utf8 (unescape_chunk s i z f ∙ ap (λ (l : List ℕ). slice i z s ++ l) (unescape_past s z h) ∙ append-nil (slice i z s))

  pub judged_on : z < length s → utf8 (slice i z s) ≡ true → utf8 (unescape (drop i s)) ≡ utf8 (unescape (drop (z + 2) s))
  judged_on h t = judged_over h ∙ rw t

  pub judged_stops : utf8 (slice i z s) ≡ false → utf8 (unescape (drop i s)) ≡ false
  judged_stops t = by_test (ltb z (length s)) (λ b. judged_over (ltb-true z (length s) b) ∙ rw t) (λ b. judged_last (ltb-false z (length s) b) ∙ t)

-- nothing is left
pub judged_past : (s : List ℕ) (i : ℕ) → length s ≤ i → utf8 (unescape (drop i s)) ≡ true
judged_past s i h = ap utf8 (unescape_past s i h) ∙ empty_text

-- ---- judged by a loop: x is the judgement of what is left

module _ {s : List ℕ} {i z : ℕ} (f : ZeroFrom s i z) {x : Bool} (inv : x ≡ utf8 (unescape (drop i s))) {q : Bool} (p : q ≡ utf8 (take (z - i) (drop i s))) where
  -- the piece before the zero, as the callee saw it
  piece : utf8 (slice i z s) ≡ q
  piece = sym (rw (part_slice i z s f.after) at p)

  pub text_stops : not q ≡ true → false ≡ x
  text_stops t = sym (inv ∙ judged_stops s i z f (piece ∙ not-true q t))

  module _ (t : not q ≡ false) where
    pub text_last : length s ≤ z → true ≡ x
    text_last h = sym (inv ∙ judged_last s i z f h ∙ piece ∙ not-false q t)

    pub text_on : z < length s → x ≡ utf8 (unescape (drop (z + 2) s))
    text_on h = inv ∙ judged_on s i z f h (piece ∙ not-false q t)

pub text_past : (s : List ℕ) (i : ℕ) {x : Bool} → x ≡ utf8 (unescape (drop i s)) → length s ≤ i → true ≡ x
text_past s i inv h = sym (inv ∙ judged_past s i h)

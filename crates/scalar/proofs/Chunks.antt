-- A payload from a place in its run on: up to the next zero, and over it.
use Rattle.std.proofs.Common.{◌≡◌, ℕ, suc, ◌+◌, ◌-◌, ◌<◌, ◌≤◌, List, [], ◌∷◌, ◌++◌, length, get_or, drop, refl, ap, ◌∙◌, add-one, arith, length-append, drop_of_length-le, drop-cons, drop-drop}
use lib.Seq.{slice, length-slice}
use Rattle.format.specs.Fields.{put}
use Rattle.blocks.specs.Zeros.{ZeroFrom}
use Rattle.blocks.proofs.Spans.{drop_split, span_slice}
use Rattle.blocks.proofs.Put.{Left, left_chunk}
use Rattle.scalar.specs.Runs.{unescape}
use Rattle.scalar.proofs.Escapes.{unescape_none, unescape_byte, unescape_zero}

pub drop_one : (s : List ℕ) (i : ℕ) → i < length s → drop i s ≡ get_or s i 0 ∷ drop (i + 1) s
drop_one s i h = rw add-one (drop-cons s i 0 h)

-- no zero in it
abbrev pub Free : List ℕ → Type 0
Free t = (k : ℕ) → k < length t → get_or t k 0 ≡ 0 → ⊥

pub free_rest : (b : ℕ) (t : List ℕ) → Free (b ∷ t) → Free t
free_rest b t h k l = h (suc k) (omega arith)

unescape_free : (t u : List ℕ) → Free t → unescape (t ++ u) ≡ t ++ unescape u
unescape_free [] u h = refl
unescape_free (b ∷ t) u h = unescape_byte b (t ++ u) (h 0 (omega arith)) ∙ ap (λ (l : List ℕ). b ∷ l) (unescape_free t u (free_rest b t h))

module _ (s : List ℕ) (i z : ℕ) (f : ZeroFrom s i z) where
  pub chunk_free : Free (slice i z s)
  chunk_free = span_slice s (λ b. b ≡ 0 → ⊥) i z f.inside f.none

  pub chunk_split : drop i s ≡ slice i z s ++ drop z s
  chunk_split = drop_split s i z f.after f.inside

  pub chunk_long : length (slice i z s) ≡ z - i
  chunk_long = length-slice i z s f.inside

  pub unescape_chunk : unescape (drop i s) ≡ slice i z s ++ unescape (drop z s)
  unescape_chunk = ap unescape chunk_split ∙ unescape_free (slice i z s) (drop z s) chunk_free

  pub unescape_ahead : length (unescape (drop i s)) ≡ (z - i) + length (unescape (drop z s))
  unescape_ahead = ap length unescape_chunk ∙ length-append (slice i z s) _ ∙ ap (λ (n : ℕ). n + length (unescape (drop z s))) chunk_long

  -- the bytes before the zero were copied
  pub unescape_copied : {d₀ : List ℕ} {at : ℕ} {t d d' : List ℕ} {o : ℕ} → at + length t ≤ length d₀ → Left d₀ at t d o (unescape (drop i s)) → d' ≡ put d o (slice i z s)
      → Left d₀ at t d' (o + (z - i)) (unescape (drop z s))
  unescape_copied h l p = left_chunk (slice i z s) h (rw unescape_chunk at l) p chunk_long

  -- over the zero
  module _ (h : z < length s) where
    pub unescape_over : unescape (drop z s) ≡ 0 ∷ unescape (drop (z + 2) s)
    unescape_over =
        let two : z + 1 + 1 ≡ z + 2 = omega arith in
        ap unescape (drop_one s z h) ∙ unescape_zero (get_or s z 0) (drop (z + 1) s) (f.zero h) ∙ rw (drop-drop 1 (z + 1) s, two)

-- at the end
module _ (s : List ℕ) (z : ℕ) (h : length s ≤ z) where
  pub unescape_past : unescape (drop z s) ≡ []
  unescape_past = ap unescape (drop_of_length-le s h) ∙ unescape_none

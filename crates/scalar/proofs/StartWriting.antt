-- The beginning of a run, before its end, as a loop writes it: the bytes before the next zero are copied, then the zero and its mark, until nothing is left. A run is
-- that and its end.
use Rattle.std.proofs.Common.{◌≡◌, ℕ, ◌+◌, ◌-◌, ◌^◌, ◌<◌, ◌≤◌, List, [], ◌∷◌, ◌++◌, length, get_or, drop, set, sym, refl, ap, ◌∙◌, arith, length-append, drop_of_length-le, ne_eqb, eq-eqb}
use lib.Seq.{slice, length-slice}
use Rattle.format.specs.Scalar.{escaped, run_start}
use Rattle.format.specs.Fields.{put}
use Rattle.blocks.specs.Zeros.{NoZero, ZeroFrom}
use Rattle.blocks.proofs.Spans.{drop_split, span_slice}
use Rattle.format.proofs.ZeroLaws.{escaped_long}
use Rattle.format.proofs.StartLaws.{run_end, start_long}
use Rattle.scalar.specs.Runs.{WritesRun}
use Rattle.blocks.proofs.Put.{put_put, set_put, length_put, Left, left_chunk, left_store, left_none}
use Rattle.scalar.proofs.Chunks.{Free, free_rest, drop_one, chunk_free, chunk_split, chunk_long}

-- ---- byte by byte

start_none : run_start [] ≡ []
unfolding run_start
start_none = refl

start_byte : (b : ℕ) (t : List ℕ) → (b ≡ 0 → ⊥) → run_start (b ∷ t) ≡ b ∷ run_start t
unfolding run_start
start_byte b t h = rw (ne_eqb _ _ h)

start_zero : (b : ℕ) (t : List ℕ) → b ≡ 0 → run_start (b ∷ t) ≡ 0 ∷ 0xFF ∷ run_start t
unfolding run_start
start_zero b t h = rw (eq-eqb _ _ h)

-- ---- up to the next zero, and over it

start_free : (t u : List ℕ) → Free t → run_start (t ++ u) ≡ t ++ run_start u
start_free [] u h = refl
start_free (b ∷ t) u h = start_byte b (t ++ u) (h 0 (omega arith)) ∙ ap (λ (l : List ℕ). b ∷ l) (start_free t u (free_rest b t h))

module _ (s : List ℕ) (i z : ℕ) (f : ZeroFrom s i z) where
  pub start_chunk : run_start (drop i s) ≡ slice i z s ++ run_start (drop z s)
  start_chunk = ap run_start (chunk_split s i z f) ∙ start_free (slice i z s) (drop z s) (chunk_free s i z f)

  pub start_ahead : length (run_start (drop i s)) ≡ (z - i) + length (run_start (drop z s))
  start_ahead = ap length start_chunk ∙ length-append (slice i z s) _ ∙ ap (λ (n : ℕ). n + length (run_start (drop z s))) (chunk_long s i z f)

  -- the bytes before the zero were copied
  pub start_copied : {d₀ : List ℕ} {at : ℕ} {t d d' : List ℕ} {o : ℕ} → at + length t ≤ length d₀ → Left d₀ at t d o (run_start (drop i s)) → d' ≡ put d o (slice i z s)
      → Left d₀ at t d' (o + (z - i)) (run_start (drop z s))
  start_copied h l p = left_chunk (slice i z s) h (rw start_chunk at l) p (chunk_long s i z f)

  -- over the zero
  module _ (h : z < length s) where
    pub start_over : run_start (drop z s) ≡ 0 ∷ 0xFF ∷ run_start (drop (z + 1) s)
    start_over = ap run_start (drop_one s z h) ∙ start_zero (get_or s z 0) (drop (z + 1) s) (f.zero h)

-- at the end
module _ (s : List ℕ) (z : ℕ) (h : length s ≤ z) where
  pub start_past : run_start (drop z s) ≡ []
  start_past = ap run_start (drop_of_length-le s h) ∙ start_none

-- ---- the bytes before a zero were written first

module _ (s : List ℕ) (z : ℕ) (l : z ≤ length s) (none : NoZero s 0 z) where
  start_split : run_start s ≡ slice 0 z s ++ run_start (drop z s)
  start_split = ap run_start (drop_split s 0 z (omega arith) l) ∙ start_free (slice 0 z s) (drop z s) (span_slice s (λ b. b ≡ 0 → ⊥) 0 z l none)

  front_length : length (slice 0 z s) ≡ z
  front_length = omega (arith, length-slice 0 z s l)

  pub start_front : length (run_start s) ≡ z + length (run_start (drop z s))
  start_front = ap length start_split ∙ length-append (slice 0 z s) _ ∙ ap (λ (n : ℕ). n + length (run_start (drop z s))) front_length

  pub start_then : (d : List ℕ) (at : ℕ) {d₁ d₂ : List ℕ} → at + length (run_start s) ≤ length d → d₁ ≡ put d at (slice 0 z s) → d₂ ≡ put d₁ (at + z) (run_start (drop z s)) → d₂ ≡ put d at (run_start s)
  start_then d at {d₁} {d₂} h e f =
      let n = front_length in
      let a = start_front in
      f
      ∙ ap (λ (x : List ℕ). put x (at + z) (run_start (drop z s))) e
      ∙ ap (λ (k : ℕ). put (put d at (slice 0 z s)) (at + k) (run_start (drop z s))) (sym n)
      ∙ put_put d at (slice 0 z s) (run_start (drop z s)) (omega arith)
      ∙ ap (put d at) (sym start_split)

-- ---- the loop: from i on the next zero is at z, and what is left to be put from o on makes the whole, t from at on

module _ {s : List ℕ} {i z : ℕ} (f : ZeroFrom s i z) {d₀ : List ℕ} {at : ℕ} {t d : List ℕ} {o : ℕ} where
  module _ (l : Left d₀ at t d o (run_start (drop i s))) (fits : at + length t ≤ length d₀) where
    pub start_room : o + (z - i) ≤ length d
    start_room = omega (arith, start_ahead s i z f)

    pub start_place : length d₀ < 2 ^ 64 → o + (z - i) < 2 ^ 64
    start_place n = omega (arith, start_room)

    module _ {d' : List ℕ} (p : d' ≡ put d o (slice i z s)) where
      -- a zero and its mark are next
      module _ (h : z < length s) where
        at_zero : Left d₀ at t d' (o + (z - i)) (0 ∷ 0xFF ∷ run_start (drop (z + 1) s))
        at_zero = rw (start_over s i z f h) at (start_copied s i z f fits l p)

        at_mark : Left d₀ at t (set d' (o + (z - i)) 0) (o + (z - i) + 1) (0xFF ∷ run_start (drop (z + 1) s))
        at_mark = left_store fits at_zero

        pub zero_room : o + (z - i) < length d'
        zero_room = let a = at_zero in omega arith

        pub mark_room : o + (z - i) + 1 < length (set d' (o + (z - i)) 0)
        mark_room = let a = at_mark in omega arith

        pub start_on : Left d₀ at t (set (set d' (o + (z - i)) 0) (o + (z - i) + 1) 0xFF) (o + (z - i) + 1 + 1) (run_start (drop (z + 1) s))
        start_on = left_store fits at_mark

      -- nothing is left
      module _ (h : length s ≤ z) where
        start_all : Left d₀ at t d' (o + (z - i)) []
        start_all = rw (start_past s z h) at (start_copied s i z f fits l p)

        pub start_ends : o + (z - i) ≡ at + length t
        start_ends = omega (arith, start_all.ends)

        pub start_whole : d' ≡ put d₀ at t
        start_whole = left_none start_all

-- ---- a run is its beginning and its end

module _ (d : List ℕ) (at : ℕ) (s : List ℕ) (h : at + length (escaped s) ≤ length d) where
  pub start_fits : at + length (run_start s) < length d
  start_fits = omega (arith, escaped_long s, start_long s)

  pub run_ended : {e : ℕ} {d' : List ℕ} → (e ≡ at + length (run_start s)) × (d' ≡ put d at (run_start s)) → WritesRun d at s (record { end = e + 1; zeros = e - at - length s }) (set d' e 0)
  run_ended {e} {d'} w =
      let n = length_put d at (run_start s) (omega (arith, start_fits)) in
      let i : e < length d' = rw w.1 (omega (arith, start_fits, w.0)) in
      record {
        ends = omega (arith, escaped_long s, start_long s, w.0);
        wrote =
            set_put d' e 0 i
            ∙ ap (λ (k : ℕ). put d' k (0 ∷ [])) w.0
            ∙ ap (λ (l : List ℕ). put l (at + length (run_start s)) (0 ∷ [])) w.1
            ∙ put_put d at (run_start s) (0 ∷ []) (omega (arith, start_fits))
            ∙ ap (put d at) (sym (run_end s));
        counted = omega (arith, start_long s, w.0);
      }

-- Measuring a run: over a byte, up to the next zero, over an escape, and at the end; where it ends; and what a measure says of the run.
use Rattle.std.specs.Prelude.{Option, Some, None}
use Rattle.std.proofs.Common.{◌≡◌, ℕ, suc, ◌+◌, ◌-◌, ◌<◌, ◌≤◌, eqb, ltb, List, [], ◌∷◌, ◌++◌, length, get_or, take, drop, sym, refl, ap, ◌∙◌, add_assoc, zero-add, arith, length-drop, drop_of_length-le, length-take, ltb-false, ltb-true}
use lib.Seq.{slice}
use Rattle.format.specs.Answer.{ok, refused}
use Rattle.format.specs.Read.{Read, got, bad, marked, cons_read, get_run}
use Rattle.format.specs.Zeros.{zeros}
use Rattle.format.proofs.ZeroLaws.{zeros_nil, zeros_le}
use Rattle.blocks.specs.Zeros.{ZeroFrom}
use Rattle.scalar.specs.Answers.{begins_with}
use Rattle.scalar.specs.Runs.{measured, measured_by, end_by, run_end, marked_by, unescape, payload_to, RunIn}
use Rattle.scalar.specs.declared.runs.Run.{Run}
use Rattle.scalar.proofs.Cases.{by_test}
use Rattle.scalar.proofs.Parts.{part_rest}
use Rattle.scalar.proofs.Marking.{no_ok, behind_mark, mark_taken}
use Rattle.scalar.proofs.Escapes.{RunAt, run_at, run_none, run_byte, run_last, run_escape, run_ends, run_eof}
use Rattle.scalar.proofs.Chunks.{Free, free_rest, chunk_free, chunk_split, chunk_long, drop_one}

-- k places and n bytes of payload further on
abbrev more : ℕ → ℕ → Option Run → Option Run
more k n (Some r) = Some (record { end = k + r.end; len = n + r.len })
more k n None = None

more_zero : (m : Option Run) → more 0 0 m ≡ m
more_zero (Some r) = rw (zero-add r.end, zero-add r.len)
more_zero None = refl

more_more : (a b c d : ℕ) (m : Option Run) → more a b (more c d m) ≡ more (a + c) (b + d) m
more_more a b c d (Some r) = rw (add_assoc a c r.end, add_assoc b d r.len)
more_more a b c d None = refl

-- a run by its two numbers
abbrev run_of : (end len : ℕ) → Run
run_of end len = record { end = end; len = len }

by_read : (s : List ℕ) {x : Read (List ℕ)} → get_run s ≡ x → measured s ≡ measured_by s x
unfolding measured
by_read s p = rw p

run_shorter : (s p r : List ℕ) → get_run s ≡ got p r → length r < length s
run_shorter s p r h = let a = (run_at s p r h).1 in let i = a.inside in rw (a.rest, length-drop) (omega arith)

-- in front of a run that was read: j bytes that are one byte of payload
ahead : (j b : ℕ) (s t : List ℕ) (x : Read (List ℕ)) → get_run t ≡ x → length s ≡ j + length t → measured_by s (cons_read b x) ≡ more j 1 (measured_by t x)
ahead j b s t (got p r) h l =
    let n = run_shorter t p r h in
    let e : length s - length r - 1 ≡ j + (length t - length r - 1) = omega arith in
    let k : suc (length p) ≡ 1 + length p = omega arith in
    rw (e, k)
ahead j b s t (bad n d) h l = refl

measured_byte : (b : ℕ) (t : List ℕ) → (b ≡ 0 → ⊥) → measured (b ∷ t) ≡ more 1 1 (measured t)
measured_byte b t h = by_read (b ∷ t) (run_byte b t h) ∙ ahead 1 b (b ∷ t) t (get_run t) refl (omega arith) ∙ ap (more 1 1) (sym (by_read t refl))

measured_escape : (t : List ℕ) → measured (0 ∷ 0xFF ∷ t) ≡ more 2 1 (measured t)
measured_escape t = by_read (0 ∷ 0xFF ∷ t) (run_escape t) ∙ ahead 2 0 (0 ∷ 0xFF ∷ t) t (get_run t) refl (omega arith) ∙ ap (more 2 1) (sym (by_read t refl))

measured_free : (t u : List ℕ) → Free t → measured (t ++ u) ≡ more (length t) (length t) (measured u)
measured_free [] u h = sym (more_zero _)
measured_free (b ∷ t) u h =
    let e : 1 + length t ≡ suc (length t) = omega arith in
    measured_byte b (t ++ u) (h 0 (omega arith)) ∙ ap (more 1 1) (measured_free t u (free_rest b t h)) ∙ rw (← e) (more_more 1 1 (length t) (length t) (measured u))

at_terminator : (t : List ℕ) → get_run (0 ∷ t) ≡ got [] t → measured (0 ∷ t) ≡ Some (run_of 0 0)
at_terminator t h = let e : suc (length t) - length t - 1 ≡ 0 = omega arith in by_read (0 ∷ t) h ∙ rw e

-- up to the next zero
module _ (s : List ℕ) (i z : ℕ) (f : ZeroFrom s i z) where
  from_zero : measured (drop i s) ≡ more (z - i) (z - i) (measured (drop z s))
  from_zero = rw (← chunk_long s i z f) (ap measured (chunk_split s i z f) ∙ measured_free (slice i z s) (drop z s) (chunk_free s i z f))

-- ---- where a run ends

end_more : (i len k n : ℕ) (m : Option Run) → end_by i len (more k n m) ≡ end_by (i + k) len m
end_more i len k n (Some r) = sym (add_assoc i k r.end)
end_more i len k n None = refl

-- the end is the same from a place further on
end_from : (s : List ℕ) (i k n : ℕ) → measured (drop i s) ≡ more k n (measured (drop (i + k) s)) → run_end s i ≡ run_end s (i + k)
unfolding run_end
end_from s i k n h = rw h (end_more i (length s) k n (measured (drop (i + k) s)))

end_here : (s : List ℕ) (z : ℕ) (t : List ℕ) → drop z s ≡ 0 ∷ t → get_run (0 ∷ t) ≡ got [] t → z ≡ run_end s z
unfolding run_end
end_here s z t d p = rw (d, at_terminator t p) (omega arith)

end_past : (s : List ℕ) (z : ℕ) → length s ≡ z → z ≡ run_end s z
unfolding run_end
end_past s z h = let past : length s ≤ z = omega arith in rw (drop_of_length-le s past, by_read [] run_none) (sym h)

module _ (s : List ℕ) (i z : ℕ) (f : ZeroFrom s i z) {r : ℕ} (inv : run_end s i ≡ r) where
  at_zero : run_end s z ≡ r
  at_zero =
      let a = f.after in
      let e : i + (z - i) ≡ z = omega arith in
      sym (rw e at (end_from s i (z - i) (z - i) (rw e (from_zero s i z f)))) ∙ inv

  zero_here : z < length s → drop z s ≡ 0 ∷ drop (z + 1) s
  zero_here h = drop_one s z h ∙ rw (f.zero h)

  -- no byte behind it, or no more bytes at all
  pub end_last : length s - z < 2 → z ≡ r
  end_last l =
      by_test (ltb z (length s))
      (λ t. let h = ltb-true z (length s) t in let none : length s ≤ z + 1 = omega arith in
      end_here s z [] (zero_here h ∙ rw (drop_of_length-le s none)) run_last ∙ at_zero)
      (λ t. end_past s z (omega (arith, f.inside, ltb-false z (length s) t)) ∙ at_zero)

  module _ (l : 2 ≤ length s - z) where
    next : drop z s ≡ 0 ∷ get_or s (z + 1) 0 ∷ drop (z + 2) s
    next = let a : z + 1 + 1 ≡ z + 2 = omega arith in zero_here (omega arith) ∙ ap (λ (t : List ℕ). 0 ∷ t) (drop_one s (z + 1) (omega arith) ∙ rw a)

    pub end_found : (get_or s (z + 1) 0 ≡ 0xFF → ⊥) → z ≡ r
    end_found b = end_here s z (get_or s (z + 1) 0 ∷ drop (z + 2) s) next (run_ends (get_or s (z + 1) 0) (drop (z + 2) s) b) ∙ at_zero

    pub end_over : get_or s (z + 1) 0 ≡ 0xFF → run_end s (z + 2) ≡ r
    end_over b = sym (end_from s z 2 1 (ap measured (next ∙ rw b) ∙ measured_escape (drop (z + 2) s))) ∙ at_zero

-- ---- what a measure says of the run

-- a run of so many bytes before its terminator, and of a payload so long
pub record Measured (s : List ℕ) (e n : ℕ) : Type 0 where
  pub reads : get_run s ≡ got (unescape (take e s)) (drop (e + 1) s)
  pub inside : e < length s
  pub long : n ≡ length (unescape (take e s))
  pub escapes : e ≡ n + zeros (unescape (take e s))
  pub zeroed : e ≡ n + zeros (take e s)

of_run : (s p r : List ℕ) (d e n : ℕ) → RunAt s d p r → get_run s ≡ got p r → length s - length r - 1 ≡ e → length p ≡ n → Measured s e n
of_run s p r d e n at h u v =
    let i = at.inside in
    let l : length r ≡ length s - (d + 1) = ap length at.rest ∙ length-drop (d + 1) s in
    let k : e ≡ d = omega arith in
    let w : p ≡ unescape (take e s) = rw k at.payload in
    let y : r ≡ drop (e + 1) s = rw k at.rest in
    record { reads = rw (← w, ← y) h; inside = omega arith; long = sym v ∙ ap length w; escapes = rw (← w, ← v) (k ∙ at.escapes); zeroed = k ∙ at.escapes ∙ rw (k, at.zeroed, v) }

by_run : (s : List ℕ) (m : Run) (x : Read (List ℕ)) → get_run s ≡ x → measured_by s x ≡ Some m → Measured s m.end m.len
by_run s m (got p r) h q =
    let a = run_at s p r h in
    let e : run_of (length s - length r - 1) (length p) ≡ m = cc in
    of_run s p r a.0 m.end m.len a.1 h (ap (λ (k : Run). k.end) e) (ap (λ (k : Run). k.len) e)
by_run s m (bad n d) h q = let z : ◌≡◌ {A = ℕ} 0 1 = cc in absurd (omega arith)

pub measured_run : (s : List ℕ) (m : Run) → measured s ≡ Some m → Measured s m.end m.len
measured_run s m p = by_run s m (get_run s) refl (sym (by_read s refl) ∙ p)

by_none : (s : List ℕ) (x : Read (List ℕ)) → get_run s ≡ x → measured_by s x ≡ None → get_run s ≡ bad 1 0
by_none s (got p r) h q = let z : ◌≡◌ {A = ℕ} 0 1 = cc in absurd (omega arith)
by_none s (bad m d) h q = run_eof s m d h

-- a run that does not end
pub measured_none : (s : List ℕ) → measured s ≡ None → get_run s ≡ bad 1 0
measured_none s p = by_none s (get_run s) refl (sym (by_read s refl) ∙ p)

-- ---- what the end says of the run

module _ (s : List ℕ) (from end : ℕ) (q : end ≡ run_end s from) where
  by_end : {A : Type 0} → (end ≡ length s → measured (drop from s) ≡ None → A) → ((m : Run) → end ≡ from + m.end → measured (drop from s) ≡ Some m → A) → A
  unfolding run_end
  by_end {A} f g = go (measured (drop from s)) refl
    where
      go : (o : Option Run) → measured (drop from s) ≡ o → A
      go (Some m) h = g m (q ∙ rw h) h
      go None h = f (q ∙ rw h) h

  pub end_none : length s ≤ end → get_run (drop from s) ≡ bad 1 0
  end_none l = by_end (λ e h. measured_none (drop from s) h) (λ m d h. absurd (omega (arith, (measured_run (drop from s) m h).inside, length-drop from s)))

  pub end_run : end < length s → (n : ℕ) × (from ≤ end) × Measured (drop from s) (end - from) n
  end_run l =
      by_end (λ e h. absurd (omega arith))
      (λ m d h. let k : end - from ≡ m.end = omega arith in (m.len, omega arith, rw k (measured_run (drop from s) m h)))

-- the end from the first zero on: up to there the run is its own payload
module _ (s : List ℕ) (first : ℕ) (f : ZeroFrom s 0 first) (end : ℕ) (q : end ≡ run_end s first) where
  whole : measured s ≡ more first first (measured (drop first s))
  whole = let e : first - 0 ≡ first = omega arith in rw e at (from_zero s 0 first f)

  pub end_after : first ≤ end
  end_after = by_end s first end q (λ e h. omega (arith, f.inside)) (λ m d h. omega arith)

  pub measured_unended : length s ≤ end → None ≡ measured s
  measured_unended l =
      by_end s first end q (λ e h. sym (whole ∙ rw h))
      (λ m d h. absurd (omega (arith, (measured_run (drop first s) m h).inside, length-drop first s)))

  module _ (l : end < length s) where
    -- the payload has a byte less for each zero from there on
    module _ (k : ℕ) (z : k ≡ zeros (take (end - first) (drop first s))) where
      pub zeros_room : k ≤ end
      zeros_room = omega (arith, zeros_le (take (end - first) (drop first s)), length-take (end - first) (drop first s))

      pub measured_ends : Some (run_of end (end - k)) ≡ measured s
      measured_ends =
          by_end s first end q (λ e h. absurd (omega arith))
          (λ m d h. let x : end - first ≡ m.end = omega arith in
          let y : k ≡ zeros (take m.end (drop first s)) = (rw x at z) in
          let w : end - k ≡ first + m.len = omega (arith, (measured_run (drop first s) m h).zeroed) in
          rw (w, d) (sym (whole ∙ rw h)))

    pub measured_plain : end ≡ first → Some (run_of end end) ≡ measured s
    measured_plain e =
        let z : end - first ≡ 0 = omega arith in
        let y : end - 0 ≡ end = omega arith in
        rw y at (measured_ends 0 (rw z (sym zeros_nil)))

-- ---- a run behind a mark

module _ (mark : ℕ) (b : List ℕ) (p : ok tt ≡ begins_with mark b) (o : Option Run) (m : o ≡ measured (take (length b - 1) (drop 1 b))) where
  here : o ≡ measured (drop 1 b)
  here = rw (part_rest 1 b) at m

  pub marked_unended : o ≡ None → refused 1 0 ≡ marked_by b (marked mark get_run b)
  marked_unended e = rw (behind_mark mark b p get_run ∙ measured_none (drop 1 b) (sym here ∙ e))

  module _ (k : Run) (e : o ≡ Some k) where
    run_behind : Measured (drop 1 b) k.end k.len
    run_behind = measured_run (drop 1 b) k (sym here ∙ e)

    pub marked_room : k.end + 1 < length b
    marked_room = omega (arith, mark_taken mark b p, run_behind.inside)

    pub marked_ends : ok (run_of (k.end + 1) k.len) ≡ marked_by b (marked mark get_run b)
    marked_ends =
        let j : length b - length (drop (k.end + 1) (drop 1 b)) - 1 ≡ k.end + 1 = omega (arith, marked_room, length-drop (k.end + 1) (drop 1 b), length-drop 1 b) in
        rw (behind_mark mark b p get_run ∙ run_behind.reads, ← run_behind.long, j)

-- what the answer says of the bytes
pub record FoundRun (mark : ℕ) (b : List ℕ) (end n : ℕ) : Type 0 where
  pub reads : marked mark get_run b ≡ got (payload_to end b) (drop (end + 1) b)
  pub run : RunIn b end n

found_from : (m : ℕ) (s : List ℕ) (e end n : ℕ) → Measured s e n → end ≡ e + 1 → (get_run s ≡ got (payload_to end (m ∷ s)) (drop (end + 1) (m ∷ s))) × RunIn (m ∷ s) end n
found_from m s e end n k q =
    let i = k.inside in
    let j = k.escapes in
    let a : end - 1 ≡ e = omega arith in
    let c : end + 1 ≡ suc (e + 1) = omega arith in
    (rw (a, c) k.reads, record { within = omega arith; long = rw a k.long; escapes = rw a (omega arith) })

found_behind : (m : ℕ) (s : List ℕ) (x : Read (List ℕ)) → get_run s ≡ x → (k : Run) → ok k ≡ marked_by (m ∷ s) x
    → (get_run s ≡ got (payload_to k.end (m ∷ s)) (drop (k.end + 1) (m ∷ s))) × RunIn (m ∷ s) k.end k.len
found_behind m s (got p r) h k q =
    let f = run_shorter s p r h in
    let e : k ≡ run_of (suc (length s) - length r - 1) (length p) = cc in
    let u : k.end ≡ suc (length s) - length r - 1 = ap (λ (x : Run). x.end) e in
    let v : k.len ≡ length p = ap (λ (x : Run). x.len) e in
    rw v (found_from m s (length s - length r - 1) k.end (length p) (measured_run s (run_of (length s - length r - 1) (length p)) (by_read s h)) (omega arith))
found_behind m s (bad j d) h k q = no_ok q

pub found_run : (mark : ℕ) (b : List ℕ) (k : Run) → ok k ≡ marked_by b (marked mark get_run b) → FoundRun mark b k.end k.len
found_run mark [] k q = no_ok q
found_run mark (m ∷ s) k q =
    by_test (eqb m mark)
    (λ t. let f = found_behind m s (get_run s) refl k (rw t at q) in record { reads = rw t f.0; run = f.1 })
    (λ t. no_ok (rw t at q))

found_bad : (b : List ℕ) (x : Read (List ℕ)) (n d : ℕ) → refused n d ≡ marked_by b x → x ≡ bad n d
found_bad b (got p r) n d q = let z : ◌≡◌ {A = ℕ} 0 1 = cc in absurd (omega arith)
found_bad b (bad m e) n d q = cc

pub found_none : (mark : ℕ) (b : List ℕ) (n d : ℕ) → refused n d ≡ marked_by b (marked mark get_run b) → marked mark get_run b ≡ bad n d
found_none mark b n d q = found_bad b (marked mark get_run b) n d q

-- Escaped runs, their payloads and reading them, byte by byte.
use Rattle.std.proofs.Common.{◌≡◌, ℕ, suc, ◌+◌, ◌*◌, ◌<◌, ◌≤◌, true, false, eqb, List, [], ◌∷◌, length, take, drop, sym, refl, ap, ◌∙◌, arith, eq-eqb, ne_eqb, eqb-true}
use borrow.Author.Tests.{eqb-false}
use Rattle.format.specs.Scalar.{escaped}
use Rattle.format.specs.Read.{Read, got, bad, cons_read, get_run, after_zero}
use Rattle.format.specs.Fields.{has_zero}
use Rattle.format.specs.Zeros.{zeros}
use Rattle.format.proofs.BackLaws.{cons_got}
use Rattle.format.proofs.ZeroLaws.{zeros_zero, zeros_byte, zeros_nil, zeros_le, escaped_long}
use Rattle.scalar.specs.Runs.{unescape}
use Rattle.scalar.proofs.Cases.{by_test}
use Rattle.scalar.proofs.Reading.{no_got}

-- ---- a payload as a run

pub escaped_bounds : (s : List ℕ) → (length s + 1 ≤ length (escaped s)) × (length (escaped s) ≤ 2 * length s + 1)
escaped_bounds s = let l = escaped_long s in let z = zeros_le s in (omega arith, omega arith)

-- ---- the payload of a run's bytes

pub unescape_none : unescape [] ≡ []
unfolding unescape
unescape_none = refl

pub unescape_byte : (b : ℕ) (t : List ℕ) → (b ≡ 0 → ⊥) → unescape (b ∷ t) ≡ b ∷ unescape t
unfolding unescape
unescape_byte b [] h = refl
unescape_byte b (c ∷ t) h = rw (ne_eqb _ _ h)

pub unescape_zero : (b : ℕ) (t : List ℕ) → b ≡ 0 → unescape (b ∷ t) ≡ 0 ∷ unescape (drop 1 t)
unfolding unescape
unescape_zero b [] h = rw h
unescape_zero b (c ∷ t) h = rw (eq-eqb _ _ h, h)

pub unescape_long : (s : List ℕ) → length (unescape s) ≤ length s
unfolding unescape
unescape_long [] = omega arith
unescape_long (b ∷ []) = omega arith
unescape_long (b ∷ c ∷ s) = by_test (eqb b 0) (λ t. rw t (omega (arith, unescape_long s))) (λ t. rw t (omega (arith, unescape_long (c ∷ s))))

-- a payload as long as its run is the run
pub unescape_same : (s : List ℕ) → length (unescape s) ≡ length s → unescape s ≡ s
unfolding unescape
unescape_same [] h = refl
unescape_same (b ∷ []) h = refl
unescape_same (b ∷ c ∷ s) h =
    by_test (eqb b 0)
    (λ t. let g : suc (length (unescape s)) ≡ length (b ∷ c ∷ s) = (rw t at h) in absurd (omega (arith, unescape_long s)))
    (λ t. let g : suc (length (unescape (c ∷ s))) ≡ length (b ∷ c ∷ s) = (rw t at h) in
    rw t (ap (λ (l : List ℕ). b ∷ l) (unescape_same (c ∷ s) (omega arith))))

-- ---- reading a run

pub run_none : get_run [] ≡ bad 1 0
unfolding get_run after_zero
run_none = refl

pub run_byte : (b : ℕ) (t : List ℕ) → (b ≡ 0 → ⊥) → get_run (b ∷ t) ≡ cons_read b (get_run t)
unfolding get_run after_zero
run_byte b t h = rw (ne_eqb _ _ h)

-- a 00 that is the last byte, before an FF, and before another byte
pub run_last : get_run (0 ∷ []) ≡ got [] []
unfolding get_run after_zero
run_last = refl

pub run_escape : (t : List ℕ) → get_run (0 ∷ 0xFF ∷ t) ≡ cons_read 0 (get_run t)
unfolding get_run after_zero
run_escape t = refl

pub run_ends : (c : ℕ) (t : List ℕ) → (c ≡ 0xFF → ⊥) → get_run (0 ∷ c ∷ t) ≡ got [] (c ∷ t)
unfolding get_run after_zero
run_ends c t h = rw (ne_eqb _ _ h)

-- the run that s begins with: its terminator's place, its payload and the bytes behind it. A zero of the payload is one in the run
pub record RunAt (s : List ℕ) (e : ℕ) (p r : List ℕ) : Type 0 where
  pub inside : e < length s
  pub rest : r ≡ drop (e + 1) s
  pub payload : p ≡ unescape (take e s)
  pub escapes : e ≡ length p + zeros p
  pub zeroed : zeros (take e s) ≡ zeros p

at_byte : (b : ℕ) {t : List ℕ} {e : ℕ} {p r : List ℕ} → (b ≡ 0 → ⊥) → RunAt t e p r → RunAt (b ∷ t) (e + 1) (b ∷ p) r
at_byte b {t} {e} {p} {r} h a =
    let i = a.inside in
    let s = a.escapes in
    let one : e + 1 ≡ suc e = omega arith in
    let two : e + 1 + 1 ≡ suc (e + 1) = omega arith in
    record {
      inside = omega arith;
      rest = rw two a.rest;
      payload = rw one (ap (λ (l : List ℕ). b ∷ l) a.payload ∙ sym (unescape_byte b (take e t) h));
      escapes = rw (zeros_byte b p h) (omega arith);
      zeroed = rw (one, zeros_byte b p h) (zeros_byte b (take e t) h ∙ a.zeroed);
    }

at_escape : {t : List ℕ} {e : ℕ} {p r : List ℕ} → RunAt t e p r → RunAt (0 ∷ 0xFF ∷ t) (e + 2) (0 ∷ p) r
at_escape {t} {e} {p} {r} a =
    let i = a.inside in
    let s = a.escapes in
    let two : e + 2 ≡ suc (suc e) = omega arith in
    let three : e + 2 + 1 ≡ suc (suc (e + 1)) = omega arith in
    record {
      inside = omega arith;
      rest = rw three a.rest;
      payload = rw two (ap (λ (l : List ℕ). 0 ∷ l) a.payload ∙ sym (unescape_zero 0 (0xFF ∷ take e t) refl));
      escapes = rw (zeros_zero 0 p refl) (omega arith);
      zeroed = rw two (omega (arith, a.zeroed, zeros_zero 0 p refl, zeros_zero 0 (0xFF ∷ take e t) refl, zeros_byte 0xFF (take e t) (λ y. omega arith)));
    }

at_end : (t : List ℕ) → RunAt (0 ∷ t) 0 [] t
at_end t = record { inside = omega arith; rest = refl; payload = sym unescape_none; escapes = rw zeros_nil; zeroed = refl }

module _ (r : List ℕ) where
  -- a run of these bytes is known where it ends
  abbrev Ends : List ℕ → Type 0
  Ends s = (p : List ℕ) → get_run s ≡ got p r → (e : ℕ) × RunAt s e p r

  ends_none : Ends []
  ends_none p h = no_got 1 0 p r (sym run_none ∙ h)

  ends_last : Ends (0 ∷ [])
  ends_last p h =
      let g : got [] [] ≡ got p r = sym run_last ∙ h in
      let f : [] ≡ p = cc in
      let k : [] ≡ r = cc in
      rw (← f, ← k) (0, at_end [])

  ends_here_lem : (c : ℕ) (s : List ℕ) → (c ≡ 0xFF → ⊥) → Ends (0 ∷ c ∷ s)
  ends_here_lem c s y p h =
      let g : got [] (c ∷ s) ≡ got p r = sym (run_ends c s y) ∙ h in
      let f : [] ≡ p = cc in
      let k : c ∷ s ≡ r = cc in
      rw (← f, ← k) (0, at_end (c ∷ s))

  ends_escape : (s : List ℕ) → Ends s → Ends (0 ∷ 0xFF ∷ s)
  ends_escape s ih p h =
      let q = cons_got 0 (get_run s) (sym (run_escape s) ∙ h) in
      let a = ih q.0 q.1 in
      rw q.2 (a.0 + 2, at_escape a.1)

  ends_byte : (b : ℕ) (s : List ℕ) → (b ≡ 0 → ⊥) → Ends s → Ends (b ∷ s)
  ends_byte b s z ih p h =
      let q = cons_got b (get_run s) (sym (run_byte b s z) ∙ h) in
      let a = ih q.0 q.1 in
      rw q.2 (a.0 + 1, at_byte b z a.1)

  ends_zero : (c : ℕ) (s : List ℕ) → Ends s → Ends (0 ∷ c ∷ s)
  ends_zero c s ih = by_test (eqb c 0xFF) (λ u. rw (eqb-true c 0xFF u) (ends_escape s ih)) (λ u. ends_here_lem c s (eqb-false c 0xFF u))

  ends_one : (b : ℕ) → Ends (b ∷ [])
  ends_one b = by_test (eqb b 0) (λ t. rw (eqb-true b 0 t) ends_last) (λ t. ends_byte b [] (eqb-false b 0 t) ends_none)

  ends_more : (b c : ℕ) (s : List ℕ) → Ends s → Ends (c ∷ s) → Ends (b ∷ c ∷ s)
  ends_more b c s ih jh = by_test (eqb b 0) (λ t. rw (eqb-true b 0 t) (ends_zero c s ih)) (λ t. ends_byte b (c ∷ s) (eqb-false b 0 t) jh)

  ends : (s : List ℕ) → Ends s
  ends [] = ends_none
  ends (b ∷ []) = ends_one b
  ends (b ∷ c ∷ s) = ends_more b c s (ends s) (ends (c ∷ s))

-- what was read is the run up to its terminator
pub run_at : (s p r : List ℕ) → get_run s ≡ got p r → (e : ℕ) × RunAt s e p r
run_at s p r h = ends r s p h

-- what refuses a run is that its bytes run out
abbrev Eof : Read (List ℕ) → Type 0
Eof x = (m d : ℕ) → x ≡ bad m d → x ≡ bad 1 0

eof_got : (p r : List ℕ) → Eof (got p r)
eof_got p r m d h = no_got m d p r (sym h)

eof_cons : (b : ℕ) (x : Read (List ℕ)) → Eof x → Eof (cons_read b x)
eof_cons b (got p r) h = eof_got (b ∷ p) r
eof_cons b (bad n k) h = h

eof_one : (b : ℕ) → Eof (get_run (b ∷ []))
eof_one b =
    by_test (eqb b 0) (λ t. rw (eqb-true b 0 t, run_last) (eof_got [] []))
    (λ t. rw (run_byte b [] (eqb-false b 0 t)) (eof_cons b (get_run []) (λ m d h. run_none)))

eof_zero : (c : ℕ) (s : List ℕ) → Eof (get_run s) → Eof (get_run (0 ∷ c ∷ s))
eof_zero c s ih =
    by_test (eqb c 0xFF) (λ u. rw (eqb-true c 0xFF u, run_escape s) (eof_cons 0 (get_run s) ih)) (λ u. rw (run_ends c s (eqb-false c 0xFF u)) (eof_got [] (c ∷ s)))

eof_more : (b c : ℕ) (s : List ℕ) → Eof (get_run s) → Eof (get_run (c ∷ s)) → Eof (get_run (b ∷ c ∷ s))
eof_more b c s ih jh =
    by_test (eqb b 0) (λ t. rw (eqb-true b 0 t) (eof_zero c s ih)) (λ t. rw (run_byte b (c ∷ s) (eqb-false b 0 t)) (eof_cons b (get_run (c ∷ s)) jh))

eof : (s : List ℕ) → Eof (get_run s)
eof [] = λ m d h. run_none
eof (b ∷ []) = eof_one b
eof (b ∷ c ∷ s) = eof_more b c s (eof s) (eof (c ∷ s))

pub run_eof : (s : List ℕ) (m d : ℕ) → get_run s ≡ bad m d → get_run s ≡ bad 1 0
run_eof s m d h = eof s m d h

-- a payload has a zero where its run has an escape
pub zero_free : (p : List ℕ) → zeros p ≡ 0 → has_zero p ≡ false
unfolding has_zero
zero_free [] h = refl
zero_free (b ∷ p) h =
    by_test (eqb b 0)
    (λ t. let e = zeros_zero b p (eqb-true b 0 t) in absurd (omega arith))
    (λ t. rw t (zero_free p (sym (zeros_byte b p (eqb-false b 0 t)) ∙ h)))

pub zero_some : (p : List ℕ) → 0 < zeros p → has_zero p ≡ true
unfolding has_zero
zero_some [] h = absurd (omega (arith, zeros_nil))
zero_some (b ∷ p) h = by_test (eqb b 0) (λ t. rw t) (λ t. rw t (zero_some p (rw (zeros_byte b p (eqb-false b 0 t)) at h)))

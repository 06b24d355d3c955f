-- What reading and judging a reference finds, by what the code tests.
use Rattle.std.proofs.Common.{◌≡◌, ℕ, ◌-◌, ◌^◌, ◌<◌, ◌≤◌, eqb, List, [], ◌∷◌, length, take, drop, sym, refl, ap, ◌∙◌, arith, eq-eqb, ne_eqb}
use Rattle.format.specs.Answer.{if, ok, refused}
use Rattle.format.specs.Scalar.{sequence_of, predicate_of}
use Rattle.format.specs.Encode.{fits_ref}
use Rattle.format.specs.Read.{Read, got, bad, then_read, number, get_big, ref_read, get_ref, get_fact_id}
use Rattle.format.proofs.Tests.{eqb_test, failed}
use Rattle.scalar.specs.Answers.{get_fact_id_call, begins_with}
use Rattle.scalar.proofs.Cases.{by_test}
use Rattle.scalar.proofs.Parts.{part_rest}
use Rattle.scalar.proofs.Reading.{Front, Took, drop_past, front_drop, no_got, then_got, taken_got, taken_bad, took, refuses, marked_front}
use Rattle.scalar.proofs.Marking.{no_mark, behind_mark, mark_taken}
use Rattle.scalar.proofs.Integers.{big_short, big_read, big_front}

-- ---- under a declared predicate: the sequence, then the predicate

module _ (p r : ℕ) {s : ℕ} (e : s ≡ sequence_of r) where
  pub judged_reserved : s ≡ 0 → refused 9 0 ≡ fits_ref p r
  unfolding fits_ref
  judged_reserved z = rw (eq-eqb (sequence_of r) 0 (sym e ∙ z))

  module _ (z : s ≡ 0 → ⊥) {f q : ℕ} (g : f ≡ predicate_of r) (d : q ≡ p) where
    pub judged_other : (f ≡ q → ⊥) → refused 8 f ≡ fits_ref p r
    unfolding fits_ref
    judged_other h = rw (ne_eqb (sequence_of r) 0 (λ y. z (e ∙ y)), ne_eqb (predicate_of r) p (λ y. h (g ∙ y ∙ sym d)), g)

    pub judged_fits : f ≡ q → ok tt ≡ fits_ref p r
    unfolding fits_ref
    judged_fits h = rw (ne_eqb (sequence_of r) 0 (λ y. z (e ∙ y)), eq-eqb (predicate_of r) p (sym g ∙ h ∙ d))

-- ---- where no type is at hand: the sequence alone

abbrev unreserved : ℕ → List ℕ → Read ℕ
unreserved r rest = if (eqb (sequence_of r) 0) (bad 9 0) (got r rest)

module _ (b : List ℕ) where
  pub id_none : {n d : ℕ} → refused n d ≡ begins_with 0x51 b → refused n d ≡ get_fact_id_call b
  unfolding get_fact_id_call get_fact_id
  id_none p = taken_bad b (no_mark 0x51 (λ s. then_read (get_big 8 s) unreserved) b p)

  module _ (p : ok tt ≡ begins_with 0x51 b) where
    this : get_fact_id b ≡ then_read (get_big 8 (drop 1 b)) unreserved
    unfolding get_fact_id
    this = behind_mark 0x51 b p (λ s. then_read (get_big 8 s) unreserved)

    pub id_short : length b < 9 → refused 1 0 ≡ get_fact_id_call b
    unfolding get_fact_id_call
    id_short k = taken_bad b (this ∙ rw (big_short 8 (drop 1 b) (omega (arith, mark_taken 0x51 b p))))

    module _ (k : 9 ≤ length b) {r : ℕ} (e : (r ≡ number 0 (take 8 (take (length b - 1) (drop 1 b)))) × (r < 256 ^ 8)) {s : ℕ} (q : s ≡ sequence_of r) where
      read : get_fact_id b ≡ unreserved r (drop 8 (drop 1 b))
      read =
          let n : r ≡ number 0 (take 8 (drop 1 b)) = (rw (part_rest 1 b) at e.0) in
          rw (this, big_read 8 (drop 1 b) (omega (arith, mark_taken 0x51 b p)), ← n)

      pub id_reserved : s ≡ 0 → refused 9 0 ≡ get_fact_id_call b
      unfolding get_fact_id_call
      id_reserved z = taken_bad b (read ∙ rw (eq-eqb (sequence_of r) 0 (sym q ∙ z)))

      pub id_read : (s ≡ 0 → ⊥) → ok (record { value = r; used = 9 }) ≡ get_fact_id_call b
      unfolding get_fact_id_call
      id_read z = taken_got b 9 (read ∙ rw (ne_eqb (sequence_of r) 0 (λ y. z (q ∙ y)), drop_past 8 b)) k

  -- the bytes behind a reference
  ref_front : (v : ℕ) (r : List ℕ) → get_fact_id b ≡ got v r → Front b r
  unfolding get_fact_id
  ref_front v r p = marked_front 0x51 (λ s. then_read (get_big 8 s) unreserved) b inner v r p
    where
      inner : (s : List ℕ) (v : ℕ) (r : List ℕ) → then_read (get_big 8 s) unreserved ≡ got v r → Front s r
      inner s v r q =
          let t = then_got (get_big 8 s) unreserved q in
          let n = big_front 8 s t.2 in
          let u = failed (bad 9 0) (got t.0 t.1) (eqb_test (sequence_of t.0) 0) (λ e. no_got 9 0 v r e) t.3 in
          let f = u.1 in
          let e : t.1 ≡ r = cc in
          rw (← e, n.1) (front_drop s 8 (omega arith) n.0)

  pub id_took : {v n : ℕ} → ok (record { value = v; used = n }) ≡ get_fact_id_call b → Took b (get_fact_id b) v n
  unfolding get_fact_id_call
  id_took p = took b ref_front p

  pub id_refuses : {n d : ℕ} → refused n d ≡ get_fact_id_call b → get_fact_id b ≡ bad n d
  unfolding get_fact_id_call
  id_refuses p = refuses b p

-- ---- both: a reference under its declared predicate is one that is read without it, and then judged

module _ (p : ℕ) where
  abbrev judged : ℕ → List ℕ → Read ℕ
  judged r rest = ref_read r rest (fits_ref p r)

  kept : (r : ℕ) (rest : List ℕ) → judged r rest ≡ then_read (unreserved r rest) judged
  unfolding fits_ref
  kept r rest =
      by_test (eqb (sequence_of r) 0) (λ t. rw t)
      (λ t. let e : got r rest ≡ unreserved r rest = rw t in ap (λ (y : Read ℕ). then_read y judged) e)

  each : (x : Read ℕ) → then_read x judged ≡ then_read (then_read x unreserved) judged
  each (got r rest) = kept r rest
  each (bad n d) = refl

  pub ref_judged : (b : List ℕ) → get_ref p b ≡ then_read (get_fact_id b) (λ r rest. ref_read r rest (fits_ref p r))
  unfolding get_ref get_fact_id
  ref_judged [] = refl
  ref_judged (m ∷ s) = by_test (eqb m 0x51) (λ t. rw t (each (get_big 8 s))) (λ t. rw t)

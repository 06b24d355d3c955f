-- What a call that hands out a payload answers, and the scratch buffer afterwards.
use Rattle.std.specs.Prelude.{Result, Ok, Err}
use Rattle.std.proofs.Common.{◌≡◌, ℕ, ◌+◌, ◌-◌, ◌^◌, ◌<◌, ◌≤◌, Bool, true, false, eqb, List, [], ◌∷◌, length, drop, refl, ◌∙◌, arith, length-drop, lt-ltb, le-leb}
use borrow.Author.Tests.{lt-leb}
use Rattle.format.specs.Answer.{if, ok, refused}
use Rattle.format.specs.Utf8.{utf8}
use Rattle.format.specs.Read.{Read, got, bad, then_read, marked, get_run, get_str, get_bytes}
use Rattle.format.specs.Fields.{has_zero, put, placed, placed_from, get_bytes_call, get_str_call}
use Rattle.format.specs.Refusals.{number_of, detail_of}
use Rattle.format.specs.declared.refusal.Refusal.{Refusal}
use Rattle.format.specs.declared.refusal.Refusal.TheVariants as made
use Rattle.scalar.specs.Answers.{Gives}
use Rattle.scalar.specs.declared.payloads.Place.{Place}
use Rattle.scalar.specs.declared.payloads.Place.TheVariants.{InKey, InScratch}
use Rattle.scalar.specs.declared.runs.Run.{Run}
use Rattle.scalar.specs.declared.taken.Taken.{Taken}
use Rattle.scalar.specs.Runs.{marked_by, payload_to, RunIn}
use Rattle.scalar.proofs.Cases.{by_test}
use Rattle.scalar.proofs.Escapes.{zero_free, zero_some}
use Rattle.scalar.proofs.Measures.{FoundRun, found_run, found_none}

-- ---- placing a payload whose run has been measured

module _ {b : List ℕ} {end n : ℕ} (r : RunIn b end n) (d : List ℕ) where
  no_escape : n + 1 ≡ end → has_zero (payload_to end b) ≡ false
  no_escape h = let z = r.escapes in zero_free (payload_to end b) (omega arith)

  an_escape : (n + 1 ≡ end → ⊥) → has_zero (payload_to end b) ≡ true
  an_escape h = let z = r.escapes in zero_some (payload_to end b) (omega arith)

  pub place_key : n + 1 ≡ end → Gives (placed 0 (end + 1) (payload_to end b) d) (Ok (record { value = InKey 1 n; used = end + 1 })) d
  place_key h = rw (no_escape h, ← r.long) (record { answer = refl; left = refl })

  pub place_short : (n + 1 ≡ end → ⊥) → length d < n → n < 2 ^ 64 → Gives (placed 0 (end + 1) (payload_to end b) d) (Err (made.NoRoom n)) d
  place_short h l f = rw (an_escape h, ← r.long, lt-leb n (length d) l, lt-ltb n (2 ^ 64) f) (record { answer = refl; left = refl })

  pub place_scratch : (n + 1 ≡ end → ⊥) → n ≤ length d → {d' : List ℕ} → d' ≡ put d 0 (payload_to end b)
      → Gives (placed 0 (end + 1) (payload_to end b) d) (Ok (record { value = InScratch n; used = end + 1 })) d'
  place_scratch h l e =
      let z : 0 + n ≡ n = omega arith in
      rw (e, an_escape h, ← r.long, le-leb n (length d) l, z) (record { answer = refl; left = refl })

-- ---- a field read behind its mark

-- text is a run behind its mark, and then judged
pub str_marked : (b : List ℕ) → get_str b ≡ then_read (marked 0x21 get_run b) (λ s rest. if (utf8 s) (got s rest) (bad 4 0))
unfolding get_str
str_marked [] = refl
str_marked (m ∷ s) = by_test (eqb m 0x21) (λ t. rw t) (λ t. rw t)

module _ (b d : List ℕ) where
  -- a refusal leaves the scratch buffer as it was
  refuses : {x : Read (List ℕ)} (e : Refusal) → x ≡ bad (number_of e) (detail_of e) → Gives (placed_from 0 b d x) (Err e) d
  refuses e p = rw p (record { answer = refl; left = refl })

  places : {x : Read (List ℕ)} {end n : ℕ} → RunIn b end n → x ≡ got (payload_to end b) (drop (end + 1) b) → placed_from 0 b d x ≡ placed 0 (end + 1) (payload_to end b) d
  places {x} {end} r q =
      let w = r.within in
      let e : length b - length (drop (end + 1) b) ≡ end + 1 = simp length-drop (omega arith) in
      rw (q, e)

  pub bytes_refused : (e : Refusal) → refused (number_of e) (detail_of e) ≡ marked_by b (marked 0x53 get_run b) → Gives (get_bytes_call b d) (Err e) d
  unfolding get_bytes_call get_bytes
  bytes_refused e p = refuses e (found_none 0x53 b (number_of e) (detail_of e) p)

  module _ (k : Run) (p : ok k ≡ marked_by b (marked 0x53 get_run b)) where
    pub bytes_found : RunIn b k.end k.len
    bytes_found = (found_run 0x53 b k p).run

    pub bytes_placed : {a : Result (Taken Place) Refusal} {d' : List ℕ} → Gives (placed 0 (k.end + 1) (payload_to k.end b) d) a d' → Gives (get_bytes_call b d) a d'
    unfolding get_bytes_call get_bytes
    bytes_placed g = let f = found_run 0x53 b k p in rw (places f.run f.reads) g

  pub str_refused : (e : Refusal) → refused (number_of e) (detail_of e) ≡ marked_by b (marked 0x21 get_run b) → Gives (get_str_call b d) (Err e) d
  unfolding get_str_call
  str_refused e p = refuses e (str_marked b ∙ rw (found_none 0x21 b (number_of e) (detail_of e) p))

  module _ (k : Run) (p : ok k ≡ marked_by b (marked 0x21 get_run b)) where
    found : FoundRun 0x21 b k.end k.len
    found = found_run 0x21 b k p

    pub str_found : RunIn b k.end k.len
    str_found = found.run

    module _ {t : Bool} (u : t ≡ utf8 (payload_to k.end b)) where
      pub str_bad : t ≡ false → Gives (get_str_call b d) (Err made.BadString) d
      unfolding get_str_call
      str_bad f = refuses made.BadString (str_marked b ∙ rw (found.reads, ← u, f))

      pub str_placed : t ≡ true → {a : Result (Taken Place) Refusal} {d' : List ℕ} → Gives (placed 0 (k.end + 1) (payload_to k.end b) d) a d' → Gives (get_str_call b d) a d'
      unfolding get_str_call
      str_placed f g = rw (places found.run (str_marked b ∙ rw (found.reads, ← u, f))) g

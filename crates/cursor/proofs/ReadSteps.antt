-- What a reading step answers, by what was read at the front of the rest of the key.
use Rattle.std.proofs.Common.{◌≡◌, ◌∙◌, refl, sym, ap, Bool, true, false, List, [], ◌∷◌, ℕ, ◌+◌, ◌-◌, ◌^◌, ◌≤◌, ◌<◌, arith, ltb, leb, eqb, length, length-drop, ne_eqb, eq-eqb, eqb-true, Result}
use borrow.Author.Tests.{eqb-false}
use Rattle.format.specs.Answer.{if, Answer, ok, refused, and_then}
use Rattle.format.specs.Refusals.{answered}
use Rattle.format.specs.declared.refusal.Refusal.{Refusal}
use Rattle.format.specs.Read.{Read, got, bad, get_int, get_uint, get_fact_id, get_str, get_bytes, ends_here}
use Rattle.format.specs.Fields.{Taken as TakenField, taken_from, has_zero, placed_from, get_i64_call, get_u64_call, get_str_call, get_bytes_call}
use Rattle.format.specs.Skip.{end_of}
use Rattle.format.specs.Cursor as cursor
use Rattle.scalar.specs.Answers.{Gives, got_int, got_part, get_fact_id_call}
use Rattle.scalar.specs.declared.payloads.Place.{Place}
use Rattle.scalar.specs.declared.taken.Taken.{Taken}
use Rattle.scalar.proofs.Cases.{by_test}
use Rattle.scalar.proofs.GroupLaws.{null_depth}
use Rattle.cursor.specs.declared.Cursor.{Cursor}
use Rattle.cursor.specs.Steps.{cursor_of, outer, taken_of, moved_of, part_answer, Hands, used_of, key_place, PartFits, int_moved, step_moved, part_moved}

-- ---- a depth or a refusal

pub no_depth : {A : Type 0} {n d k : ℕ} → refused n d ≡ ok k → A
no_depth q = let z : ◌≡◌ {A = ℕ} 0 1 = cc in absurd (omega arith)

-- a refusal is one of any call
pub refusal_at : {A B : Type 0} {n d m e : ℕ} → ◌≡◌ {A = Answer A} (refused n d) (refused m e) → ◌≡◌ {A = Answer B} (refused n d) (refused m e)
refusal_at q = ap (λ a. and_then a (λ v. refused 0 0)) q

-- ---- what was read becomes a step

module _ (c : Cursor) (d : ℕ) (b : List ℕ) where
  int_moved_lem : (x : Read ℕ) {a : Answer (TakenField ℕ)} → a ≡ taken_from b x → int_moved d (cursor_of c) a ≡ cursor.moved_by b (cursor_of c) d x
  int_moved_lem (got v r) e = rw e
  int_moved_lem (bad n k) e = rw e

  step_moved_lem : (x : Read Unit) {a : Answer ℕ} → a ≡ end_of b x → step_moved d (cursor_of c) a ≡ cursor.moved_by b (cursor_of c) d x
  step_moved_lem (got u r) e = rw e
  step_moved_lem (bad n k) e = rw e

used_most : (b : List ℕ) (x : Read ℕ) → used_of (taken_from b x) ≤ length b
used_most b (got a r) = omega arith
used_most b (bad n d) = omega arith

module _ (key : List ℕ) (c : Cursor) (b : List ℕ) (e : b ≡ cursor.rest key (cursor_of c)) where
  -- what was taken ends in the key, and past the key's end nothing is taken
  behind : length key < 2 ^ 64 → c.at < 2 ^ 64 → {n : ℕ} → n ≤ length b → c.at + n < 2 ^ 64
  behind h k {n} l = omega (arith, ap length e ∙ length-drop c.at key)

  module _ (h : length key < 2 ^ 64) (k : c.at < 2 ^ 64) where
    module _ (g : Result (Taken ℕ) Refusal) where
      pub int_room : (x : Read ℕ) → got_int g ≡ taken_from b x → c.at + used_of (got_int g) < 2 ^ 64
      int_room x p = rw p (behind h k (used_most b x))

      pub i64_room : got_int g ≡ get_i64_call b → c.at + used_of (got_int g) < 2 ^ 64
      unfolding get_i64_call
      i64_room p = int_room (get_int b) p

      pub u64_room : got_int g ≡ get_u64_call b → c.at + used_of (got_int g) < 2 ^ 64
      unfolding get_u64_call
      u64_room p = int_room (get_uint b) p

      pub id_room : got_int g ≡ get_fact_id_call b → c.at + used_of (got_int g) < 2 ^ 64
      unfolding get_fact_id_call
      id_room p = int_room (get_fact_id b) p

  module _ (d : ℕ) (f : d ≡ cursor.deep (cursor_of c)) where
    -- numbers
    module _ (r : Result (ℕ × Cursor) Refusal) (g : Result (Taken ℕ) Refusal) where
      pub i64_taken : taken_of r ≡ int_moved d (cursor_of c) (got_int g) → got_int g ≡ get_i64_call b → taken_of r ≡ cursor.take_i64 key (cursor_of c)
      unfolding get_i64_call cursor.take_i64
      i64_taken m p = m ∙ rw (← e, ← f) (int_moved_lem c d b (get_int b) p)

      pub u64_taken : taken_of r ≡ int_moved d (cursor_of c) (got_int g) → got_int g ≡ get_u64_call b → taken_of r ≡ cursor.take_u64 key (cursor_of c)
      unfolding get_u64_call cursor.take_u64
      u64_taken m p = m ∙ rw (← e, ← f) (int_moved_lem c d b (get_uint b) p)

      pub id_taken : taken_of r ≡ int_moved d (cursor_of c) (got_int g) → got_int g ≡ get_fact_id_call b → taken_of r ≡ cursor.take_fact_id key (cursor_of c)
      unfolding get_fact_id_call cursor.take_fact_id
      id_taken m p = m ∙ rw (← e, ← f) (int_moved_lem c d b (get_fact_id b) p)

      pub union_taken : taken_of r ≡ int_moved (d + 1) (cursor_of c) (got_int g) → got_int g ≡ taken_from b (cursor.union_mark d b) → taken_of r ≡ cursor.open_union key (cursor_of c)
      unfolding cursor.open_union
      union_taken m p = m ∙ rw (← e, ← f) (int_moved_lem c (d + 1) b (cursor.union_mark d b) p)

    -- a null, and a record that opens
    module _ (r : Result Cursor Refusal) (g : Result ℕ Refusal) where
      pub null_taken : moved_of r ≡ step_moved d (cursor_of c) (answered g) → answered g ≡ end_of b (cursor.null_at (if (ltb 0 d) 1 0) b) → moved_of r ≡ cursor.take_null key (cursor_of c)
      unfolding cursor.take_null
      null_taken m p = m ∙ rw (← e, ← f) (step_moved_lem c d b (cursor.null_at d b) (p ∙ rw (null_depth d b)))

      pub record_opened : moved_of r ≡ step_moved (d + 1) (cursor_of c) (answered g) → answered g ≡ end_of b (cursor.record_mark d b) → moved_of r ≡ cursor.open_record key (cursor_of c)
      unfolding cursor.open_record
      record_opened m p = m ∙ rw (← e, ← f) (step_moved_lem c (d + 1) b (cursor.record_mark d b) p)

  -- the open group closes
  pub group_closed : (d : ℕ) → ok d ≡ outer (cursor_of c) → (r : Result Cursor Refusal) (g : Result ℕ Refusal)
      → moved_of r ≡ step_moved d (cursor_of c) (answered g) → answered g ≡ end_of b (cursor.group_end b) → moved_of r ≡ cursor.close key (cursor_of c)
  unfolding cursor.close
  group_closed d o r g m p =
      by_test (eqb c.depth 0) (λ t. no_depth (sym (rw t at o)))
      (λ t. let q : ok d ≡ ok (cursor.deep (cursor_of c) - 1) = rw t at o in
      let z : d ≡ cursor.deep (cursor_of c) - 1 = cc in m ∙ rw (t, ← e, ← z) (step_moved_lem c d b (cursor.group_end b) p))

  -- does the open group end here?
  module _ (z : c.depth ≡ 0 → ⊥) where
    pub ahead_eof : {t : Bool} → t ≡ eqb (length b) 0 → t ≡ true → refused 1 0 ≡ cursor.is_record_end key (cursor_of c)
    unfolding cursor.is_record_end
    ahead_eof {t} h k = rw (ne_eqb c.depth 0 z, ← e) (none b (eqb-true (length b) 0 (sym h ∙ k)))
      where
        none : (l : List ℕ) → length l ≡ 0 → refused 1 0 ≡ cursor.end_ahead l
        none [] h = refl
        none (x ∷ l) h = absurd (omega arith)

    pub ahead_some : {t : Bool} → t ≡ eqb (length b) 0 → t ≡ false → (q : Bool) → q ≡ ends_here b → ok q ≡ cursor.is_record_end key (cursor_of c)
    unfolding cursor.is_record_end
    ahead_some {t} h k q p = rw (ne_eqb c.depth 0 z, ← e) (some b (eqb-false (length b) 0 (sym h ∙ k)) p)
      where
        some : (l : List ℕ) → (length l ≡ 0 → ⊥) → q ≡ ends_here l → ok q ≡ cursor.end_ahead l
        some [] h p = absurd (h refl)
        some (x ∷ l) h p = rw p

-- outside every group
pub close_none : (key : List ℕ) (c : Cursor) {n d : ℕ} → refused n d ≡ outer (cursor_of c) → refused n d ≡ cursor.close key (cursor_of c)
unfolding cursor.close
close_none key c {n} {d} o = by_test (eqb c.depth 0) (λ t. rw t (refusal_at (rw t at o))) (λ t. no_depth (rw t at o))

pub ahead_none : (key : List ℕ) (c : Cursor) → c.depth ≡ 0 → ok false ≡ cursor.is_record_end key (cursor_of c)
unfolding cursor.is_record_end
ahead_none key c z = rw (eq-eqb c.depth 0 z)

-- ---- payloads

-- the three ways of placing a payload
by_place : (p s : List ℕ) {A : Type 0} → (has_zero p ≡ true → leb (length p) (length s) ≡ true → A) → (has_zero p ≡ true → leb (length p) (length s) ≡ false → A) → (has_zero p ≡ false → A) → A
by_place p s f g h = by_test (has_zero p) (λ t. by_test (leb (length p) (length s)) (λ u. f t u) (λ u. g t u)) h

part_most : (b s : List ℕ) (x : Read (List ℕ)) → used_of (placed_from 0 b s x).answer ≤ length b
part_most b s (got p r) = by_place p s (λ t u. rw (t, u) (omega arith)) (λ t u. rw (t, u) (omega arith)) (λ t. rw t (omega arith))
part_most b s (bad n d) = omega arith

place_most : (b s : List ℕ) (x : Read (List ℕ)) → key_place (placed_from 0 b s x).answer ≤ 1
place_most b s (got p r) = by_place p s (λ t u. rw (t, u) (omega arith)) (λ t u. rw (t, u) (omega arith)) (λ t. rw t (omega arith))
place_most b s (bad n d) = omega arith

str_place : (b s : List ℕ) → key_place (get_str_call b s).answer ≤ length b
unfolding get_str_call get_str
str_place [] s = omega arith
str_place (m ∷ b) s = let h = place_most (m ∷ b) s (get_str (m ∷ b)) in omega arith

bytes_place : (b s : List ℕ) → key_place (get_bytes_call b s).answer ≤ length b
unfolding get_bytes_call get_bytes
bytes_place [] s = omega arith
bytes_place (m ∷ b) s = let h = place_most (m ∷ b) s (get_bytes (m ∷ b)) in omega arith

-- the answer and the buffer for the rest of the key, and for the key
shift : (c : cursor.Cursor) (b s : List ℕ) (x : Read (List ℕ)) → part_moved c (placed_from 0 b s x).answer ≡ (cursor.payload_moved c (placed_from c.at b s x)).answer
shift c b s (got p r) = by_place p s (λ t u. rw (t, u)) (λ t u. rw (t, u)) (λ t. rw t)
shift c b s (bad n d) = refl

same_left : (n : ℕ) (b s : List ℕ) (x : Read (List ℕ)) → (placed_from 0 b s x).scratch ≡ (placed_from n b s x).scratch
same_left n b s (got p r) = by_place p s (λ t u. rw (t, u)) (λ t u. rw (t, u)) (λ t. rw t)
same_left n b s (bad m d) = refl

module _ (key : List ℕ) (c : Cursor) (b : List ℕ) (e : b ≡ cursor.rest key (cursor_of c)) (s : List ℕ) (g : Result (Taken Place) Refusal) (s' : List ℕ) where
  module _ (h : length key < 2 ^ 64) (k : c.at < 2 ^ 64) where
    pub str_room : Gives (get_str_call b s) g s' → PartFits c.at (got_part g)
    unfolding get_str_call
    str_room p = rw p.answer (record { behind = behind key c b e h k (part_most b s (get_str b)); start = behind key c b e h k (str_place b s) })

    pub bytes_room : Gives (get_bytes_call b s) g s' → PartFits c.at (got_part g)
    unfolding get_bytes_call
    bytes_room p = rw p.answer (record { behind = behind key c b e h k (part_most b s (get_bytes b)); start = behind key c b e h k (bytes_place b s) })

  module _ (r : Result (Place × Cursor) Refusal) (a : part_answer r ≡ part_moved (cursor_of c) (got_part g)) where
    hands : (x : Read (List ℕ)) → Gives (placed_from 0 b s x) g s' → Hands (cursor.payload_moved (cursor_of c) (placed_from c.at b s x)) r s'
    hands x p = record { answer = a ∙ ap (part_moved (cursor_of c)) p.answer ∙ shift (cursor_of c) b s x; left = p.left ∙ same_left c.at b s x }

    pub str_hands : Gives (get_str_call b s) g s' → Hands (cursor.take_str key (cursor_of c) s) r s'
    unfolding get_str_call cursor.take_str
    str_hands p = rw (← e) (hands (get_str b) p)

    pub bytes_hands : Gives (get_bytes_call b s) g s' → Hands (cursor.take_bytes key (cursor_of c) s) r s'
    unfolding get_bytes_call cursor.take_bytes
    bytes_hands p = rw (← e) (hands (get_bytes b) p)

-- What each answer of a step means, by cases, and how a field's answer becomes a step's.
use Rattle.std.specs.Prelude.{◌≡◌, Bool, List, ℕ, ◌+◌, ◌-◌, ◌^◌, ◌<◌, ltb, eqb, Result}
use Rattle.format.specs.Answer.{if, Answer, ok, refused, and_then, BadRecord}
use Rattle.format.specs.Refusals.{answered, answered_by}
use Rattle.format.specs.declared.refusal.Refusal.{Refusal}
use Rattle.format.specs.Encode.{max_depth}
use Rattle.format.specs.Fields.{Taken as TakenField, Place, in_key, in_scratch, part_of}
use Rattle.format.specs.Cursor as cursor
use Rattle.scalar.specs.Answers.{place_of}
use Rattle.scalar.specs.declared.payloads.Place.{Place as FoundPlace}
use Rattle.cursor.specs.declared.Cursor.{Cursor}

abbrev pub cursor_of : Cursor → cursor.Cursor
cursor_of c = record { at = c.at; depth = c.depth }

-- the depth in a group that opens, and behind the end of the one that is open: it opens at depth 0 to 255, and at depth 0 none is open
abbrev pub inner : cursor.Cursor → Answer ℕ
inner c = if (ltb (cursor.deep c) max_depth) (ok (cursor.deep c + 1)) (refused BadRecord 0)

abbrev pub outer : cursor.Cursor → Answer ℕ
outer c = if (eqb c.depth 0) (refused BadRecord 0) (ok (cursor.deep c - 1))

-- ---- the answers by document 01's numbers

-- a number, and the cursor behind it
abbrev pub taken_of : Result (ℕ × Cursor) Refusal → Answer (cursor.Moved ℕ)
taken_of = answered_by (λ t. record { value = t.0; next = cursor_of t.1 })

-- the cursor behind what has no value
abbrev pub moved_of : Result Cursor Refusal → Answer (cursor.Moved Unit)
moved_of = answered_by (λ c. record { value = tt; next = cursor_of c })

-- a payload's place, and the cursor behind it
abbrev pub part_answer : Result (FoundPlace × Cursor) Refusal → Answer (cursor.Moved Place)
part_answer = answered_by (λ t. record { value = place_of t.0; next = cursor_of t.1 })

abbrev pub end_of : Result Bool Refusal → Answer Bool
end_of = answered

-- the cursor behind what was written
abbrev pub wrote_of : Result Cursor Refusal → Answer cursor.Cursor
wrote_of = answered_by cursor_of

-- ---- what a step leaves

-- the answer and the scratch buffer are those of a definition's step
pub record Hands (p : cursor.MovedPayload) (r : Result (FoundPlace × Cursor) Refusal) (scratch : List ℕ) : Type 0 where
  pub answer : part_answer r ≡ p.answer
  pub left : scratch ≡ p.scratch

-- the answer and the buffer are those of a definition's step
pub record StepLeaves (w : cursor.Wrote) (r : Result Cursor Refusal) (buffer : List ℕ) : Type 0 where
  pub answer : wrote_of r ≡ w.answer
  pub left : buffer ≡ w.buffer

-- the part of the key or the scratch buffer that an answer names; a refused one is the empty part
abbrev pub part_in : List ℕ → List ℕ → Answer (cursor.Moved Place) → List ℕ
part_in key scratch a = part_of key scratch (and_then a (λ m. ok (record { value = m.value; used = 0 })))

-- ---- from a field's answer to a step's

-- how many bytes a field took; none where it is refused
abbrev pub used_of : {A : Type 0} → Answer (TakenField A) → ℕ
used_of (ok t) = t.used
used_of (refused n d) = 0

-- the same of what has no value
abbrev pub step_of : Answer ℕ → ℕ
step_of (ok n) = n
step_of (refused n d) = 0

-- where in the bytes a payload starts; 0 where it is not there
abbrev pub key_place : Answer (TakenField Place) → ℕ
key_place (ok t) = start_of t.value
  where
    start_of : Place → ℕ
    start_of (in_key at len) = at
    start_of (in_scratch len) = 0
key_place (refused n d) = 0

-- neither the place behind a payload's field nor that of the payload is too large
pub record PartFits (at : ℕ) (a : Answer (TakenField Place)) : Type 0 where
  pub behind : at + used_of a < 2 ^ 64
  pub start : at + key_place a < 2 ^ 64

-- a place in the rest of a key as one in the key
abbrev pub shifted : ℕ → Place → Place
shifted n (in_key at len) = in_key (n + at) len
shifted n (in_scratch len) = in_scratch len

abbrev pub int_moved : ℕ → cursor.Cursor → Answer (TakenField ℕ) → Answer (cursor.Moved ℕ)
int_moved depth c a = and_then a (λ t. ok (record { value = t.value; next = cursor.on_to c t.used depth }))

abbrev pub step_moved : ℕ → cursor.Cursor → Answer ℕ → Answer (cursor.Moved Unit)
step_moved depth c a = and_then a (λ n. ok (record { value = tt; next = cursor.on_to c n depth }))

abbrev pub part_moved : cursor.Cursor → Answer (TakenField Place) → Answer (cursor.Moved Place)
part_moved c a = and_then a (λ t. ok (record { value = shifted c.at t.value; next = cursor.on_to c t.used (cursor.deep c) }))

abbrev pub put_moved : ℕ → Answer ℕ → Answer cursor.Cursor
put_moved depth a = and_then a (λ at. ok (record { at = at; depth = depth }))

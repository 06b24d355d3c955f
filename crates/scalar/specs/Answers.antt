-- What each answer of a call means, by cases.
use Rattle.std.specs.Prelude.{◌≡◌, ℕ, ◌+◌, ◌≤◌, List, [], ◌∷◌, Result, length, take, ◌==◌, nat_lt}
use Rattle.format.specs.Answer.{if, Answer, ok, refused, no_room, UnexpectedEof, UnexpectedMark}
use Rattle.format.specs.Refusals.{answered, answered_by}
use Rattle.format.specs.Scalar.{tag_bytes}
use Rattle.format.specs.Read.{get_fact_id}
use Rattle.format.specs.Fields.{taken_from, Payload, in_key, in_scratch}
use Rattle.format.specs.Fields as fields
use Rattle.format.specs.declared.refusal.Refusal.{Refusal}
use Rattle.scalar.specs.declared.payloads.Place.{Place}
use Rattle.scalar.specs.declared.payloads.Place.TheVariants.{InKey, InScratch}
use Rattle.scalar.specs.declared.taken.Taken.{Taken}

-- a value that was read, by f, and how many bytes it took
abbrev pub taken_by : {A B : Type 0} → (A → B) → Taken A → fields.Taken B
taken_by f t = record { value = f t.value; used = t.used }

-- an integer and how many bytes it took
abbrev pub got_int : Result (Taken ℕ) Refusal → Answer (fields.Taken ℕ)
got_int r = answered_by (taken_by (λ n. n)) r

-- reading a reference where no type is at hand
unfoldable pub get_fact_id_call : List ℕ → Answer (fields.Taken ℕ)
get_fact_id_call bytes = taken_from bytes (get_fact_id bytes)

-- whether a reference fits its declared predicate
abbrev pub judged_of : Result Unit Refusal → Answer Unit
judged_of r = answered r

-- whether bytes begin with a mark
abbrev pub begins_with : ℕ → List ℕ → Answer Unit
begins_with mark [] = refused UnexpectedEof 0
begins_with mark (m ∷ bs) = if (m == mark) (ok tt) (refused UnexpectedMark m)

-- the first len of the bytes are a union's tag, no more and no fewer
pub record TagIn (disc : ℕ) (bytes : List ℕ) (len : ℕ) : Type 0 where
  pub front : take len bytes ≡ tag_bytes disc
  pub long : len ≡ length (tag_bytes disc)
  pub within : len ≤ length bytes

-- what writing n bytes at a place of a buffer of so many answers: a place past the buffer is NoRoom with that place
abbrev pub room_for : (len at n : ℕ) → Answer ℕ
room_for len at n = if (nat_lt len at) (no_room at) (if (nat_lt len (at + n)) (no_room (at + n)) (ok (at + n)))

-- where a payload is
abbrev pub place_of : Place → fields.Place
place_of (InKey at len) = in_key at len
place_of (InScratch len) = in_scratch len

-- where a payload is and how many bytes its field took
abbrev pub got_part : Result (Taken Place) Refusal → Answer (fields.Taken fields.Place)
got_part r = answered_by (taken_by place_of) r

-- the answer of a call that hands out a payload and the scratch buffer afterwards are those of its definition
pub record Gives (call : Payload) (r : Result (Taken Place) Refusal) (scratch : List ℕ) : Type 0 where
  pub answer : got_part r ≡ call.answer
  pub left : scratch ≡ call.scratch

-- Each step of format's cursors and of its string reader as the numbers of its C struct, for every case. A refused step has its number and its detail, the place
-- and the depth that were given, and 0 in every other field.
use Rattle.std.specs.Prelude.{◌≡◌, List, Bool, ℕ, Result, Ok, Err}
use Rattle.format.specs.Answer.{if, Answer, ok, refused}
use Rattle.format.specs.Refusals.{number_of, detail_of}
use Rattle.format.specs.declared.refusal.Refusal.{Refusal}
use Rattle.format.specs.Fields.{Place, in_key, in_scratch}
use Rattle.format.specs.Cursor as cursor
use Rattle.format.specs.Chars as chars
use Rattle.tuple.specs.Numbers.{Listed, Numbered}
use Rattle.tuple.specs.declared.answers.Length.{Length}
use Rattle.tuple.specs.declared.answers.Number.{Number}
use Rattle.tuple.specs.declared.steps.CursorStep.{CursorStep}
use Rattle.tuple.specs.declared.steps.PartStep.{PartStep}
use Rattle.tuple.specs.declared.steps.CharStep.{CharStep}

-- a depth over 256 reads as 256
abbrev pub cursor_at : (at depth : ℕ) → cursor.Cursor
cursor_at at depth = record { at = at; depth = cursor.deep (record { at = at; depth = depth }) }

-- ---- numbers

abbrev pub step_at : (value : ℕ) → cursor.Cursor → CursorStep
step_at v c = record { refusal = 0; detail = 0; value = v; at = c.at; depth = c.depth }

abbrev pub step_of : (at depth : ℕ) → Answer (cursor.Moved ℕ) → CursorStep
step_of at depth (ok m) = step_at m.value m.next
step_of at depth (refused n d) = record { refusal = n; detail = d; value = 0; at = at; depth = depth }

abbrev pub moved_step : (at depth : ℕ) → Answer (cursor.Moved Unit) → CursorStep
moved_step at depth (ok m) = step_at 0 m.next
moved_step at depth (refused n d) = record { refusal = n; detail = d; value = 0; at = at; depth = depth }

abbrev pub wrote_step : (at depth : ℕ) → Answer cursor.Cursor → CursorStep
wrote_step at depth (ok c) = step_at 0 c
wrote_step at depth (refused n d) = record { refusal = n; detail = d; value = 0; at = at; depth = depth }

abbrev pub key_part : (part len : ℕ) → cursor.Cursor → PartStep
key_part part len c = record { refusal = 0; detail = 0; source = 1; part = part; len = len; at = c.at; depth = c.depth }

abbrev pub scratch_part : (len : ℕ) → cursor.Cursor → PartStep
scratch_part len c = record { refusal = 0; detail = 0; source = 2; part = 0; len = len; at = c.at; depth = c.depth }

abbrev pub place_at : Place → cursor.Cursor → PartStep
place_at (in_key part len) c = key_part part len c
place_at (in_scratch len) c = scratch_part len c

abbrev pub part_of : (at depth : ℕ) → Answer (cursor.Moved Place) → PartStep
part_of at depth (ok m) = place_at m.value m.next
part_of at depth (refused n d) = record { refusal = n; detail = d; source = 0; part = 0; len = 0; at = at; depth = depth }

-- value 1: the open group ends here
abbrev pub end_number : Answer Bool → Number
end_number (ok b) = record { refusal = 0; detail = 0; value = if b 1 0; used = 0 }
end_number (refused n d) = record { refusal = n; detail = d; value = 0; used = 0 }

-- a new reader stands at place 0 of the bytes behind the mark
abbrev pub opened_length : Answer (List ℕ) → Length
opened_length (ok bytes) = record { refusal = 0; detail = 0; length = 0 }
opened_length (refused n d) = record { refusal = n; detail = d; length = 0 }

-- the same of whether one opens
abbrev pub opening_length : Result Unit Refusal → Length
opening_length (Ok u) = record { refusal = 0; detail = 0; length = 0 }
opening_length (Err e) = record { refusal = number_of e; detail = detail_of e; length = 0 }

abbrev pub given : (code at : ℕ) → Bool → CharStep
given code at done = record { refusal = 0; detail = 0; given = 1; code = code; at = at; done = done }

-- refusal 0: the end
abbrev pub broken : (refusal detail at : ℕ) → Bool → CharStep
broken n d at done = record { refusal = n; detail = d; given = 0; code = 0; at = at; done = done }

abbrev pub reader_step : chars.Step → (at : ℕ) → Bool → CharStep
reader_step (chars.Step.char code) at done = given code at done
reader_step chars.Step.end at done = broken 0 0 at done
reader_step (chars.Step.bad n d) at done = broken n d at done

abbrev pub char_of : chars.Stepped → CharStep
char_of t = reader_step t.step t.at t.done

-- ---- what a step answers and leaves in its lent buffer is what its definition says

pub record PartTaken (at depth : ℕ) (p : cursor.MovedPayload) (r : PartStep) (scratch : List ℕ) : Type 0 where
  pub answer : r ≡ part_of at depth p.answer
  pub left : scratch ≡ p.scratch

pub record StepWritten (at depth : ℕ) (w : cursor.Wrote) (r : CursorStep) (buffer : List ℕ) : Type 0 where
  pub answer : r ≡ wrote_step at depth w.answer
  pub left : buffer ≡ w.buffer

-- ---- refusal 0 says that a step was accepted

abbrev pub CharNumbered : chars.Step → Type 0
CharNumbered (chars.Step.char code) = Unit
CharNumbered chars.Step.end = Unit
CharNumbered (chars.Step.bad n d) = Listed n

-- in every step, whatever its arguments (proofs/Refusals)
pub record StepsNumbered : Type 0 where
  pub take_null : (bytes : List ℕ) (c : cursor.Cursor) → Numbered (cursor.take_null bytes c)
  pub take_i64 : (bytes : List ℕ) (c : cursor.Cursor) → Numbered (cursor.take_i64 bytes c)
  pub take_u64 : (bytes : List ℕ) (c : cursor.Cursor) → Numbered (cursor.take_u64 bytes c)
  pub take_fact_id : (bytes : List ℕ) (c : cursor.Cursor) → Numbered (cursor.take_fact_id bytes c)
  pub take_str : (bytes : List ℕ) (c : cursor.Cursor) (scratch : List ℕ) → Numbered (cursor.take_str bytes c scratch).answer
  pub take_bytes : (bytes : List ℕ) (c : cursor.Cursor) (scratch : List ℕ) → Numbered (cursor.take_bytes bytes c scratch).answer
  pub open_record : (bytes : List ℕ) (c : cursor.Cursor) → Numbered (cursor.open_record bytes c)
  pub open_union : (bytes : List ℕ) (c : cursor.Cursor) → Numbered (cursor.open_union bytes c)
  pub close : (bytes : List ℕ) (c : cursor.Cursor) → Numbered (cursor.close bytes c)
  pub is_record_end : (bytes : List ℕ) (c : cursor.Cursor) → Numbered (cursor.is_record_end bytes c)
  pub put_null : (out : List ℕ) (c : cursor.Cursor) → Numbered (cursor.put_null out c).answer
  pub put_record : (out : List ℕ) (c : cursor.Cursor) → Numbered (cursor.put_record out c).answer
  pub put_union : (out : List ℕ) (c : cursor.Cursor) (disc : ℕ) → Numbered (cursor.put_union out c disc).answer
  pub put_end : (out : List ℕ) (c : cursor.Cursor) → Numbered (cursor.put_end out c).answer
  pub str_chars : (bytes : List ℕ) → Numbered (chars.opened bytes)
  pub chars_next : (bytes : List ℕ) (at : ℕ) (done : Bool) → CharNumbered (chars.step_at bytes at done).step

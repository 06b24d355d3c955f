-- From what a step promises at the narrowed cursor, and how its answer became numbers, to what the exported step promises.
use mathlib.Core.Path.{◌≡◌, refl, ap, ◌∙◌}
use mathlib.Core.List.{List}
use mathlib.Core.Bool.{Bool, true, false}
use lib.Dec.{eqb}
use borrow.Author.Tests.{ne_eqb, lt-ltb, le-ltb}
use Rattle.format.specs.Answer.{if, Answer, ok, refused}
use Rattle.format.specs.Cursor as cursor
use Rattle.format.specs.Chars as chars
use Rattle.cursor.specs.Steps as steps
use Rattle.chars.specs.Reader.{step_of, stepped_of, opened_of}
use Rattle.chars.specs.declared.Stepped.{Stepped}
use Rattle.cursor.specs.declared.Cursor.{Cursor}
use Rattle.scalar.specs.declared.payloads.Place.{Place}
use Rattle.format.specs.declared.refusal.Refusal.{Refusal}
use Rattle.std.specs.Prelude.{Result, Ok, Err}
use Rattle.tuple.specs.StepNumbers.{part_of, wrote_step, opened_length, opening_length, reader_step, char_of, PartTaken, StepWritten}
use Rattle.tuple.specs.declared.answers.Length.{Length}
use Rattle.tuple.specs.declared.answers.Number.{Number}
use Rattle.tuple.specs.declared.steps.CursorStep.{CursorStep}
use Rattle.tuple.specs.declared.steps.CharStep.{CharStep}
use Rattle.tuple.specs.declared.steps.PartStep.{PartStep}
use Prim.Native.Nat.{ℕ, ◌<◌, ◌≤◌}

-- a depth as the definition reads it
pub deep_less : (c : cursor.Cursor) → c.depth < 256 → c.depth ≡ cursor.deep c
deep_less c h = rw (lt-ltb c.depth 256 h)

pub deep_more : (c : cursor.Cursor) → 256 ≤ c.depth → 256 ≡ cursor.deep c
deep_more c h = rw (le-ltb c.depth 256 h)

-- a step at one cursor is the step at an equal one
pub at_cursor : {A B : Type 0} (f : cursor.Cursor → A) (g : A → B) (c d : cursor.Cursor) (a : A) (r : B) → r ≡ g a → a ≡ f c → c ≡ d → r ≡ g (f d)
at_cursor f g c d a r e h k = e ∙ ap g (h ∙ ap f k)

pub taken : (g : List ℕ → cursor.Cursor → List ℕ → cursor.MovedPayload) (key scratch : List ℕ) (at depth : ℕ) (c d : cursor.Cursor) (t : Result (Place × Cursor) Refusal) (r : PartStep) (b : List ℕ)
    → r ≡ part_of at depth (steps.part_answer t) → steps.Hands (g key c scratch) t b → c ≡ d → PartTaken at depth (g key d scratch) r b
taken g key scratch at depth c d t r b e h k =
    record { answer = e ∙ ap (part_of at depth) (h.answer ∙ ap (λ x. (g key x scratch).answer) k); left = h.left ∙ ap (λ x. (g key x scratch).scratch) k }

pub written : (f : cursor.Cursor → cursor.Wrote) (at depth : ℕ) (c d : cursor.Cursor) (m : Result Cursor Refusal) (r : CursorStep) (b : List ℕ)
    → r ≡ wrote_step at depth (steps.wrote_of m) → steps.StepLeaves (f c) m b → c ≡ d → StepWritten at depth (f d) r b
written f at depth c d m r b e h k =
    record { answer = e ∙ ap (wrote_step at depth) (h.answer ∙ ap (λ x. (f x).answer) k); left = h.left ∙ ap (λ x. (f x).buffer) k }

abbrev pub ended : ℕ → Number
ended n = record { refusal = 0; detail = 0; value = n; used = 0 }

abbrev pub cursor_of : (at depth : ℕ) → cursor.Cursor
cursor_of at depth = record { at = at; depth = depth }

pub tagged : (g : List ℕ → cursor.Cursor → ℕ → cursor.Wrote) (buffer : List ℕ) (disc at depth : ℕ) (c d : cursor.Cursor) (m : Result Cursor Refusal) (r : CursorStep) (b : List ℕ)
    → r ≡ wrote_step at depth (steps.wrote_of m) → steps.StepLeaves (g buffer c disc) m b → c ≡ d → StepWritten at depth (g buffer d disc) r b
tagged g buffer disc = written (λ x. g buffer x disc)

pub opened : (x : Result Unit Refusal) (bs : List ℕ) (a : Answer (List ℕ)) (r : Length) → r ≡ opening_length x → opened_of x bs ≡ a → r ≡ opened_length a
opened (Ok u) bs a r e h = e ∙ ap opened_length h
opened (Err f) bs a r e h = e ∙ ap opened_length h

pub stepped : (s : chars.Stepped) (t : Stepped) (r : CharStep) → r ≡ reader_step (step_of t.step) t.at t.done → stepped_of t ≡ s → r ≡ char_of s
stepped s t r e h = e ∙ ap char_of h

-- What the reader's answers mean, by cases.
use Rattle.std.specs.Prelude.{◌≡◌, Bool, is_err, List, ℕ, drop, Option, Some, None, Result, Ok, Err}
use Rattle.format.specs.Answer.{Answer, ok, refused}
use Rattle.format.specs.Refusals.{number_of, detail_of}
use Rattle.format.specs.declared.refusal.Refusal.{Refusal}
use Rattle.format.specs.Chars as chars
use Rattle.chars.specs.declared.Stepped.{Stepped}
use Rattle.chars.specs.declared.StrChars.{StrChars}

-- what a step gives: a character's code point or the end; or a refusal
abbrev pub Step : Type 0
Step = Result (Option ℕ) Refusal

abbrev pub step_of : Step → chars.Step
step_of (Ok (Some code)) = chars.Step.char code
step_of (Ok None) = chars.Step.end
step_of (Err e) = chars.Step.bad (number_of e) (detail_of e)

abbrev pub stepped_of : Stepped → chars.Stepped
stepped_of t = record { step = step_of t.step; at = t.at; done = t.done }

-- the bytes that the reader of an opening holds, or the opening's refusal
abbrev pub opened_of : Result Unit Refusal → List ℕ → Answer (List ℕ)
opened_of (Ok u) bytes = ok bytes
opened_of (Err e) bytes = refused (number_of e) (detail_of e)

-- a refused reader is finished
abbrev pub closed : Result Unit Refusal → Bool
closed r = is_err r

pub record Opens (bytes : List ℕ) (r : Result Unit Refusal) : Type 0 where
  pub answer : opened_of r (drop 1 bytes) ≡ chars.opened bytes

-- a new reader, refused or not, holds the bytes behind the first and stands at their beginning
pub record Begins (bytes : List ℕ) (r : Result Unit Refusal) (text : List ℕ) (at : ℕ) (done : Bool) : Type 0 where
  pub opens : Opens bytes r
  pub held : text ≡ drop 1 bytes
  pub at_start : at ≡ 0
  pub finished : done ≡ closed r

-- one step of a lent reader: what it gives, and the reader afterwards, which holds the same bytes
pub record Moves (r : StrChars) (t : Step) (r' : StrChars) : Type 0 where
  pub gives : step_of t ≡ (chars.step_at r.bytes.now r.at r.done).step
  pub held : r'.bytes ≡ r.bytes
  pub place : r'.at ≡ (chars.step_at r.bytes.now r.at r.done).at
  pub flag : r'.done ≡ (chars.step_at r.bytes.now r.at r.done).done

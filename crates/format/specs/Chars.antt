-- StrChars, the string reader: the bytes behind the mark, a place and a finished flag; each step gives a character, the end or a refusal.
use Rattle.std.specs.Prelude.{ℕ, ◌+◌, List, [], ◌∷◌, Bool, true, false, ltb, eqb, length, take, drop}
use Rattle.format.specs.Answer.{if, Answer, ok, refused, UnexpectedEof, UnexpectedMark, BadString}
use Rattle.format.specs.Utf8.{first_char, code_of, utf8, within}
use Rattle.format.specs.Read.{starts_ff}

pub data Step : Type 0 where
  char : ℕ → Step
  end : Step
  bad : ℕ → ℕ → Step

-- a step, and the reader's place and flag after it
pub record Stepped : Type 0 where
  pub step : Step
  pub at : ℕ
  pub done : Bool

-- the lead widths of utf8_width, other leads taken as width 1
unfoldable pub lead_width : ℕ → ℕ
lead_width b = if (within 0xC0 0xDF b) 2 (if (within 0xE0 0xEF b) 3 (if (within 0xF0 0xF7 b) 4 1))

-- the end and a refusal finish the reader and leave its place
abbrev pub finished : Step → ℕ → Stepped
finished s at = record { step = s; at = at; done = true }

abbrev pub gave : ℕ → ℕ → Stepped
gave code next = record { step = char code; at = next; done = false }

-- a character that is not 00: enough bytes for its lead's width, then RFC 3629
abbrev pub sequence_at : ℕ → ℕ → List ℕ → Stepped
sequence_at at w bs =
    if (ltb (length bs) w) (finished (bad UnexpectedEof 0) at)
    (if (utf8 (take w bs)) (gave (code_of (first_char bs)) (at + w)) (finished (bad BadString 0) at))

-- 00 FF is the character 0; a 00 not followed by FF is the end
unfoldable pub step_on : ℕ → List ℕ → Stepped
step_on at [] = finished (bad UnexpectedEof 0) at
step_on at (b ∷ bs) = if (eqb b 0) (if (starts_ff bs) (gave 0 (at + 2)) (finished end at)) (sequence_at at (lead_width b) (b ∷ bs))

-- once finished it gives only the end; a place past the bytes has none left
unfoldable pub step_at : List ℕ → ℕ → Bool → Stepped
step_at s at true = finished end at
step_at s at false = step_on at (drop at s)

-- a new reader stands behind the mark 21
unfoldable pub opened : List ℕ → Answer (List ℕ)
opened [] = refused UnexpectedEof 0
opened (m ∷ bs) = if (eqb m 0x21) (ok bs) (refused UnexpectedMark m)

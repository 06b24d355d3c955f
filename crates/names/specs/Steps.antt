-- The steps of a new reader, one after another, and beside them what get_str answers.
use Rattle.std.specs.Prelude.{◌≡◌, ℕ, List, ◌∷◌, map, drop, replicate, slice_set, Result, Ok, None}
use Rattle.format.specs.Fields.{get_str_call, part_of}
use Rattle.format.specs.Chars as format
use Rattle.format.specs.declared.refusal.Refusal.{Refusal}
use Rattle.scalar.specs.Answers as scalar
use Rattle.chars.specs.Reader.{Step, step_of, closed, Opens}
use Rattle.chars.specs.Names.{steps_from}
use Rattle.chars.specs.Scrolling.{Scrolled}
use Rattle.names.specs.declared.Seen.{Seen}
use Rattle.names.specs.declared.Given.{Given}
use Rattle.names.specs.declared.Panel.{Panel}

abbrev pub step_in : Seen → format.Step
step_in x = step_of x.step

-- an opening, before any step
abbrev pub start : Result Unit Refusal → Given
start opened = record { opened = opened; seen = replicate 12 (record { step = Ok None }) }

-- the step i noted
abbrev pub with : Given → ℕ → Step → Given
with g i t = record { opened = g.opened; seen = slice_set g.seen i (record { step = t }) }

-- a name's opening, and twelve steps of the new reader
pub record Gives (name : List ℕ) (g : Given) : Type 0 where
  pub opens : Opens name g.opened
  pub steps : map step_in g.seen ≡ steps_from (drop 1 name) 0 (closed g.opened) 12

abbrev pub tells_of : Given → List Step
tells_of g = map (λ (x : Seen). x.step) g.seen

-- a name's opening and steps, and get_str's answer; of a name that begins with the mark 21, the steps give what get_str decodes (U14)
pub record Shows (name scratch : List ℕ) (b : Panel) (left : List ℕ) : Type 0 where
  pub given : Gives name b.given
  pub got : scalar.Gives (get_str_call name scratch) b.got left
  pub scrolled : (s : List ℕ) → name ≡ 0x21 ∷ s → Scrolled name (tells_of b.given) b.got (part_of name left (scalar.got_part b.got))

-- Names as a caller from C has them, who scrolls a name on a panel: of each call no more is known than its contract (proofs/ScrollLaws has the proofs).
use Rattle.std.specs.Prelude.{◌≡◌, ◌≢◌, Bool, false, List, [], ◌∷◌, map, ℕ, ◌≤◌, eqb, length}
use Rattle.format.specs.Answer.{if, shown, NoRoom}
use Rattle.format.specs.Fields.{get_str_call, part_within}
use Rattle.format.specs.Chars.{Step, step_at, opened}
use Rattle.chars.specs.Names.{codes_of, Shown}
use Rattle.tuple.specs.Numbers.{Hands}
use Rattle.tuple.specs.StepNumbers.{opened_length, char_of}
use Rattle.tuple.specs.declared.answers.Length.{Length}
use Rattle.tuple.specs.declared.answers.Part.{Part}
use Rattle.tuple.specs.declared.steps.CharStep.{CharStep}

-- what a step tells: given 1 a character; else refusal 0 the end
abbrev pub told_by : CharStep → Step
told_by r = if (eqb r.given 1) (Step.char r.code) (if (eqb r.refusal 0) Step.end (Step.bad r.refusal r.detail))

-- calls of tuple_chars_next on the bytes behind the mark, each at the place and with the flag that the one before left
pub data Ran (text : List ℕ) : (at : ℕ) (done : Bool) → List CharStep → Type 0 where
  ended : (at : ℕ) (done : Bool) → Ran text at done []
  next : (at : ℕ) (done : Bool) (r : CharStep) (rs : List CharStep) → r ≡ char_of (step_at text at done) → Ran text r.at r.done rs → Ran text at done (r ∷ rs)

-- the part that an answer names: source 1 the key from a place on, 2 the scratch buffer's beginning
abbrev pub part_by : (bytes scratch : List ℕ) → Part → List ℕ
part_by bytes scratch p = if (eqb p.source 1) (part_within bytes p.at p.len) (if (eqb p.source 2) (part_within scratch 0 p.len) [])

-- with scratch enough tuple_get_str accepts, and the part is the name
abbrev pub Decodes : (bytes name : List ℕ) → Type 0
Decodes bytes name = (scratch : List ℕ) (p : Part) (left : List ℕ) → Hands (get_str_call bytes scratch) p left → length name ≤ length scratch
    → (p.refusal ≡ 0) × (part_by bytes left p ≡ name)

-- the steps so far give these characters and then this
abbrev pub ShownBy : (bytes : List ℕ) → List CharStep → (codes : List ℕ) → Step → Type 0
ShownBy bytes rs codes last = Shown bytes (length rs) (map told_by rs) codes last

-- the steps of a new reader beside tuple_get_str's answer to the same bytes, and what that call left in the scratch buffer
pub record Scrolled (bytes : List ℕ) (rs : List CharStep) (p : Part) (left : List ℕ) : Type 0 where
  pub accepted : p.refusal ≡ 0 → ShownBy bytes rs (codes_of (part_by bytes left p)) Step.end
  pub short : p.refusal ≡ NoRoom → (name : List ℕ) × (p.detail ≡ shown (length name)) × Decodes bytes name × ShownBy bytes rs (codes_of name) Step.end
  pub refuses : p.refusal ≢ 0 → p.refusal ≢ NoRoom → (codes : List ℕ) × (m k : ℕ) × ShownBy bytes rs codes (Step.bad m k)

-- U14 of the calls from C
pub record Scrolls : Type 0 where
  pub opens : (s : List ℕ) (o : Length) → o ≡ opened_length (opened (0x21 ∷ s)) → (o.refusal ≡ 0) × (o.length ≡ 0)
  pub scrolled : (s scratch : List ℕ) (rs : List CharStep) (p : Part) (left : List ℕ) → Ran s 0 false rs → Hands (get_str_call (0x21 ∷ s) scratch) p left
      → Scrolled (0x21 ∷ s) rs p left

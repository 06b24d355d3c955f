-- Names as a caller of str_chars, next, get_str and the picker has them, who scrolls a name on a panel: of each call no more is known than its contract.
use Rattle.std.specs.Prelude.{◌≡◌, ◌≢◌, List, [], ◌∷◌, map, ℕ, ◌≤◌, length, Result, IsOk}
use Rattle.format.specs.Answer.{ok, refused, shown, NoRoom}
use Rattle.format.specs.Fields.{get_str_call, part_of}
use Rattle.format.specs.Fields as fields
use Rattle.format.specs.declared.refusal.Refusal.{Refusal}
use Rattle.format.specs.Chars as chars
use Rattle.scalar.specs.Answers.{Gives, got_part}
use Rattle.scalar.specs.declared.payloads.Place.{Place}
use Rattle.scalar.specs.declared.taken.Taken.{Taken}
use Rattle.chars.specs.Reader.{Step, step_of, Begins, Moves}
use Rattle.chars.specs.Names.{codes_of, Shown}
use Rattle.chars.specs.declared.StrChars.{StrChars}
use Rattle.chars.specs.declared.Opened.{Opened}

-- what str_chars says of a new reader
abbrev pub Began : (bytes : List ℕ) → Opened → Type 0
Began bytes o = Begins bytes o.opened o.chars.bytes.now o.chars.at o.chars.done

-- calls of next, each on the reader that the one before left
pub data Ran : StrChars → List Step → Type 0 where
  ended : (r : StrChars) → Ran r []
  next : (r : StrChars) (t : Step) (r' : StrChars) (ts : List Step) → Moves r t r' → Ran r' ts → Ran r (t ∷ ts)

-- what get_str answers
abbrev pub GotPart : Type 0
GotPart = Result (Taken Place) Refusal

-- a call of get_str, and the part that the picker hands out of the bytes and what the call left in the scratch buffer
pub record Got (bytes scratch : List ℕ) (g : GotPart) (part : List ℕ) : Type 0 where
  pub left : List ℕ
  pub answer : Gives (get_str_call bytes scratch) g left
  pub picked : part ≡ part_of bytes left (got_part g)

-- with scratch enough a call of get_str accepts, and the part is the name
abbrev pub Decodes : (bytes name : List ℕ) → Type 0
Decodes bytes name = (scratch : List ℕ) (g : GotPart) (part : List ℕ) → Got bytes scratch g part → length name ≤ length scratch
    → ((t : fields.Taken fields.Place) × (got_part g ≡ ok t)) × (part ≡ name)

-- the steps so far give these characters and then this
abbrev pub ShownBy : (bytes : List ℕ) → List Step → (codes : List ℕ) → chars.Step → Type 0
ShownBy bytes ts codes last = Shown bytes (length ts) (map step_of ts) codes last

-- the steps of a new reader beside get_str's answer to the same bytes
pub record Scrolled (bytes : List ℕ) (ts : List Step) (g : GotPart) (part : List ℕ) : Type 0 where
  pub accepted : (t : fields.Taken fields.Place) → got_part g ≡ ok t → ShownBy bytes ts (codes_of part) chars.Step.end
  pub short : (d : ℕ) → got_part g ≡ refused NoRoom d
      → (name : List ℕ) × (d ≡ shown (length name)) × Decodes bytes name × ShownBy bytes ts (codes_of name) chars.Step.end
  pub refuses : (n d : ℕ) → n ≢ NoRoom → got_part g ≡ refused n d → (codes : List ℕ) × (m k : ℕ) × ShownBy bytes ts codes (chars.Step.bad m k)

-- U14 of the calls (proofs/ScrollLaws)
pub record Scrolls : Type 0 where
  pub opens : (s : List ℕ) (o : Opened) → Began (0x21 ∷ s) o → IsOk o.opened
  pub scrolled : (s scratch : List ℕ) (o : Opened) (ts : List Step) (g : GotPart) (part : List ℕ) → Began (0x21 ∷ s) o → Ran o.chars ts → Got (0x21 ∷ s) scratch g part
      → Scrolled (0x21 ∷ s) ts g part

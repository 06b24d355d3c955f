-- Names as their characters (U14): a new reader beside get_str on the same bytes, which begin with the mark 21. The claims are about the very definitions that the
-- contracts of str_chars, next, get_str and the picker cite (proofs/NameLaws has the proofs; Scrolling says it of the calls).
use Rattle.std.specs.Prelude.{◌≡◌, ◌≢◌, Bool, false, List, [], ◌∷◌, ℕ, zero, suc, ◌+◌, ◌≤◌, pred, length, drop, replicate}
use Rattle.format.specs.Answer.{ok, refused, shown, NoRoom}
use Rattle.format.specs.Utf8.{first_char, width_of, code_of}
use Rattle.format.specs.Fields.{Taken, Place, Payload, get_str_call, part_of}
use Rattle.format.specs.Chars.{Step, step_at, opened}

-- ---- steps and characters

-- the first n steps of a reader, from a place and a flag on
unfoldable pub steps_from : (s : List ℕ) (at : ℕ) (done : Bool) (n : ℕ) → List Step
steps_from s at done zero = []
steps_from s at done (suc n) = (step_at s at done).step ∷ steps_from s (step_at s at done).at (step_at s at done).done n

-- those of a new reader of bytes that begin with the mark
abbrev pub steps_of : (bytes : List ℕ) (n : ℕ) → List Step
steps_of bytes n = steps_from (drop 1 bytes) 0 false n

-- the code points of the characters behind the next k bytes of text, one after another, by RFC 3629
unfoldable pub codes_from : ℕ → List ℕ → List ℕ
codes_from k [] = []
codes_from (suc k) (b ∷ r) = codes_from k r
codes_from zero (b ∷ r) = code_of (first_char (b ∷ r)) ∷ codes_from (pred (width_of (first_char (b ∷ r)))) r

abbrev pub codes_of : List ℕ → List ℕ
codes_of s = codes_from 0 s

-- n steps that give these characters, then this, and afterwards only the end
unfoldable pub giving : List ℕ → Step → ℕ → List Step
giving codes last zero = []
giving [] last (suc n) = last ∷ replicate n Step.end
giving (c ∷ codes) last (suc n) = Step.char c ∷ giving codes last n

-- the name that get_str decodes: the part that the picker hands out of the key and the scratch buffer
abbrev pub name_in : (bytes : List ℕ) → Payload → List ℕ
name_in bytes p = part_of bytes p.scratch p.answer

-- ---- the claims

-- of n steps on the bytes: they give these characters and then this; the steps until this one are, with it, at most the number of bytes after the mark plus 1
pub record Shown (bytes : List ℕ) (n : ℕ) (steps : List Step) (codes : List ℕ) (last : Step) : Type 0 where
  pub given : steps ≡ giving codes last n
  pub few : length codes + 1 ≤ length (drop 1 bytes) + 1

-- over any number of steps the characters so far are the beginning of the name, and the end comes right after its last one
abbrev pub Spells : (bytes name : List ℕ) → Type 0
Spells bytes name = (n : ℕ) → Shown bytes n (steps_of bytes n) (codes_of name) Step.end

-- no end comes before a refusal
pub record Breaks (bytes : List ℕ) : Type 0 where
  pub codes : List ℕ
  pub refusal : ℕ
  pub detail : ℕ
  pub steps : (n : ℕ) → Shown bytes n (steps_of bytes n) codes (Step.bad refusal detail)

-- with scratch enough, as many bytes as NoRoom shows, get_str decodes a name, and the reader gives that one
pub record WithRoom (bytes : List ℕ) (detail : ℕ) : Type 0 where
  pub name : List ℕ
  pub long : detail ≡ shown (length name)
  pub accepts : (scratch : List ℕ) → length name ≤ length scratch → (t : Taken Place) × ((get_str_call bytes scratch).answer ≡ ok t)
  pub decodes : (scratch : List ℕ) → length name ≤ length scratch → name_in bytes (get_str_call bytes scratch) ≡ name
  pub spelt : Spells bytes name

-- a new reader, and get_str with a scratch buffer of any size
pub record Named (bytes scratch : List ℕ) : Type 0 where
  pub opens : opened bytes ≡ ok (drop 1 bytes)
  pub accepted : (t : Taken Place) → (get_str_call bytes scratch).answer ≡ ok t → Spells bytes (name_in bytes (get_str_call bytes scratch))
  pub short : (d : ℕ) → (get_str_call bytes scratch).answer ≡ refused NoRoom d → WithRoom bytes d
  pub refuses : (n d : ℕ) → n ≢ NoRoom → (get_str_call bytes scratch).answer ≡ refused n d → Breaks bytes

-- whatever follows the mark
pub record Names : Type 0 where
  pub named : (s scratch : List ℕ) → Named (0x21 ∷ s) scratch

-- Why there is no type, where keylist writes the row of no type alone: what it says of it on standard error.
use Rattle.std.specs.Prelude.{ℕ, ◌+◌, Bool, true, false, List, [], ◌∷◌, leb, eqb, length}
use Rattle.std.proofs.Math.Option.{Option, some, none}
use Rattle.format.specs.Answer.{if}
use Rattle.format.specs.TypeSheet.{is_some, type_of}
use Rattle.format.specs.Keylist.{max_input, Line, lines_of, parts_of, word_of, type_in}
use Rattle.keylines.specs.declared.reason.Reason.{Reason}

abbrev pub carriage_return : ℕ
carriage_return = 0x0D

-- whether a byte stands in a text
unfoldable pub has : ℕ → List ℕ → Bool
has b [] = false
has b (x ∷ xs) = if (eqb x b) true (has b xs)

-- the place, from the one given on, of the first part that is no type word
unfoldable pub bad_word : ℕ → List (List ℕ) → Option ℕ
bad_word place [] = none
bad_word place (p ∷ ps) = if (is_some (word_of p)) (bad_word (place + 1) ps) (some place)

abbrev pub admits : Option (List ℕ) → Bool
admits (some ty) = is_some (type_of ty)
admits none = false

abbrev pub in_words : (bad : Option ℕ) (admitted : Bool) → Option Reason
in_words (some place) t = some (Reason.BadWord place)
in_words none true = none
in_words none false = some Reason.NotAdmitted

abbrev pub in_text : List ℕ → Option Reason
in_text s = if (has carriage_return s) (some Reason.CarriageReturn) (in_words (bad_word 1 (parts_of s)) (admits (type_in s)))

abbrev pub in_lines : List Line → Option Reason
in_lines [] = some Reason.NoLine
in_lines (l ∷ ls) = if l.ended (in_text l.text) (some Reason.NoLine)

-- none where the input has an admitted type
unfoldable pub reason : List ℕ → Option Reason
reason input = if (leb (length input) max_input) (in_lines (lines_of input)) (some Reason.TooLong)

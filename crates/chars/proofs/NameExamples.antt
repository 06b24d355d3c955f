-- U14's examples, computed: steps of a new reader beside what get_str answers and decodes.
use mathlib.Core.Path.{◌≡◌, refl}
use mathlib.Core.List.{List, [], ◌∷◌}
use Prim.Native.Nat.{ℕ}
use lib.ListN.{replicate}
use Rattle.format.specs.Answer.{Answer, refused}
use Rattle.format.specs.Utf8.{first_char, second, third, fourth, lead3, lead4, text_from}
use Rattle.format.specs.Read.{get_run, starts_ff, get_str}
use Rattle.format.specs.Fields.{Taken, Place, has_zero, get_str_call}
use Rattle.format.specs.Chars.{Step, lead_width, step_on, step_at}
use Rattle.chars.specs.Names.{steps_from, steps_of, codes_from, codes_of, name_in}

abbrev decoded : (bytes scratch : List ℕ) → List ℕ
decoded bytes scratch = name_in bytes (get_str_call bytes scratch)

abbrev refusal : (bytes scratch : List ℕ) → Answer (Taken Place)
refusal bytes scratch = (get_str_call bytes scratch).answer

-- characters of one to four bytes
pub codes_agree : codes_of (0x41 ∷ 0xC3 ∷ 0xA9 ∷ 0xE2 ∷ 0x82 ∷ 0xAC ∷ 0xF0 ∷ 0x9F ∷ 0x98 ∷ 0x80 ∷ 0x00 ∷ []) ≡ 0x41 ∷ 0xE9 ∷ 0x20AC ∷ 0x1F600 ∷ 0x00 ∷ []
unfolding codes_from first_char second third fourth lead3 lead4
codes_agree = refl

-- 21 C3 A9 00 FF 41 00: the characters, then only the end; the name; with three bytes of scratch NoRoom that shows four
abbrev name : List ℕ
name = 0x21 ∷ 0xC3 ∷ 0xA9 ∷ 0x00 ∷ 0xFF ∷ 0x41 ∷ 0x00 ∷ []

pub name_agrees : (steps_of name 1 ≡ Step.char 0xE9 ∷ []) × (steps_of name 5 ≡ Step.char 0xE9 ∷ Step.char 0x00 ∷ Step.char 0x41 ∷ Step.end ∷ Step.end ∷ [])
unfolding steps_from step_at step_on starts_ff lead_width text_from first_char second third fourth lead3 lead4
name_agrees = (refl, refl)

pub name_decoded : (decoded name (replicate 4 0) ≡ 0xC3 ∷ 0xA9 ∷ 0x00 ∷ 0x41 ∷ []) × (refusal name (replicate 3 0) ≡ refused 17 4)
unfolding get_str_call get_str get_run has_zero text_from first_char second third fourth lead3 lead4
name_decoded = (refl, refl)

-- bytes behind the run play no part
pub behind_agrees : (steps_of (0x21 ∷ 0x41 ∷ 0x00 ∷ 0x80 ∷ []) 2 ≡ Step.char 0x41 ∷ Step.end ∷ []) × (decoded (0x21 ∷ 0x41 ∷ 0x00 ∷ 0x80 ∷ []) [] ≡ 0x41 ∷ [])
unfolding steps_from step_at step_on starts_ff lead_width get_str_call get_str get_run has_zero text_from first_char second third fourth lead3 lead4
behind_agrees = (refl, refl)

-- both refuse, and not with the same number: 21 E2 00 and 21 80
pub numbers_differ : (steps_of (0x21 ∷ 0xE2 ∷ 0x00 ∷ []) 1 ≡ Step.bad 1 0 ∷ []) × (refusal (0x21 ∷ 0xE2 ∷ 0x00 ∷ []) [] ≡ refused 4 0)
    × (steps_of (0x21 ∷ 0x80 ∷ []) 1 ≡ Step.bad 4 0 ∷ []) × (refusal (0x21 ∷ 0x80 ∷ []) [] ≡ refused 1 0)
unfolding steps_from step_at step_on starts_ff lead_width get_str_call get_str get_run has_zero text_from first_char second third fourth lead3 lead4
numbers_differ = (refl, refl, refl, refl)

-- as many steps as there are bytes after the mark, and one: 21 and 21 41
pub steps_needed : (steps_of (0x21 ∷ []) 1 ≡ Step.bad 1 0 ∷ []) × (steps_of (0x21 ∷ 0x41 ∷ []) 2 ≡ Step.char 0x41 ∷ Step.bad 1 0 ∷ [])
unfolding steps_from step_at step_on starts_ff lead_width text_from first_char
steps_needed = (refl, refl)

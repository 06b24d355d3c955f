-- Cases of RFC 3629: the euro sign, U+10FFFF, an overlong slash, a surrogate, past U+10FFFF, a cut character.
use mathlib.Core.List.{[], ◌∷◌}
use mathlib.Core.Bool.{true, false}
use mathlib.Core.Path.{◌≡◌, refl}
use Rattle.format.specs.Utf8.{char, none, first_char, second, third, fourth, text_from, utf8, lead3, lead4}

euro : first_char (0xE2 ∷ 0x82 ∷ 0xAC ∷ []) ≡ char 3 0x20AC
unfolding first_char second third lead3
euro = refl

last_one : first_char (0xF4 ∷ 0x8F ∷ 0xBF ∷ 0xBF ∷ 0x41 ∷ []) ≡ char 4 0x10FFFF
unfolding first_char second third fourth lead3 lead4
last_one = refl

overlong : first_char (0xC0 ∷ 0xAF ∷ []) ≡ none
unfolding first_char second third
overlong = refl

surrogate : first_char (0xED ∷ 0xA0 ∷ 0x80 ∷ []) ≡ none
unfolding first_char second third fourth lead3
surrogate = refl

past_the_end : first_char (0xF4 ∷ 0x90 ∷ 0x80 ∷ 0x80 ∷ []) ≡ none
unfolding first_char second third fourth lead3 lead4
past_the_end = refl

mixed : utf8 (0x41 ∷ 0xE2 ∷ 0x89 ∷ 0xA2 ∷ 0xCE ∷ 0x91 ∷ 0x2E ∷ []) ≡ true
unfolding text_from first_char second third fourth lead3
mixed = refl

cut : utf8 (0x41 ∷ 0xE2 ∷ 0x89 ∷ []) ≡ false
unfolding text_from first_char second third fourth lead3
cut = refl

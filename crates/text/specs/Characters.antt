-- The character at a place, as the code answers it.
use Rattle.std.specs.Prelude.{Option, Some, None}
use Rattle.format.specs.Utf8.{Char, char, none}
use Rattle.text.specs.declared.characters.Character.{Character}

abbrev pub char_of : Option Character → Char
char_of (Some c) = char c.width c.code
char_of None = none

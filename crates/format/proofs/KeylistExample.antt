-- The example of document 01 for keylist, computed from the definition: `5 2 3 1`, `530a004907`, `530a00ff004907`, `530a` give `1 0 0 2`, `2 0 0 2`, `3 1 0 1`.
use mathlib.Core.Path.{◌≡◌, refl}
use mathlib.Core.List.{List, [], ◌∷◌}
use Prim.Native.Nat.{ℕ}
use Rattle.format.specs.TypeSheet.{any_type, one_type, types, type_at, type_of}
use lib.Count.{count_leading_zeros}
use Rattle.format.specs.Scalar.{width}
use Rattle.format.specs.Read.{number, get_big, width_is, get_uint, get_int, starts_ff, ends_here, get_run, get_bytes}
use Rattle.format.specs.Decode.{decode, decode_bare, decode_key, whole}
use Rattle.format.specs.Calls.{check_key_call}
use Rattle.format.specs.Keylist.{lines_of, parts_of, decimal_from, word_of, words_of, type_in, hex_digit, key_in, digits, decimal, row, key_rows, keylist}

abbrev pub input : List ℕ
input =
    0x35 ∷ 0x09 ∷ 0x32 ∷ 0x09 ∷ 0x33 ∷ 0x09 ∷ 0x31 ∷ 0x0A
    ∷ 0x35 ∷ 0x33 ∷ 0x30 ∷ 0x61 ∷ 0x30 ∷ 0x30 ∷ 0x34 ∷ 0x39 ∷ 0x30 ∷ 0x37 ∷ 0x0A
    ∷ 0x35 ∷ 0x33 ∷ 0x30 ∷ 0x61 ∷ 0x30 ∷ 0x30 ∷ 0x66 ∷ 0x66 ∷ 0x30 ∷ 0x30 ∷ 0x34 ∷ 0x39 ∷ 0x30 ∷ 0x37 ∷ 0x0A
    ∷ 0x35 ∷ 0x33 ∷ 0x30 ∷ 0x61 ∷ 0x0A ∷ []

abbrev pub output : List ℕ
output =
    0x31 ∷ 0x09 ∷ 0x30 ∷ 0x09 ∷ 0x30 ∷ 0x09 ∷ 0x32 ∷ 0x0A
    ∷ 0x32 ∷ 0x09 ∷ 0x30 ∷ 0x09 ∷ 0x30 ∷ 0x09 ∷ 0x32 ∷ 0x0A
    ∷ 0x33 ∷ 0x09 ∷ 0x31 ∷ 0x09 ∷ 0x30 ∷ 0x09 ∷ 0x31 ∷ 0x0A ∷ []

pub example : keylist input ≡ output
unfolding keylist lines_of parts_of decimal_from word_of words_of type_in hex_digit key_in digits decimal row key_rows any_type one_type types
    type_at type_of number get_big width_is get_uint get_int starts_ff ends_here get_run decode decode_bare decode_key whole check_key_call get_bytes width count_leading_zeros
example = refl

-- an optional Int and its blank: one value begun
pub blank_line : keylist (0x37 ∷ 0x09 ∷ 0x31 ∷ 0x0A ∷ 0x30 ∷ 0x30 ∷ 0x0A ∷ []) ≡ 0x31 ∷ 0x09 ∷ 0x30 ∷ 0x09 ∷ 0x30 ∷ 0x09 ∷ 0x31 ∷ 0x0A ∷ []
unfolding keylist lines_of parts_of decimal_from word_of words_of type_in hex_digit key_in digits decimal row key_rows any_type one_type types
    type_at type_of number get_big width_is get_uint get_int starts_ff ends_here get_run decode decode_bare decode_key whole check_key_call get_bytes width count_leading_zeros
blank_line = refl

-- The twelve starred specimens of document 01, in its order, computed from the definitions there and back.
use mathlib.Core.Path.{◌≡◌, refl}
use mathlib.Core.List.{List, [], ◌∷◌, map}
use Prim.Native.Nat.{ℕ, ◌+◌, ◌-◌, ◌*◌, ◌^◌}
use lib.Count.{count_leading_zeros}
use Rattle.format.specs.Answer.{Answer, ok}
use Rattle.format.specs.Tree.{Ty, Tys, Alts, Val, Vals}
use Rattle.format.specs.Sheet.{field_count, val_count}
use Rattle.format.specs.Utf8.{text_from, first_char}
use Rattle.format.specs.Scalar.{sequence_bits, be, width, uint_bytes, neg_bytes, int_bytes, escaped}
use Rattle.format.specs.Encode.{encode, encode_typed, key_bytes, encode_key, fits, fits_ref, in_union, val_bytes}
use Rattle.format.specs.Read.{number, get_big, width_is, get_uint, get_neg, get_int, starts_ff, ends_here, get_run, get_str, get_ref}
use Rattle.format.specs.Decode.{Decoded, decode, decode_bare, decode_typed, decode_key, union_end, whole}

-- a type, a value, its bytes and the values begun in decoding them: through encode_typed and decode_typed, or through encode_key and decode_key
pub data Specimen : Type 0 where
  typed : Ty → Val → List ℕ → ℕ → Specimen
  key : Ty → Val → List ℕ → ℕ → Specimen

-- the bytes of the value, and what the bytes hold
pub record Pair : Type 0 where
  pub bytes : Answer (List ℕ)
  pub back : Decoded Val

abbrev pub computed : Specimen → Pair
computed (typed t v bs n) = record { bytes = encode_typed t v; back = decode_typed t bs }
computed (key t v bs n) = record { bytes = encode_key t v; back = decode_key t bs }

abbrev pub stated : Specimen → Pair
stated (typed t v bs n) = record { bytes = ok bs; back = Decoded.got v [] n }
stated (key t v bs n) = record { bytes = ok bs; back = Decoded.got v [] n }

abbrev pub specimens : List Specimen
specimens =
    typed Ty.Int (Val.Int 0) (0x48 ∷ []) 1
    ∷ typed Ty.Int (Val.Int 255) (0x49 ∷ 0xFF ∷ []) 1
    ∷ typed Ty.Int (Val.Int 256) (0x4A ∷ 0x01 ∷ 0x00 ∷ []) 1
    ∷ typed Ty.Int (Val.Int (2 ^ 64 - 1)) (0x47 ∷ 0xFE ∷ []) 1
    ∷ typed Ty.Int (Val.Int (2 ^ 64 - 255)) (0x47 ∷ 0x00 ∷ []) 1
    ∷ typed Ty.Int (Val.Int (2 ^ 64 - 256)) (0x46 ∷ 0xFE ∷ 0xFF ∷ []) 1
    ∷ typed Ty.Int (Val.Int (2 ^ 63 - 1)) (0x50 ∷ 0x7F ∷ 0xFF ∷ 0xFF ∷ 0xFF ∷ 0xFF ∷ 0xFF ∷ 0xFF ∷ 0xFF ∷ []) 1
    ∷ typed Ty.Int (Val.Int (2 ^ 63)) (0x40 ∷ 0x7F ∷ 0xFF ∷ 0xFF ∷ 0xFF ∷ 0xFF ∷ 0xFF ∷ 0xFF ∷ 0xFF ∷ []) 1
    ∷ typed Ty.Str (Val.Str (0x00 ∷ [])) (0x21 ∷ 0x00 ∷ 0xFF ∷ 0x00 ∷ []) 1
    ∷ typed (Ty.Record Tys.NoTy) (Val.Record Vals.NoVal) (0x22 ∷ 0x00 ∷ []) 1
    ∷ key (Ty.Record Tys.NoTy) (Val.Record Vals.NoVal) [] 0
    ∷ typed (Ty.Union (Alts.AddAlt 1 Ty.Int Alts.NoAlt)) (Val.Union 1 (Val.Int 0)) (0x52 ∷ 0x49 ∷ 0x01 ∷ 0x48 ∷ 0x00 ∷ []) 2
    ∷ typed (Ty.Ref 7) (Val.Ref (7 * 2 ^ sequence_bits + 1)) (0x51 ∷ 0x00 ∷ 0x00 ∷ 0x07 ∷ 0x00 ∷ 0x00 ∷ 0x00 ∷ 0x00 ∷ 0x01 ∷ []) 1
    ∷ []

pub specimens_agree : map computed specimens ≡ map stated specimens
unfolding encode encode_key key_bytes fits fits_ref val_bytes be width count_leading_zeros uint_bytes neg_bytes int_bytes escaped text_from first_char field_count
    val_count in_union decode decode_bare decode_key whole number get_big width_is get_uint get_neg get_int starts_ff ends_here get_run get_str get_ref union_end
specimens_agree = refl

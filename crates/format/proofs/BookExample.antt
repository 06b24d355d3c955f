-- A list of replacements on a tank's key, computed from the definitions: by the call and by the book, accepted, refused by each check, grown and shrunk.
use mathlib.Core.Path.{◌≡◌, refl}
use mathlib.Core.List.{List, [], ◌∷◌}
use Prim.Native.Nat.{ℕ}
use lib.Count.{count_leading_zeros}
use Rattle.format.specs.Answer.{ok, refused}
use Rattle.format.specs.Tree.{Ty, Tys, Val, Vals}
use Rattle.format.specs.Sheet.{field_count, val_count}
use Rattle.format.specs.TypeSheet.{one_type, types, any_type, type_at, type_of}
use Rattle.format.specs.ValueSheet.{one_value, values, value_at, value_of}
use Rattle.format.specs.Scalar.{width, be, uint_bytes, neg_bytes, int_bytes, escaped}
use Rattle.format.specs.Encode.{key_bytes, encode_key, fits, val_bytes}
use Rattle.format.specs.Read.{number, get_big, width_is, get_uint, get_int, starts_ff, ends_here, get_run, get_bytes}
use Rattle.format.specs.Decode.{decode, decode_bare, decode_key, whole}
use Rattle.format.specs.Bounds.{firsts}
use Rattle.format.specs.Replace.{field_at, set_field, spliced}
use Rattle.format.specs.Calls.{encode_key_call, replace_call}
use Rattle.format.specs.Book.{Call, Seen, Book, run_calls, entered, run_book}

abbrev ty : List ℕ
ty = 5 ∷ 2 ∷ 3 ∷ 1 ∷ []

abbrev lent : List ℕ
lent = 0xEE ∷ 0xEE ∷ 0xEE ∷ 0xEE ∷ 0xEE ∷ 0xEE ∷ 0xEE ∷ 0xEE ∷ []

-- tank 0A, number 7
abbrev book : Book
book = record {
  types = Tys.AddTy Ty.Bytes (Tys.AddTy Ty.Int Tys.NoTy);
  fields = Vals.AddVal (Val.Bytes (0x0A ∷ [])) (Vals.AddVal (Val.Int 7) Vals.NoVal);
  buffer = 0x53 ∷ 0x0A ∷ 0x00 ∷ 0x49 ∷ 0x07 ∷ 0xEE ∷ 0xEE ∷ 0xEE ∷ [];
  used = 5;
}

opens : encode_key_call ty (5 ∷ 2 ∷ 3 ∷ 1 ∷ 1 ∷ 7 ∷ []) (0x0A ∷ []) lent ≡ record { answer = ok 5; buffer = book.buffer }
unfolding encode_key_call type_of type_at any_type one_type types value_of value_at one_value values encode_key key_bytes fits val_bytes field_count val_count int_bytes uint_bytes neg_bytes be width count_leading_zeros escaped
opens = refl

abbrev calls : List Call
calls =
    record { field = 0; words = 3 ∷ 2 ∷ []; pool = 0x0A ∷ 0x00 ∷ [] }
    ∷ record { field = 2; words = 9 ∷ []; pool = [] }
    ∷ record { field = 1; words = 9 ∷ []; pool = [] }
    ∷ record { field = 1; words = 0 ∷ []; pool = [] }
    ∷ record { field = 0; words = 3 ∷ 5 ∷ []; pool = 1 ∷ 2 ∷ 3 ∷ 4 ∷ 5 ∷ [] }
    ∷ record { field = 0; words = 3 ∷ 0 ∷ []; pool = [] }
    ∷ []

abbrev grown : List ℕ
grown = 0x53 ∷ 0x0A ∷ 0x00 ∷ 0xFF ∷ 0x00 ∷ 0x49 ∷ 0x07 ∷ 0xEE ∷ []

-- the tank renamed 0A 00; NoField; BadValue; TypeMismatch of an Int; NoRoom with the nine bytes needed; the tank without a name, whose bytes past the end stay
abbrev seen : List Seen
seen =
    record { answer = ok 7; used = 7; buffer = grown }
    ∷ record { answer = refused 18 0; used = 7; buffer = grown }
    ∷ record { answer = refused 16 0; used = 7; buffer = grown }
    ∷ record { answer = refused 11 1; used = 7; buffer = grown }
    ∷ record { answer = refused 17 9; used = 7; buffer = grown }
    ∷ record { answer = ok 4; used = 4; buffer = 0x53 ∷ 0x00 ∷ 0x49 ∷ 0x07 ∷ 0x00 ∷ 0x49 ∷ 0x07 ∷ 0xEE ∷ [] }
    ∷ []

by_calls : run_calls ty book.buffer 5 calls ≡ seen
unfolding run_calls replace_call type_of type_at any_type one_type types value_of value_at one_value values encode_key key_bytes fits val_bytes field_count val_count
    int_bytes uint_bytes neg_bytes be width count_leading_zeros escaped decode decode_bare decode_key whole get_bytes get_run get_int get_uint get_big width_is number starts_ff ends_here spliced set_field field_at firsts
by_calls = refl

by_book : run_book book calls ≡ seen
unfolding run_book entered value_of value_at one_value values encode_key key_bytes fits val_bytes field_count val_count int_bytes uint_bytes neg_bytes be width count_leading_zeros escaped set_field
by_book = refl

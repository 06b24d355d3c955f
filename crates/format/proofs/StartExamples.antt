-- Beginnings computed from the definitions: both ends of accepted calls, with zeros and FF at the end of s, and calls refused by each check, in the order of the checks.
use mathlib.Core.Path.{◌≡◌, refl}
use mathlib.Core.List.{List, [], ◌∷◌, map}
use Prim.Native.Nat.{ℕ}
use lib.ListN.{take}
use Rattle.format.specs.Answer.{Answer, ok, refused}
use Rattle.format.specs.Sheet.{field_count, val_count}
use Rattle.format.specs.TypeSheet.{one_type, types, alts, any_type, type_at, type_of}
use Rattle.format.specs.ValueSheet.{one_value, values, value_at, value_of}
use Rattle.format.specs.Scalar.{escaped, run_start}
use Rattle.format.specs.Utf8.{text_from}
use Rattle.format.specs.Encode.{fits, val_bytes}
use Rattle.format.specs.Bounds.{trimmed, raised, strinc}
use Rattle.format.specs.Calls.{Ends, Bounded, TwoEnds}
use Rattle.format.specs.Spans.{first_tys, field_type, prefix_for, prefix_call}

-- one field: a Str, a Bytes, an optional Str
abbrev str : List ℕ
str = 5 ∷ 1 ∷ 2 ∷ []

abbrev bytes : List ℕ
bytes = 5 ∷ 1 ∷ 3 ∷ []

abbrev optional : List ℕ
optional = 5 ∷ 1 ∷ 7 ∷ 2 ∷ []

-- what a call of such a type is to write for a beginning
abbrev asks : (ty s : List ℕ) → Answer TwoEnds
asks ty s = prefix_for ty (5 ∷ 0 ∷ []) [] s

abbrev ends : (low high : List ℕ) → Answer TwoEnds
ends low high = ok (record { low = low; high = high })

-- 're'; no byte; half of é; a byte that begins no character; a zero; a zero behind 0A; two zeros; FF; 0A FF FF; 00 FF; 'r' of an optional field
abbrev asked : List (Answer TwoEnds)
asked =
    asks str (0x72 ∷ 0x65 ∷ [])
    ∷ asks str []
    ∷ asks bytes []
    ∷ asks str (0xC3 ∷ [])
    ∷ asks str (0x80 ∷ [])
    ∷ asks str (0x00 ∷ [])
    ∷ asks bytes (0x0A ∷ 0x00 ∷ [])
    ∷ asks bytes (0x00 ∷ 0x00 ∷ [])
    ∷ asks bytes (0xFF ∷ [])
    ∷ asks bytes (0x0A ∷ 0xFF ∷ 0xFF ∷ [])
    ∷ asks bytes (0x00 ∷ 0xFF ∷ [])
    ∷ asks optional (0x72 ∷ [])
    ∷ prefix_for (5 ∷ 2 ∷ 3 ∷ 2 ∷ []) (5 ∷ 1 ∷ 3 ∷ 1 ∷ []) (0x0A ∷ []) (0x72 ∷ 0x65 ∷ [])
    ∷ prefix_for (5 ∷ 2 ∷ 7 ∷ 1 ∷ 2 ∷ []) (5 ∷ 1 ∷ 0 ∷ []) [] []
    ∷ []

abbrev due : List (Answer TwoEnds)
due =
    ends (0x21 ∷ 0x72 ∷ 0x65 ∷ []) (0x21 ∷ 0x72 ∷ 0x66 ∷ [])
    ∷ ends (0x21 ∷ []) (0x22 ∷ [])
    ∷ ends (0x53 ∷ []) (0x54 ∷ [])
    ∷ ends (0x21 ∷ 0xC3 ∷ []) (0x21 ∷ 0xC4 ∷ [])
    ∷ ends (0x21 ∷ 0x80 ∷ []) (0x21 ∷ 0x81 ∷ [])
    ∷ ends (0x21 ∷ 0x00 ∷ 0xFF ∷ []) (0x21 ∷ 0x01 ∷ [])
    ∷ ends (0x53 ∷ 0x0A ∷ 0x00 ∷ 0xFF ∷ []) (0x53 ∷ 0x0A ∷ 0x01 ∷ [])
    ∷ ends (0x53 ∷ 0x00 ∷ 0xFF ∷ 0x00 ∷ 0xFF ∷ []) (0x53 ∷ 0x00 ∷ 0xFF ∷ 0x01 ∷ [])
    ∷ ends (0x53 ∷ 0xFF ∷ []) (0x54 ∷ [])
    ∷ ends (0x53 ∷ 0x0A ∷ 0xFF ∷ 0xFF ∷ []) (0x53 ∷ 0x0B ∷ [])
    ∷ ends (0x53 ∷ 0x00 ∷ 0xFF ∷ 0xFF ∷ []) (0x53 ∷ 0x01 ∷ [])
    ∷ ends (0x21 ∷ 0x72 ∷ []) (0x21 ∷ 0x73 ∷ [])
    ∷ ends (0x53 ∷ 0x0A ∷ 0x00 ∷ 0x21 ∷ 0x72 ∷ 0x65 ∷ []) (0x53 ∷ 0x0A ∷ 0x00 ∷ 0x21 ∷ 0x72 ∷ 0x66 ∷ [])
    ∷ ends (0x00 ∷ 0x21 ∷ []) (0x00 ∷ 0x22 ∷ [])
    ∷ []

pub starts_agree : asked ≡ due
unfolding prefix_for type_of type_at any_type one_type types alts value_of value_at one_value values fits val_bytes field_count val_count first_tys field_type run_start escaped text_from strinc trimmed raised
starts_agree = refl

-- refused: an Int, an optional Int, a record around a Str, no record, an optional Str by itself, no field behind the first; a type that is none; a first sheet that is no
-- record; the next field's kind before the first value; that value before the room
abbrev refusals : List (Answer TwoEnds)
refusals =
    asks (5 ∷ 1 ∷ 1 ∷ []) []
    ∷ asks (5 ∷ 1 ∷ 7 ∷ 1 ∷ []) []
    ∷ asks (5 ∷ 1 ∷ 5 ∷ 1 ∷ 2 ∷ []) []
    ∷ asks (2 ∷ []) []
    ∷ asks (7 ∷ 2 ∷ []) []
    ∷ prefix_for str (5 ∷ 1 ∷ 2 ∷ 0 ∷ []) [] []
    ∷ asks (7 ∷ 7 ∷ 2 ∷ []) []
    ∷ prefix_for (1 ∷ []) (2 ∷ 0 ∷ []) [] []
    ∷ prefix_for (5 ∷ 2 ∷ 3 ∷ 1 ∷ []) (5 ∷ 1 ∷ 1 ∷ 1 ∷ []) [] []
    ∷ prefix_for (5 ∷ 2 ∷ 3 ∷ 2 ∷ []) (5 ∷ 1 ∷ 1 ∷ 1 ∷ []) [] []
    ∷ []

abbrev numbers : List (Answer TwoEnds)
numbers = refused 18 0 ∷ refused 18 0 ∷ refused 18 0 ∷ refused 18 0 ∷ refused 18 0 ∷ refused 18 0 ∷ refused 15 0 ∷ refused 16 0 ∷ refused 18 0 ∷ refused 11 3 ∷ []

pub refusals_agree : refusals ≡ numbers
unfolding prefix_for type_of type_at any_type one_type types alts value_of value_at one_value values fits val_bytes field_count val_count first_tys field_type run_start escaped text_from strinc trimmed raised
refusals_agree = refl

-- ---- room: 're' with rooms 2 and 0, 3 and 2, 3 and 3; a zero, whose upper end is shorter, with 3 and 1, 3 and 2

abbrev nothing : ℕ → List ℕ
nothing n = take n (0x55 ∷ 0x55 ∷ 0x55 ∷ [])

abbrev rooms : List (Answer Ends)
rooms = map (λ (c : Bounded). c.answer) (
    prefix_call str (5 ∷ 0 ∷ []) [] (0x72 ∷ 0x65 ∷ []) (nothing 2) (nothing 0)
    ∷ prefix_call str (5 ∷ 0 ∷ []) [] (0x72 ∷ 0x65 ∷ []) (nothing 3) (nothing 2)
    ∷ prefix_call str (5 ∷ 0 ∷ []) [] (0x72 ∷ 0x65 ∷ []) (nothing 3) (nothing 3)
    ∷ prefix_call str (5 ∷ 0 ∷ []) [] (0x00 ∷ []) (nothing 3) (nothing 1)
    ∷ prefix_call str (5 ∷ 0 ∷ []) [] (0x00 ∷ []) (nothing 3) (nothing 2)
    ∷ [])

abbrev answers : List (Answer Ends)
answers = refused 17 3 ∷ refused 17 3 ∷ ok (record { lower = 3; upper = 3 }) ∷ refused 17 2 ∷ ok (record { lower = 3; upper = 2 }) ∷ []

pub rooms_agree : rooms ≡ answers
unfolding prefix_call prefix_for type_of type_at any_type one_type types alts value_of value_at one_value values fits val_bytes field_count val_count first_tys field_type run_start escaped text_from strinc trimmed raised
rooms_agree = refl

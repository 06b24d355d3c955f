-- Spans computed from the definitions: accepted ones on fields of several kinds, and one refused by each check, in the order of the checks.
use mathlib.Core.Path.{◌≡◌, refl}
use mathlib.Core.List.{List, [], ◌∷◌, map}
use Prim.Native.Nat.{ℕ}
use lib.Count.{count_leading_zeros}
use Rattle.format.specs.Answer.{Answer, ok, refused}
use Rattle.format.specs.Sheet.{field_count, val_count}
use Rattle.format.specs.TypeSheet.{one_type, types, alts, any_type, type_at, type_of}
use Rattle.format.specs.ValueSheet.{one_value, values, value_at, value_of}
use Rattle.format.specs.Scalar.{width, be, uint_bytes, neg_bytes, int_bytes, tag_bytes, escaped}
use Rattle.format.specs.Utf8.{text_from}
use Rattle.format.specs.Encode.{fits, in_union, val_bytes}
use Rattle.format.specs.Calls.{Bounded, TwoEnds}
use Rattle.format.specs.Spans.{first_tys, field_type, span_for, span_call}

abbrev tank : List ℕ
tank = 5 ∷ 2 ∷ 3 ∷ 1 ∷ []

-- the first field 0A
abbrev first : List ℕ
first = 5 ∷ 1 ∷ 3 ∷ 1 ∷ []

-- and none
abbrev zeroth : List ℕ
zeroth = 5 ∷ 0 ∷ []

-- what a call of this type, with these first fields and the pool that they have, from a lowest to a highest, which have none, is to write
abbrev asks : (ty words pool low high : List ℕ) → Answer TwoEnds
asks ty words pool low high = span_for ty words pool low [] high []

abbrev ends : (low high : List ℕ) → Answer TwoEnds
ends low high = ok (record { low = low; high = high })

-- the batches 40 to 60 of tank 0A, and of tank 0A 00; 60 to 40; -1 to 0 as the first field; a record; a union; Null to 60 where the field is optional
abbrev asked : List (Answer TwoEnds)
asked =
    asks tank first (0x0A ∷ []) (1 ∷ 40 ∷ []) (1 ∷ 60 ∷ [])
    ∷ asks tank (5 ∷ 1 ∷ 3 ∷ 2 ∷ []) (0x0A ∷ 0x00 ∷ []) (1 ∷ 40 ∷ []) (1 ∷ 60 ∷ [])
    ∷ asks tank first (0x0A ∷ []) (1 ∷ 60 ∷ []) (1 ∷ 40 ∷ [])
    ∷ asks (5 ∷ 1 ∷ 1 ∷ []) zeroth [] (1 ∷ 0xFFFFFFFFFFFFFFFF ∷ []) (1 ∷ 0 ∷ [])
    ∷ asks (5 ∷ 1 ∷ 5 ∷ 1 ∷ 1 ∷ []) zeroth [] (5 ∷ 1 ∷ 1 ∷ 0 ∷ []) (5 ∷ 1 ∷ 1 ∷ 1 ∷ [])
    ∷ asks (5 ∷ 1 ∷ 6 ∷ 2 ∷ 1 ∷ 1 ∷ 2 ∷ 2 ∷ []) zeroth [] (6 ∷ 1 ∷ 1 ∷ 0 ∷ []) (6 ∷ 2 ∷ 2 ∷ 0 ∷ [])
    ∷ asks (5 ∷ 2 ∷ 3 ∷ 7 ∷ 1 ∷ []) first (0x0A ∷ []) (0 ∷ []) (1 ∷ 60 ∷ [])
    ∷ []

abbrev due : List (Answer TwoEnds)
due =
    ends (0x53 ∷ 0x0A ∷ 0x00 ∷ 0x49 ∷ 0x28 ∷ []) (0x53 ∷ 0x0A ∷ 0x00 ∷ 0x49 ∷ 0x3C ∷ 0xFF ∷ [])
    ∷ ends (0x53 ∷ 0x0A ∷ 0x00 ∷ 0xFF ∷ 0x00 ∷ 0x49 ∷ 0x28 ∷ []) (0x53 ∷ 0x0A ∷ 0x00 ∷ 0xFF ∷ 0x00 ∷ 0x49 ∷ 0x3C ∷ 0xFF ∷ [])
    ∷ ends (0x53 ∷ 0x0A ∷ 0x00 ∷ 0x49 ∷ 0x3C ∷ []) (0x53 ∷ 0x0A ∷ 0x00 ∷ 0x49 ∷ 0x28 ∷ 0xFF ∷ [])
    ∷ ends (0x47 ∷ 0xFE ∷ []) (0x48 ∷ 0xFF ∷ [])
    ∷ ends (0x22 ∷ 0x48 ∷ 0x00 ∷ []) (0x22 ∷ 0x49 ∷ 0x01 ∷ 0x00 ∷ 0xFF ∷ [])
    ∷ ends (0x52 ∷ 0x49 ∷ 0x01 ∷ 0x48 ∷ 0x00 ∷ []) (0x52 ∷ 0x49 ∷ 0x02 ∷ 0x21 ∷ 0x00 ∷ 0x00 ∷ 0xFF ∷ [])
    ∷ ends (0x53 ∷ 0x0A ∷ 0x00 ∷ 0x00 ∷ []) (0x53 ∷ 0x0A ∷ 0x00 ∷ 0x49 ∷ 0x3C ∷ 0xFF ∷ [])
    ∷ []

pub spans_agree : asked ≡ due
unfolding span_for type_of type_at any_type one_type types alts value_of value_at one_value values fits val_bytes field_count val_count first_tys field_type int_bytes uint_bytes neg_bytes be width count_leading_zeros escaped tag_bytes text_from in_union
spans_agree = refl

-- no type, whatever the sheets; a first sheet that is no Record, before 18; a highest that is no sheet, before 18; no record type, and no field behind two of two;
-- the first value, before the lowest; the lowest, before the highest
abbrev turned_down : List (Answer TwoEnds)
turned_down =
    asks (9 ∷ []) (9 ∷ []) [] (9 ∷ []) (9 ∷ [])
    ∷ asks (1 ∷ []) (0 ∷ []) [] (1 ∷ 40 ∷ []) (1 ∷ 60 ∷ [])
    ∷ asks tank (3 ∷ 1 ∷ []) (0x0A ∷ []) (1 ∷ 40 ∷ []) (1 ∷ 60 ∷ [])
    ∷ asks (1 ∷ []) zeroth [] (1 ∷ 40 ∷ []) (9 ∷ [])
    ∷ asks (1 ∷ []) zeroth [] (1 ∷ 40 ∷ []) (1 ∷ 60 ∷ [])
    ∷ asks tank (5 ∷ 2 ∷ 3 ∷ 1 ∷ 1 ∷ 7 ∷ []) (0x0A ∷ []) (1 ∷ 40 ∷ []) (1 ∷ 60 ∷ [])
    ∷ asks tank (5 ∷ 1 ∷ 1 ∷ 1 ∷ []) [] (0 ∷ []) (0 ∷ [])
    ∷ asks tank first (0x0A ∷ []) (0 ∷ []) (2 ∷ 0 ∷ [])
    ∷ []

pub refusals_agree : turned_down ≡ refused 15 0 ∷ refused 16 0 ∷ refused 16 0 ∷ refused 16 0 ∷ refused 18 0 ∷ refused 18 0 ∷ refused 11 3 ∷ refused 11 1 ∷ []
unfolding span_for type_of type_at any_type one_type types value_of value_at one_value values fits val_bytes field_count val_count first_tys field_type text_from
refusals_agree = refl

-- room: the lower end's first; where the upper end is short the lower buffer stays
abbrev called : (lower upper : List ℕ) → Bounded
called lower upper = span_call tank first (0x0A ∷ []) (1 ∷ 40 ∷ []) [] (1 ∷ 60 ∷ []) [] lower upper

pub rooms_agree : map (λ (b : List ℕ). called b b) ((0xEE ∷ 0xEE ∷ 0xEE ∷ 0xEE ∷ []) ∷ (0xEE ∷ 0xEE ∷ 0xEE ∷ 0xEE ∷ 0xEE ∷ []) ∷ [])
    ≡ record { answer = refused 17 5; lower = 0xEE ∷ 0xEE ∷ 0xEE ∷ 0xEE ∷ []; upper = 0xEE ∷ 0xEE ∷ 0xEE ∷ 0xEE ∷ [] }
    ∷ record { answer = refused 17 6; lower = 0xEE ∷ 0xEE ∷ 0xEE ∷ 0xEE ∷ 0xEE ∷ []; upper = 0xEE ∷ 0xEE ∷ 0xEE ∷ 0xEE ∷ 0xEE ∷ [] }
    ∷ []
unfolding span_call span_for type_of type_at any_type one_type types value_of value_at one_value values fits val_bytes field_count val_count first_tys field_type int_bytes uint_bytes neg_bytes be width count_leading_zeros escaped
rooms_agree = refl

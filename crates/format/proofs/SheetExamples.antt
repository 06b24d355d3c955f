-- Sheets worked by hand.
use Prim.Native.Nat.{ℕ, zero, suc}
use mathlib.Core.List.{List, [], ◌∷◌}
use mathlib.Core.Option.{some, none}
use mathlib.Core.Bool.{true, false}
use mathlib.Core.Path.{◌≡◌, refl}
use Rattle.format.specs.Tree.{Ty, Tys, Alts, Val, Vals}
use Rattle.format.specs.Utf8.{text_from, first_char, second, third, lead3}
use Rattle.format.specs.TypeSheet.{type_of, type_at, any_type, one_type, types, alts, is_some}
use Rattle.format.specs.ValueSheet.{value_of, value_at, one_value, values}

-- the type of the scope's sample input: a record of bytes and an integer
sample : type_of (5 ∷ 2 ∷ 3 ∷ 1 ∷ []) ≡ some (Ty.Record (Tys.AddTy Ty.Bytes (Tys.AddTy Ty.Int Tys.NoTy)))
unfolding type_of type_at any_type one_type types alts
sample = refl

-- a union with one alternative, and no alternative
union : type_of (6 ∷ 1 ∷ 7 ∷ 4 ∷ 9 ∷ []) ≡ some (Ty.Union (Alts.AddAlt 7 (Ty.Ref 9) Alts.NoAlt))
unfolding type_of type_at any_type one_type types alts
union = refl

empty_union : type_of (6 ∷ 0 ∷ []) ≡ some (Ty.Union Alts.NoAlt)
unfolding type_of type_at any_type one_type types alts
empty_union = refl

-- refused: nothing, a word too many, an unknown kind, a count that nothing follows
refused_none : type_of [] ≡ none
unfolding type_of type_at any_type one_type types alts
refused_none = refl

refused_more : type_of (1 ∷ 1 ∷ []) ≡ none
unfolding type_of type_at any_type one_type types alts
refused_more = refl

refused_kind : type_of (5 ∷ 1 ∷ 7 ∷ []) ≡ none
unfolding type_of type_at any_type one_type types alts
refused_kind = refl

refused_count : type_of (5 ∷ 4294967295 ∷ 1 ∷ []) ≡ none
unfolding type_of type_at any_type one_type types alts
refused_count = refl

-- optional types: one; a 7 straight before another; a 7 that is a discriminant, and one that is a predicate, before one that is not
optional : type_of (5 ∷ 2 ∷ 7 ∷ 3 ∷ 1 ∷ []) ≡ some (Ty.Record (Tys.AddTy (Ty.Optional Ty.Bytes) (Tys.AddTy Ty.Int Tys.NoTy)))
unfolding type_of type_at any_type one_type types alts
optional = refl

refused_seven : type_of (7 ∷ 7 ∷ 1 ∷ []) ≡ none
unfolding type_of type_at any_type one_type types alts
refused_seven = refl

seven_as_tag : type_of (6 ∷ 1 ∷ 7 ∷ 7 ∷ 1 ∷ []) ≡ some (Ty.Union (Alts.AddAlt 7 (Ty.Optional Ty.Int) Alts.NoAlt))
unfolding type_of type_at any_type one_type types alts
seven_as_tag = refl

seven_as_predicate : type_of (5 ∷ 2 ∷ 4 ∷ 7 ∷ 7 ∷ 1 ∷ []) ≡ some (Ty.Record (Tys.AddTy (Ty.Ref 7) (Tys.AddTy (Ty.Optional Ty.Int) Tys.NoTy)))
unfolding type_of type_at any_type one_type types alts
seven_as_predicate = refl

-- n records in one another
abbrev deep : ℕ → List ℕ
deep zero = 1 ∷ []
deep (suc n) = 5 ∷ 1 ∷ deep n

just_deep : is_some (type_of (deep 320)) ≡ true
unfolding type_of type_at any_type one_type types alts
just_deep = refl

too_deep : is_some (type_of (deep 321)) ≡ false
unfolding type_of type_at any_type one_type types alts
too_deep = refl

-- a record of the bytes 0A and the integer 7; a union; text, and what is not text
value : value_of (5 ∷ 2 ∷ 3 ∷ 1 ∷ 1 ∷ 7 ∷ []) (0x0A ∷ []) ≡ some (Val.Record (Vals.AddVal (Val.Bytes (0x0A ∷ [])) (Vals.AddVal (Val.Int 7) Vals.NoVal)))
unfolding value_of value_at one_value values
value = refl

tagged : value_of (6 ∷ 4294967295 ∷ 0 ∷ []) [] ≡ some (Val.Union 4294967295 Val.Null)
unfolding value_of value_at one_value values
tagged = refl

refused_tag : value_of (6 ∷ 4294967296 ∷ 0 ∷ []) [] ≡ none
unfolding value_of value_at one_value values
refused_tag = refl

text : value_of (2 ∷ 3 ∷ []) (0xE2 ∷ 0x82 ∷ 0xAC ∷ []) ≡ some (Val.Str (0xE2 ∷ 0x82 ∷ 0xAC ∷ []))
unfolding value_of value_at one_value values text_from first_char second third lead3
text = refl

refused_text : value_of (5 ∷ 2 ∷ 2 ∷ 2 ∷ 2 ∷ 1 ∷ []) (0xE2 ∷ 0x82 ∷ 0xAC ∷ []) ≡ none
unfolding value_of value_at one_value values text_from first_char second third lead3
refused_text = refl

refused_pool : value_of (0 ∷ []) (1 ∷ []) ≡ none
unfolding value_of value_at one_value values
refused_pool = refl

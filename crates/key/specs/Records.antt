-- What is asked of a record type's sheet and of a record sheet.
use Rattle.std.specs.Prelude.{◌≡◌, Bool, false, List, ℕ, ◌<◌, ltb, eqb, length, get_or}
use Rattle.std.proofs.Math.Option.{Option, some, none}
use Rattle.format.specs.Answer.{if, Answer, ok}
use Rattle.format.specs.Tree.{Val, val_kind}
use Rattle.format.specs.Sheet.{field_count}
use Rattle.format.specs.TypeSheet.{type_of}
use Rattle.format.specs.Calls.{with_type, with_fields}

-- how many fields the record type of a sheet has: BadType, and then NoField of another type
abbrev pub count_in : (ty : List ℕ) → Answer ℕ
count_in ty = with_type (type_of ty) (λ t. with_fields t (λ ts. ok (field_count ts)))

-- a sheet that is admitted, and a record
abbrev pub is_record : Option Val → Bool
is_record none = false
is_record (some v) = eqb (val_kind v) 5

-- the words that say how many fields there are: of a type sheet that is no record's, none
pub record FirstWords (ty words : List ℕ) : Type 0 where
  pub kind_word : 0 < length ty
  pub type_count : get_or ty 0 0 ≡ 5 → 1 < length ty
  pub value_count : 1 < length words

-- a record type with more fields than the record sheet has
abbrev pub has_next : (ty words : List ℕ) → Bool
has_next ty words = if (eqb (get_or ty 0 0) 5) (ltb (get_or words 1 0) (get_or ty 1 0)) false

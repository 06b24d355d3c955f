-- What the steps of the span call promise: its checks, the lengths of its ends, and the bytes of each, by format's definitions.
use Rattle.std.specs.Prelude.{◌≡◌, List, ◌++◌, ℕ, ◌≤◌, ◌<◌, length, Result, Ok, Err}
use Rattle.std.proofs.Math.Option.{some}
use Rattle.format.specs.Answer.{Answer, ok, refused}
use Rattle.format.specs.Refusals.{number_of, detail_of}
use Rattle.format.specs.Tree.{Ty, Tys, Val, Vals}
use Rattle.format.specs.Sheet.{field_count, val_count}
use Rattle.format.specs.TypeSheet.{type_of}
use Rattle.format.specs.ValueSheet.{value_of}
use Rattle.format.specs.Encode.{val_bytes, vals_bytes, fits, fits_all, fine}
use Rattle.format.specs.Calls.{Ends, TwoEnds}
use Rattle.format.specs.Fields.{put}
use Rattle.format.specs.Spans.{span_for}
use Rattle.format.specs.declared.refusal.Refusal.{Refusal}

-- ---- the checks

-- what the sheets of a call hold that passed its checks: a record type, the first k values, a lowest and a highest, and a field for these two
pub record Asked (ty words pool low_words low_pool high_words high_pool : List ℕ) : Type 0 where
  pub ts : Tys
  pub vs : Vals
  pub lo : Val
  pub hi : Val
  pub typed : type_of ty ≡ some (Ty.Record ts)
  pub first_is : value_of words pool ≡ some (Val.Record vs)
  pub lowest_is : value_of low_words low_pool ≡ some lo
  pub highest_is : value_of high_words high_pool ≡ some hi
  pub inside : val_count vs < field_count ts

-- the checks pass, or the first that does not refuses the call
abbrev pub Refuses : (ty words pool low_words low_pool high_words high_pool : List ℕ) → Result Unit Refusal → Type 0
Refuses ty words pool low_words low_pool high_words high_pool (Ok u) = Asked ty words pool low_words low_pool high_words high_pool
Refuses ty words pool low_words low_pool high_words high_pool (Err e) =
    span_for ty words pool low_words low_pool high_words high_pool ≡ refused (number_of e) (detail_of e)

-- ---- the two ends

-- their lengths
abbrev pub longs : Answer TwoEnds → Answer Ends
longs (ok x) = ok (record { lower = length x.low; upper = length x.high })
longs (refused n d) = refused n d

-- whatever k fields and whatever value the sheets hold, where they fit some types and there is room
pub record PutsEnd (words pool next_words next_pool out out' : List ℕ) : Type 0 where
  pub kept : length out' ≡ length out
  pub puts : (ts : Tys) (vs : Vals) (t : Ty) (v : Val) → value_of words pool ≡ some (Val.Record vs) → value_of next_words next_pool ≡ some v
      → fits_all ts 0 vs ≡ fine → fits t 0 v ≡ fine → length (vals_bytes 0 vs ++ val_bytes 0 v) ≤ length out → out' ≡ put out 0 (vals_bytes 0 vs ++ val_bytes 0 v)

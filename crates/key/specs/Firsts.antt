-- What is asked of the first k field values of a call, given as one record sheet.
use Rattle.std.specs.Prelude.{◌≡◌, List, ℕ, ◌<◌}
use Rattle.std.proofs.Math.Option.{some}
use Rattle.format.specs.Tree.{Ty, Tys, Val, Vals}
use Rattle.format.specs.Sheet.{field_count, val_count}
use Rattle.format.specs.TypeSheet.{type_of}
use Rattle.format.specs.ValueSheet.{value_of}

-- what the sheets hold of a call that passed these checks: a record type, the first k values, and a field behind them
pub record Firsts (ty words pool : List ℕ) : Type 0 where
  pub ts : Tys
  pub vs : Vals
  pub typed : type_of ty ≡ some (Ty.Record ts)
  pub first_is : value_of words pool ≡ some (Val.Record vs)
  pub inside : val_count vs < field_count ts

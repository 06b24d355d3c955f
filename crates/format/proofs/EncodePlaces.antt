-- What stands at the places that the encoder's walks go by: groups from their second word on, and the fields behind the first.
use mathlib.Core.Path.{◌≡◌}
use mathlib.Core.List.{List}
use Prim.Native.Nat.{ℕ, ◌+◌, ◌<◌}
use lib.ListN.{length, get_or}
use Rattle.format.specs.Tree.{Ty, Tys}
use Rattle.format.specs.Sheet.{field_count}
use Rattle.format.proofs.TypePlaces as types

-- a record type: its count, and its fields two words on
pub record RecordType (w : List ℕ) (p e : ℕ) (ts : Tys) : Type 0 where
  pub inside : p + 1 < length w
  pub count : get_or w (p + 1) 0 ≡ field_count ts
  pub fields : types.TypesIn w (p + 2) ts e

pub record_type : (w : List ℕ) (p e : ℕ) (ts : Tys) → types.TypeIn w p (Ty.Record ts) e → RecordType w p e ts
record_type w p e ts s = let f = types.record_in w p e ts s in record { inside = f.0; count = f.1; fields = f.2 }

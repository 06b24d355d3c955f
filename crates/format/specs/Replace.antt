-- Replacement of one field of a key in its buffer.
use Rattle.std.specs.Prelude.{ℕ, zero, suc, ◌+◌, List, ◌++◌, length, take, drop}
use Rattle.format.specs.Tree.{Val, Vals}
use Rattle.format.specs.Encode.{val_bytes}
use Rattle.format.specs.Bounds.{first_bytes}

-- the value of field k (Null past the last; the calls check the number first)
unfoldable pub field_at : ℕ → Vals → Val
field_at k Vals.NoVal = Val.Null
field_at zero (Vals.AddVal v vs) = v
field_at (suc k) (Vals.AddVal v vs) = field_at k vs

-- another value in field k
unfoldable pub set_field : ℕ → Val → Vals → Vals
set_field k u Vals.NoVal = Vals.NoVal
set_field zero u (Vals.AddVal v vs) = Vals.AddVal u vs
set_field (suc k) u (Vals.AddVal v vs) = Vals.AddVal v (set_field k u vs)

-- the key of the fields vs with the value u in field k: the field's bytes are the new ones, bytes before stay, bytes behind follow
unfoldable pub spliced : ℕ → Val → Vals → List ℕ → List ℕ
spliced k u vs key =
    take (length (first_bytes k vs)) key
    ++ (val_bytes 0 u ++ drop (length (first_bytes k vs) + length (val_bytes 0 (field_at k vs))) key)

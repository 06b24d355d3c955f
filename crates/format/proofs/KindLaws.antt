-- A value is what its kind's number, or its rank, and its parts say: so a value of a known kind is taken apart without cases.
use mathlib.Core.Path.{◌≡◌, refl, sym, ap, ◌∙◌}
use mathlib.Core.List.{[]}
use Prim.Native.Nat.{ℕ, zero, suc, ◌<◌}
use native.Mathlib.Omega.{arith}
use lib.Dec.{eqb, lit<}
use Rattle.format.specs.Answer.{if}
use Rattle.format.specs.Tree.{Val, Vals, val_kind, number_in, run_in, fields_in, payload_in}
use Rattle.format.specs.Order.{rank}

unfoldable pub built : ℕ → Val → Val
built zero v = Val.Null
built (suc zero) v = Val.Int (number_in v)
built (suc (suc zero)) v = Val.Str (run_in v)
built (suc (suc (suc zero))) v = Val.Bytes (run_in v)
built (suc (suc (suc (suc zero)))) v = Val.Ref (number_in v)
built (suc (suc (suc (suc (suc zero))))) v = Val.Record (fields_in v)
built (suc (suc (suc (suc (suc (suc n)))))) v = Val.Union (number_in v) (payload_in v)

pub built_is : (v : Val) → v ≡ built (val_kind v) v
unfolding built
built_is Val.Null = refl
built_is (Val.Int w) = refl
built_is (Val.Str s) = refl
built_is (Val.Bytes s) = refl
built_is (Val.Ref r) = refl
built_is (Val.Record vs) = refl
built_is (Val.Union d v) = refl

-- the kind of a rank
unfoldable pub kind_of : ℕ → ℕ
kind_of m =
    if (eqb m (rank (Val.Str []))) 2
    (if (eqb m (rank (Val.Record Vals.NoVal))) 5
    (if (eqb m (rank (Val.Int 0))) 1
    (if (eqb m (rank (Val.Ref 0))) 4
    (if (eqb m (rank (Val.Union 0 Val.Null))) 6
    (if (eqb m (rank (Val.Bytes []))) 3 0)))))

kind_of_lem : (v : Val) → val_kind v ≡ kind_of (rank v)
unfolding kind_of
kind_of_lem Val.Null = refl
kind_of_lem (Val.Int w) = refl
kind_of_lem (Val.Str s) = refl
kind_of_lem (Val.Bytes s) = refl
kind_of_lem (Val.Ref r) = refl
kind_of_lem (Val.Record vs) = refl
kind_of_lem (Val.Union d v) = refl

-- a value whose rank is known
pub is_made : (v : Val) (m : ℕ) → m ≡ rank v → v ≡ built (kind_of m) v
is_made v m e = built_is v ∙ ap (λ (n : ℕ). built n v) (kind_of_lem v ∙ ap kind_of (sym e))

-- kind 5 is the record of its fields
pub is_record_lem : (v : Val) → val_kind v ≡ 5 → v ≡ Val.Record (fields_in v)
unfolding built
is_record_lem v e = built_is v ∙ ap (λ (n : ℕ). built n v) e

-- kind 0 is Null alone, and so is rank 0
pub is_null : (v : Val) → val_kind v ≡ 0 → v ≡ Val.Null
unfolding built
is_null v e = built_is v ∙ ap (λ (n : ℕ). built n v) e

pub not_zero : (v : Val) → (val_kind v ≡ 0 → ⊥) → 0 < rank v
not_zero Val.Null h = absurd (h refl)
not_zero (Val.Int w) h = lit< tt
not_zero (Val.Str s) h = lit< tt
not_zero (Val.Bytes s) h = lit< tt
not_zero (Val.Ref r) h = lit< tt
not_zero (Val.Record vs) h = lit< tt
not_zero (Val.Union d v) h = lit< tt

-- the marks of integers, up to 50, end before the next kind
pub past_int : (v : Val) → rank (Val.Int 0) < rank v → 0x50 < rank v
past_int Val.Null h = absurd (omega arith)
past_int (Val.Int w) h = absurd (omega arith)
past_int (Val.Str s) h = absurd (omega arith)
past_int (Val.Bytes s) h = lit< tt
past_int (Val.Ref r) h = lit< tt
past_int (Val.Record vs) h = absurd (omega arith)
past_int (Val.Union d v) h = lit< tt

-- Bare fields compare as bytes as their values do, whatever follows them, and as many on both sides or not.
use mathlib.Core.Path.{◌≡◌, refl}
use mathlib.Core.List.{List, [], ◌++◌, append_assoc, append-nil}
use Prim.Native.Nat.{ℕ}
use native.Mathlib.Omega.{arith}
use Rattle.format.specs.Tree.{Vals}
use Rattle.format.specs.Sheet.{val_count}
use Rattle.format.specs.Encode.{val_bytes, vals_bytes}
use Rattle.format.specs.Order.{then, cmp_bytes, cmp_vals}
use Rattle.format.proofs.CompareLaws.{then_assoc}
use Rattle.format.proofs.ScalarLaws.{Low, low_nil}
use Rattle.format.proofs.Sound.{AllSound}
use Rattle.format.proofs.OrderLaws.{marked, low_vals, order}

-- as many fields on both sides, and anything behind them
pub bare_order : (depth : ℕ) (vs us : Vals) → val_count vs ≡ val_count us → AllSound vs → AllSound us → (r s : List ℕ) → Low r → Low s
    → cmp_bytes (vals_bytes depth vs ++ r) (vals_bytes depth us ++ s) ≡ then (cmp_vals vs us) (cmp_bytes r s)
unfolding cmp_vals vals_bytes val_count
bare_order depth Vals.NoVal Vals.NoVal e wv wu r s lr ls = refl
bare_order depth Vals.NoVal (Vals.AddVal u us) e wv wu r s lr ls = absurd (omega arith)
bare_order depth (Vals.AddVal v vs) Vals.NoVal e wv wu r s lr ls = absurd (omega arith)
bare_order depth (Vals.AddVal v vs) (Vals.AddVal u us) e wv wu r s lr ls =
    rw (
      append_assoc (val_bytes depth v),
      append_assoc (val_bytes depth u),
      order depth v u wv.0 wu.0 (vals_bytes depth vs ++ r) (vals_bytes depth us ++ s) (low_vals depth vs wv.1 r lr) (low_vals depth us wu.1 s ls),
      bare_order depth vs us (omega arith) wv.1 wu.1 r s lr ls,
      then_assoc,
    )

-- keys of one record type, and even of two: bytes compare as fields
pub fields_order : (depth : ℕ) (vs us : Vals) → AllSound vs → AllSound us → cmp_bytes (vals_bytes depth vs) (vals_bytes depth us) ≡ cmp_vals vs us
unfolding cmp_vals vals_bytes cmp_bytes
fields_order depth Vals.NoVal Vals.NoVal wv wu = refl
fields_order depth Vals.NoVal (Vals.AddVal u us) wv wu = rw (marked depth u wu.0).bytes
fields_order depth (Vals.AddVal v vs) Vals.NoVal wv wu = rw (marked depth v wv.0).bytes
fields_order depth (Vals.AddVal v vs) (Vals.AddVal u us) wv wu =
    rw (
      order depth v u wv.0 wu.0 (vals_bytes depth vs) (vals_bytes depth us) (rw append-nil at (low_vals depth vs wv.1 [] low_nil)) (rw append-nil at (low_vals depth us wu.1 [] low_nil)),
      fields_order depth vs us wv.1 wu.1,
    )

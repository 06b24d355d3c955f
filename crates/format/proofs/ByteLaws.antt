-- A value's bytes are bytes.
use mathlib.Core.Bool.{Bool, true, false}
use mathlib.Core.List.{List, [], ◌∷◌, ◌++◌}
use Prim.Native.Nat.{ℕ, zero, suc, ◌+◌, ◌-◌, ◌/◌, ◌%◌, ◌^◌, ◌<◌}
use native.Mathlib.Omega.{arith}
use lib.Dec.{ltb, eqb, lit<}
use Rattle.format.specs.Answer.{if}
use Rattle.format.specs.Tree.{Val, Vals}
use Rattle.format.specs.Scalar.{be, width, uint_bytes, neg_bytes, int_bytes, magnitude, escaped}
use Rattle.format.specs.Encode.{val_bytes, vals_bytes}
use Rattle.format.proofs.Bytes.{AllBytes, append_bytes}
use Rattle.format.proofs.ScalarLaws.{wide}
use Rattle.format.proofs.Sound.{Sound, AllSound}

pub be_bytes : (k n : ℕ) → AllBytes (be k n)
unfolding be
be_bytes zero n = tt
be_bytes (suc k) n = append_bytes (be k (n / 256)) (n % 256 ∷ []) (be_bytes k (n / 256)) (omega arith, tt)

pub escaped_bytes : (s : List ℕ) → AllBytes s → AllBytes (escaped s)
unfolding escaped
escaped_bytes [] h = (lit< tt, tt)
escaped_bytes (b ∷ s) h = go (eqb b 0) (escaped_bytes s h.1)
  where
    go : (c : Bool) → AllBytes (escaped s) → AllBytes (if c (0 ∷ 0xFF ∷ escaped s) (b ∷ escaped s))
    go true r = (lit< tt, (lit< tt, r))
    go false r = (h.0, r)

uint_bytes_lem : (n : ℕ) → n < 2 ^ 64 → AllBytes (uint_bytes n)
unfolding uint_bytes
uint_bytes_lem n h = (omega (arith, (wide n h).most), be_bytes (width n) n)

int_bytes_lem : (w : ℕ) → w < 2 ^ 64 → AllBytes (int_bytes w)
unfolding int_bytes neg_bytes
int_bytes_lem w h = go (ltb w (2 ^ 63))
  where
    go : (b : Bool) → AllBytes (if b (uint_bytes w) (neg_bytes (magnitude w)))
    go true = uint_bytes_lem w h
    go false = (omega arith, be_bytes (width (magnitude w)) (2 ^ 64 - 1 - magnitude w))

mutual
  unfolding val_bytes

  pub val_bytes_lem : (depth : ℕ) (v : Val) → Sound v → AllBytes (val_bytes depth v)
  val_bytes_lem depth Val.Null s = go (ltb 0 depth)
    where
      go : (b : Bool) → AllBytes (if b (0 ∷ 0xFF ∷ []) (0 ∷ []))
      go true = (lit< tt, (lit< tt, tt))
      go false = (lit< tt, tt)
  val_bytes_lem depth (Val.Int w) s = int_bytes_lem w s
  val_bytes_lem depth (Val.Str x) s = (lit< tt, escaped_bytes x s.1)
  val_bytes_lem depth (Val.Bytes x) s = (lit< tt, escaped_bytes x s)
  val_bytes_lem depth (Val.Ref r) s = (lit< tt, be_bytes 8 r)
  val_bytes_lem depth (Val.Record vs) s = (lit< tt, append_bytes (vals_bytes (depth + 1) vs) (0 ∷ []) (vals_bytes_lem (depth + 1) vs s) (lit< tt, tt))
  val_bytes_lem depth (Val.Union d v) s =
      let inside : List ℕ = val_bytes (depth + 1) v in
      (lit< tt, append_bytes (uint_bytes d) (inside ++ 0 ∷ []) (uint_bytes_lem d s.0) (append_bytes inside (0 ∷ []) (val_bytes_lem (depth + 1) v s.1) (lit< tt, tt)))

  pub vals_bytes_lem : (depth : ℕ) (vs : Vals) → AllSound vs → AllBytes (vals_bytes depth vs)
  vals_bytes_lem depth Vals.NoVal s = tt
  vals_bytes_lem depth (Vals.AddVal v vs) s = append_bytes (val_bytes depth v) (vals_bytes depth vs) (val_bytes_lem depth v s.0) (vals_bytes_lem depth vs s.1)

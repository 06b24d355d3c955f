-- The value of an admitted sheet is sound: its words are of 64 bits, its pool is of bytes, and its strings were judged.
use Prim.Native.Nat.{ℕ, suc, ◌^◌}
use mathlib.Core.List.{List, [], ◌∷◌}
use native.Mathlib.Omega.{arith}
use lib.ListN.{length}
use Rattle.format.specs.Tree.{Val, Vals}
use Rattle.format.specs.ValueSheet.{Proper, AllProper, Admitted}
use Rattle.format.specs.Bounds.{Below}
use Rattle.format.proofs.Bytes.{AllBytes}
use Rattle.format.proofs.Small.{SmallVal, SmallVals, small_value}
use Rattle.format.proofs.Sound.{Sound, AllSound}
use Rattle.format.proofs.ValuePlaces.{top}

pub all_bytes : (l : List ℕ) → Below 256 l → AllBytes l
all_bytes [] h = tt
all_bytes (b ∷ l) h = (h 0, all_bytes l (λ i. h (suc i)))

mutual
  unfolding Proper SmallVal

  pub small_sound : (v : Val) → SmallVal v → Proper v → Sound v
  small_sound Val.Null s p = tt
  small_sound (Val.Int w) s p = s
  small_sound (Val.Str l) s p = (p, all_bytes l s)
  small_sound (Val.Bytes l) s p = all_bytes l s
  small_sound (Val.Ref r) s p = s
  small_sound (Val.Record vs) s p = all_small_sound vs s p
  small_sound (Val.Union d v) s p = let k = p.0 in (omega arith, small_sound v s p.1)

  pub all_small_sound : (vs : Vals) → SmallVals vs → AllProper vs → AllSound vs
  all_small_sound Vals.NoVal s p = tt
  all_small_sound (Vals.AddVal v vs) s p = (small_sound v s.0 p.0, all_small_sound vs s.1 p.1)

-- the value of an admitted sheet of 64-bit words and bytes
pub admitted_sound : (w b : List ℕ) (v : Val) → Below (2 ^ 64) w → Below 256 b → Admitted w b v → Sound v
admitted_sound w b v hw hb a = small_sound v (small_value v w b 0 0 (length w) (length b) hw hb (top w b v a)) a.proper

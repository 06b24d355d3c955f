-- Zeros counted over parts of a list.
use mathlib.Core.Path.{◌≡◌, sym, ap, ◌∙◌}
use mathlib.Core.Bool.{Bool}
use mathlib.Core.List.{List, ◌∷◌}
use mathlib.Core.Logic.{◌≢◌}
use Prim.Native.Nat.{ℕ, ◌+◌, ◌<◌, ◌≤◌}
use native.Mathlib.Numerals.{add-one}
use native.Mathlib.Omega.{arith}
use lib.Dec.{eqb}
use lib.ListN.{length, get_or, take, drop, take-append-drop}
use lib.Seq.{drop-cons}
use mir.Val.{bool_byte}
use Rattle.format.specs.Zeros.{zeros}
use Rattle.format.proofs.Tests.{Test, holds, fails, eqb_test}
use Rattle.format.proofs.ZeroLaws.{zeros_zero, zeros_byte, zeros_append}

pub zeros_cut : (n : ℕ) (s : List ℕ) → zeros s ≡ zeros (take n s) + zeros (drop n s)
zeros_cut n s = ap zeros (sym (take-append-drop n s)) ∙ zeros_append (take n s) (drop n s)

-- a byte in front counts one where it is zero
zeros_cons : (b : ℕ) (s : List ℕ) → (zeros (b ∷ s) ≡ bool_byte (eqb b 0) + zeros s) × (bool_byte (eqb b 0) ≤ 1)
zeros_cons b s = go (eqb_test b 0)
  where
    go : {t : Bool} → Test (b ≡ 0) (b ≢ 0) t → (zeros (b ∷ s) ≡ bool_byte t + zeros s) × (bool_byte t ≤ 1)
    go (holds h) = (zeros_zero b s h, omega arith)
    go (fails h) = (zeros_byte b s h ∙ (omega arith), omega arith)

pub zeros_next : (s : List ℕ) (i : ℕ) → i < length s → (zeros (drop i s) ≡ bool_byte (eqb (get_or s i 0) 0) + zeros (drop (i + 1) s)) × (bool_byte (eqb (get_or s i 0) 0) ≤ 1)
zeros_next s i h = let c = zeros_cons (get_or s i 0) (drop (i + 1) s) in (rw (drop-cons s i 0 h, ← add-one) c.0, c.1)

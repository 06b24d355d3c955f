-- Lists of numbers that are bytes.
use Prim.Native.Nat.{ℕ, zero, suc, ◌<◌}
use mathlib.Core.List.{List, [], ◌∷◌, ◌++◌}
use lib.ListN.{take}

abbrev pub AllBytes : List ℕ → Type 0
AllBytes [] = Unit
AllBytes (b ∷ bs) = (b < 256) × AllBytes bs

pub append_bytes : (x y : List ℕ) → AllBytes x → AllBytes y → AllBytes (x ++ y)
append_bytes [] y p q = q
append_bytes (b ∷ x) y p q = (p.0, append_bytes x y p.1 q)

pub bytes_behind : (x r : List ℕ) → AllBytes (x ++ r) → AllBytes r
bytes_behind [] r h = h
bytes_behind (b ∷ x) r h = bytes_behind x r h.1

pub bytes_before : (k : ℕ) (x : List ℕ) → AllBytes x → AllBytes (take k x)
bytes_before zero x h = tt
bytes_before (suc k) [] h = tt
bytes_before (suc k) (b ∷ x) h = (h.0, bytes_before k x h.1)

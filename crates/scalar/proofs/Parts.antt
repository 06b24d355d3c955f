-- Parts of a list, as a slice's part shows them to a callee.
use Rattle.std.proofs.Common.{◌≡◌, ℕ, zero, suc, ◌+◌, ◌-◌, ◌≤◌, List, [], ◌∷◌, ◌++◌, length, take, drop, append_assoc, arith, length-append, length-drop, length-take, take_all, take_at}
use lib.Seq.{slice, take-nil, drop-nil}
use Rattle.format.specs.Fields.{put}

-- from a place to the end
pub part_rest : (a : ℕ) (b : List ℕ) → take (length b - a) (drop a b) ≡ drop a b
part_rest a b = take_all (length b - a) (drop a b) (omega (arith, length-drop a b))

-- from a place to another
pub part_slice : (i e : ℕ) (s : List ℕ) → i ≤ e → take (e - i) (drop i s) ≡ slice i e s
part_slice zero e s h = let z : e - 0 ≡ e = omega arith in rw z
part_slice (suc i) zero s h = absurd (omega arith)
part_slice (suc i) (suc e) [] h = rw (take-nil, drop-nil)
part_slice (suc i) (suc e) (b ∷ s) h =
    let z : suc e - suc i ≡ e - i = omega arith in
    rw z (part_slice i e s (omega arith))

-- what stands up to the end of what was put
pub take_put : (d : List ℕ) (at : ℕ) (s : List ℕ) → at ≤ length d → take (at + length s) (put d at s) ≡ take at d ++ s
take_put d at s h = rw (← append_assoc (take at d) s) (take_at (take at d ++ s) _ (at + length s) (simp (length-append, length-take) (omega arith)))

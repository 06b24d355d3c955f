-- Room is asked for the key and one byte; the FF stands behind the copy of the key.
use mathlib.Core.Path.{ap}
use mathlib.Core.List.{List}
use Prim.Native.Nat.{ℕ}
use lib.ListN.{length, set}
use Rattle.ends.proofs.TrimLaws.{a_room, a_done}
use native.Mathlib.Omega.{arith}
use Rattle.ends.proofs.above_field.Goals as goal

pub returns-then-out-end : goal.returns-then-out-end
returns-then-out-end c =
    let a = c.args in
    a_room a.key.now a.out.now c.if-out-end.true (omega arith)

pub returns : goal.returns
returns c =
    let a = c.args in
    a_done a.key.now a.out.now (omega arith) _ (ap (λ (l : List ℕ). set l (length a.key.now) 0xFF) c.copy_front.ensures)

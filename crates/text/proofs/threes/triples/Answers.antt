-- Where no byte was out of its range, all lie in theirs, and the row is characters.
use Prim.Native.Nat.{◌+◌, ◌*◌, ◌≤◌}
use native.Mathlib.Omega.{arith}
use lib.ListN.{length}
use Rattle.text.proofs.RowLaws.{row}
use Rattle.text.proofs.threes.triples.Goals as goal

pub returns : goal.returns
returns c = λ p. let l : c.args.i + 3 * c.args.m ≤ length c.args.s.now = omega arith in (l, row c.args.s.now c.args.m c.args.i l (λ q h. c.loop-j.invariant p q (omega arith)))

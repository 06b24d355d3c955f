-- An empty sheet has no record at its top.
use Prim.Native.Nat.{◌≤◌}
use native.Mathlib.Omega.{arith}
use lib.ListN.{length, get_or-eq_default}
use Rattle.encode.proofs.top_bare.Goals as goal

pub returns-then-ty-eq0 : goal.returns-then-ty-eq0
returns-then-ty-eq0 c = let none : length c.args.ty.now ≤ 0 = omega arith in rw (get_or-eq_default c.args.ty.now 0 none)

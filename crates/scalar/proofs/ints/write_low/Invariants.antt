-- The loop's invariant: the low bytes of what is left, put at their places, make the whole.
use Rattle.std.proofs.Common.{◌≡◌}
use Rattle.format.specs.Scalar.{be}
use Rattle.format.specs.Fields.{put}
use Rattle.scalar.proofs.ints.write_low.Given as goal

abbrev pub invariant-loop-j : goal.invariant-loop-j
invariant-loop-j l = put l.buf l.at (be l.j l.left) ≡ put l.initial.buf l.at (be l.k l.n)

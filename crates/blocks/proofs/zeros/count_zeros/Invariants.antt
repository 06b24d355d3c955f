-- Invariant: the zeros counted and those of the rest are all. The rest falls.
use Rattle.std.proofs.Common.{◌≡◌, ◌+◌, length}
use Rattle.format.specs.Zeros.{zeros}
use Rattle.blocks.proofs.zeros.count_zeros.Given as goal

abbrev pub invariant-loop-part : goal.invariant-loop-part
invariant-loop-part l = l.n + zeros l.rest ≡ zeros l.s

abbrev pub decreases-loop-part : goal.decreases-loop-part
decreases-loop-part l = length l.rest

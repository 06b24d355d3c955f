-- Invariant: the zeros counted and those that are left are all, and none are more than the bytes passed.
use Rattle.std.proofs.Common.{◌≡◌, ◌+◌, ◌≤◌, drop}
use Rattle.format.specs.Zeros.{zeros}
use Rattle.blocks.proofs.zeros.few_zeros.Given as goal

abbrev pub invariant-loop-b : goal.invariant-loop-b
invariant-loop-b l = (l.n ≤ l.b-index) × (l.n + zeros (drop l.b-index l.s) ≡ zeros l.s)

-- Invariant: the blocks up to the place were passed. What is left falls, since a block is not empty.
use Rattle.std.proofs.Common.{◌-◌, ◌≤◌}
use Rattle.blocks.specs.Scan.{Steps}
use Rattle.blocks.proofs.scan.past_blocks.Given as goal

abbrev pub invariant-loop-i : goal.invariant-loop-i
invariant-loop-i g l = (l.from ≤ l.i) × (l.i ≤ l.end) × Steps (goal.F-post g l.test) l.end l.k l.from l.i

abbrev pub decreases-loop-i : goal.decreases-loop-i
decreases-loop-i g l = l.end - l.i

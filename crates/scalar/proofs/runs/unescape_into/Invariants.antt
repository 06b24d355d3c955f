-- The loop's invariant: the payload of what is left of the run, put from o on, makes the whole. What falls is the run left.
use Rattle.std.proofs.Common.{◌-◌, length, drop}
use Rattle.blocks.proofs.Put.{Left}
use Rattle.scalar.specs.Runs.{unescape}
use Rattle.scalar.proofs.runs.unescape_into.Given as goal

abbrev pub invariant-loop-i : goal.invariant-loop-i
invariant-loop-i l = Left l.initial.dst l.at (unescape l.run) l.dst l.o (unescape (drop l.i l.run))

abbrev pub decreases-loop-i : goal.decreases-loop-i
decreases-loop-i l = length l.run - l.i

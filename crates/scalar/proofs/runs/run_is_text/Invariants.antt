-- The loop's invariant: all is text exactly where what is left is. What falls is the run left.
use Rattle.std.proofs.Common.{◌≡◌, ◌-◌, length, drop}
use Rattle.format.specs.Utf8.{utf8}
use Rattle.scalar.specs.Runs.{unescape}
use Rattle.scalar.proofs.runs.run_is_text.Given as goal

abbrev pub invariant-loop-i : goal.invariant-loop-i
invariant-loop-i l = utf8 (unescape l.run) ≡ utf8 (unescape (drop l.i l.run))

abbrev pub decreases-loop-i : goal.decreases-loop-i
decreases-loop-i l = length l.run - l.i

-- `step_at` meets its contract: a finished reader by the definition itself, no bytes left by a law, and else by what the two kinds of step promise.
use mathlib.Core.Path.{◌∙◌}
use Rattle.format.specs.Chars.{step_at}
use Rattle.chars.proofs.StepLaws.{step_eof}
use Rattle.chars.proofs.step_at.Goals as goal

pub returns-then-done : goal.returns-then-done
unfolding step_at
returns-then-done c = rw c.if-done.true c.finished.ensures

pub returns-in-None : goal.returns-in-None
returns-in-None c = rw c.if-done.false (c.finished-in-None.ensures ∙ step_eof _ _ c.in-None.ensures.lookup.3)

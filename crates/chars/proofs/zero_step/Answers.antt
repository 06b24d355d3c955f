-- `zero_step` meets its contract: a law for each way out, by the byte behind the 00.
use mathlib.Core.Path.{◌∙◌}
use Rattle.chars.proofs.StepLaws.{zero_last, zero_end, zero_char}
use Rattle.chars.proofs.zero_step.Goals as goal
use Rattle.chars.proofs.zero_step.Goals.{in_default-via-in-Some+else-next, in_default-via-in_default}

pub returns-in-Some : goal.returns-in-Some
returns-in-Some c = let k = c.in-Some.ensures.lookup.3 in c.gave.ensures ∙ zero_char _ _ c.requires.0 c.requires.1 _ k.0 (k.1 0) c.if-next.true

pub returns-in_default : goal.returns-in_default
returns-in_default c =
    c.finished.ensures ∙ (elim c.in_default.branch [
      | in_default-via-in-Some+else-next w ↦ let k = w.in-Some.ensures.lookup.3 in zero_end _ _ c.requires.0 c.requires.1 _ k.0 (k.1 0) w.if-next.false
      | in_default-via-in_default w ↦ zero_last _ _ c.requires.0 c.requires.1 w.in_default.ensures.lookup.3
    ])

-- `char_step` meets its contract: the lead's width is the definition's, and what is judged is that many bytes from the place on; a law for each of its ways out.
use mathlib.Core.Path.{sym, ap, ◌∙◌}
use native.Mathlib.Omega.{arith}
use Rattle.format.specs.Utf8.{code_of}
use Rattle.chars.proofs.StepLaws.{width_few, char_short, char_bad, char_none, char_good, judged}
use Rattle.chars.proofs.char_step.Goals as goal
use Rattle.chars.proofs.char_step.Goals.{in_default-char_at-via-in-Some-char_at+else-valid, in_default-char_at-via-in_default-char_at}

pub overflow_add-next : goal.overflow_add-next
overflow_add-next c = omega (arith, width_few _ _ c.utf8_width.ensures)

pub returns-in_default : goal.returns-in_default
returns-in_default c = c.finished.ensures ∙ char_short _ _ c.requires.0 c.requires.1 _ c.utf8_width.ensures (grind (arith, c.in_default.ensures.lookup.0))

pub returns-in-Some-char_at : goal.returns-in-Some-char_at
returns-in-Some-char_at c =
    let q = c.in-Some.ensures.lookup.0 in
    let text = judged _ _ c.requires.0 c.requires.1 _ c.utf8_width.ensures q.1 q.2 c.valid.ensures in
    c.gave.ensures ∙ char_good _ _ c.requires.0 c.requires.1 _ c.utf8_width.ensures q.1 (sym text ∙ c.if-valid.true) _ (ap code_of c.in-Some-char_at.ensures)

pub returns-in_default-char_at : goal.returns-in_default-char_at
returns-in_default-char_at c =
    let q = c.in-Some.ensures.lookup.0 in
    c.finished-in_default-char_at.ensures ∙ (elim c.in_default-char_at.branch [
      | in_default-char_at-via-in-Some-char_at+else-valid w ↦
          let text = judged _ _ c.requires.0 c.requires.1 _ c.utf8_width.ensures q.1 q.2 w.valid.ensures in
          char_bad _ _ c.requires.0 c.requires.1 _ c.utf8_width.ensures q.1 (sym text ∙ w.if-valid.false)
      | in_default-char_at-via-in_default-char_at w ↦ char_none _ _ c.requires.0 c.requires.1 _ c.utf8_width.ensures q.1 w.in_default-char_at.ensures
    ])

use Rattle.std.proofs.Common.{arith, sym, ◌∙◌}
use Rattle.sheet.proofs.AltWalk.{no_union, all_left, none_left, no_room, picked, no_end, go_on}
use Rattle.sheet.proofs.alternatives.alternative.Goals as goal
use Rattle.sheet.proofs.alternatives.alternative.Goals.{then-at-ty-via-then-at-ty, then-at-ty-via-else-at-ty+then-ty-at-lt2}

pub returns-then-at-ty : goal.returns-then-at-ty
returns-then-at-ty c = no_union _ _ _ _ _ (elim c.then-at-ty.branch [ then-at-ty-via-then-at-ty w ↦ omega arith | then-at-ty-via-else-at-ty+then-ty-at-lt2 w ↦ omega arith ])

pub loop-passed-init : goal.loop-passed-init
loop-passed-init c = all_left _ _ _

pub returns-then-place-ty : goal.returns-then-place-ty
returns-then-place-ty c = search no_room

pub returns-then-from-tag : goal.returns-then-from-tag
returns-then-from-tag c = picked _ _ _ c.loop-passed.invariant c.loop-passed-test.true (sym c.from.ensures ∙ c.if-from-tag.true)

pub returns-in-None : goal.returns-in-None
returns-in-None c = no_end _ _ _ c.loop-passed.invariant c.loop-passed-test.true _ _ c.in-None.ensures

pub loop-passed-preserved : goal.loop-passed-preserved
loop-passed-preserved c = go_on _ _ _ c.loop-passed.invariant c.loop-passed-test.true c.in-Some.ensures (λ z. c.if-from-tag.false (c.from.ensures ∙ z))

pub returns : goal.returns
returns c = search none_left

-- The kind at the place, or behind word 7.
use Rattle.key.proofs.StartingLaws as laws
use Rattle.key.proofs.starting.run_mark.Goals as goal

pub bounds-ty-at : goal.bounds-ty-at
bounds-ty-at c = laws.mark_there c.requires

pub bounds-ty-at-then-ty-at-eq-KIND_OPTIONAL : goal.bounds-ty-at-then-ty-at-eq-KIND_OPTIONAL
bounds-ty-at-then-ty-at-eq-KIND_OPTIONAL c = laws.mark_behind_there c.requires c.if-ty-at-eq-KIND_OPTIONAL.true

pub returns-then-ty-at-eq-KIND_OPTIONAL : goal.returns-then-ty-at-eq-KIND_OPTIONAL
returns-then-ty-at-eq-KIND_OPTIONAL c = laws.mark_behind c.requires c.if-ty-at-eq-KIND_OPTIONAL.true c.mark_of.ensures

pub bounds-ty-at-2 : goal.bounds-ty-at-2
bounds-ty-at-2 c = laws.mark_there c.requires

pub returns : goal.returns
returns c = laws.mark_here c.if-ty-at-eq-KIND_OPTIONAL.false c.mark_of-2.ensures

-- By the word that stands there.
use borrow.Author.Tests.{eq-eqb, ne_eqb}
use Rattle.fit.proofs.plain_place.Goals as goal

pub returns-then-ty-t-eq-KIND_OPTIONAL : goal.returns-then-ty-t-eq-KIND_OPTIONAL
returns-then-ty-t-eq-KIND_OPTIONAL c = rw (eq-eqb _ 7 c.if-ty-t-eq-KIND_OPTIONAL.true)

pub returns : goal.returns
returns c = rw (ne_eqb _ 7 c.if-ty-t-eq-KIND_OPTIONAL.false)

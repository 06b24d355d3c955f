-- Another mark or none, an end where the escape is due, the escape, no escape due: the cases of `null_at`.
use Rattle.scalar.proofs.GroupLaws as laws
use Rattle.scalar.proofs.groups.null.Goals as goal

pub returns-then-ends_here : goal.returns-then-ends_here
returns-then-ends_here c = search (laws.null_ended, c.in_ok-expect_mark.ensures)

pub returns-then-escape : goal.returns-then-escape
returns-then-escape c = search (laws.null_escaped, c.in_ok-expect_mark.ensures)

pub returns : goal.returns
returns c = search (laws.null_bare, c.in_ok-expect_mark.ensures)

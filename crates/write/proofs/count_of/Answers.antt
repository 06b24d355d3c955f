-- A record's second word counts its fields; any other group has one value.
use borrow.Author.Tests.{eq-eqb, ne_eqb}
use Rattle.write.proofs.count_of.Goals as goal

pub returns-then-kind-eq-VALUE_RECORD : goal.returns-then-kind-eq-VALUE_RECORD
returns-then-kind-eq-VALUE_RECORD c = rw (eq-eqb _ 5 c.if-kind-eq-VALUE_RECORD.true)

pub returns-else-kind-eq-VALUE_RECORD : goal.returns-else-kind-eq-VALUE_RECORD
returns-else-kind-eq-VALUE_RECORD c = rw (ne_eqb _ 5 c.if-kind-eq-VALUE_RECORD.false)

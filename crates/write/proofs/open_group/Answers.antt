-- A group's beginning by its kind, and no bytes for a discriminant that no sheet has.
use borrow.Author.Tests.{eq-eqb, ne_eqb, lt-ltb, le-ltb}
use Rattle.write.proofs.Stores.{none_stored}
use Rattle.write.proofs.open_group.Goals as goal

pub returns-then-kind-eq-VALUE_RECORD : goal.returns-then-kind-eq-VALUE_RECORD
returns-then-kind-eq-VALUE_RECORD c = rw (eq-eqb _ 5 c.if-kind-eq-VALUE_RECORD.true) c.put_byte.ensures

pub returns-then-x-lt-DISCRIMINANTS : goal.returns-then-x-lt-DISCRIMINANTS
returns-then-x-lt-DISCRIMINANTS c = rw (ne_eqb _ 5 c.if-kind-eq-VALUE_RECORD.false, lt-ltb _ 4294967296 c.if-x-lt-DISCRIMINANTS.true) c.put_tag.ensures

pub returns : goal.returns
returns c = rw (ne_eqb _ 5 c.if-kind-eq-VALUE_RECORD.false, le-ltb _ 4294967296 c.if-x-lt-DISCRIMINANTS.false) (none_stored c.requires)

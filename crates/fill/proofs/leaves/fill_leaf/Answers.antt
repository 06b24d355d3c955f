-- The mark tells the kind: the four ways out are the four kinds that are no groups.
use Rattle.std.proofs.Common.{arith}
use Rattle.fill.proofs.LeafLaws as laws
use Rattle.fill.proofs.leaves.fill_leaf.Goals as goal

pub returns-in-33 : goal.returns-in-33
returns-in-33 c = laws.a_str c.in-33.is c.fill_run.ensures

pub returns-in-83 : goal.returns-in-83
returns-in-83 c = laws.a_bytes c.in-83.is c.fill_run-in-83.ensures

pub returns-in-81 : goal.returns-in-81
returns-in-81 c = laws.a_ref c.requires.1 c.requires.2 c.in-81.is c.fill_ref.ensures

pub returns-in_default : goal.returns-in_default
returns-in_default c = laws.an_int c.requires.1 c.requires.2 (λ z. omega arith) (λ z. omega arith) (λ z. omega arith) c.requires.3 c.requires.4 c.fill_int.ensures

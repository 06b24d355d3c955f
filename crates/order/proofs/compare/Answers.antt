-- The walk from both beginnings decides the values that the sheets hold; a sheet that is not admitted is refused before.
use Rattle.order.proofs.Verdict as laws
use Rattle.order.proofs.compare.Goals as goal

pub returns-then-not-admit_value : goal.returns-then-not-admit_value
returns-then-not-admit_value c = search laws.bad_a

pub returns-then-not-admit_value-2 : goal.returns-then-not-admit_value-2
returns-then-not-admit_value-2 c = search laws.bad_b

pub returns : goal.returns
returns c = search laws.said

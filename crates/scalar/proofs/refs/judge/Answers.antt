-- The two tests of `fits_ref` in its order.
use Rattle.scalar.proofs.References as laws
use Rattle.scalar.proofs.refs.judge.Goals as goal

pub returns-then-sequence_of-eq0 : goal.returns-then-sequence_of-eq0
returns-then-sequence_of-eq0 c = search laws.judged_reserved

pub returns-then-found-from : goal.returns-then-found-from
returns-then-found-from c = search laws.judged_other

pub returns : goal.returns
returns c = search laws.judged_fits

-- A run is passed over where `run_end` found its terminator.
use Rattle.skip.proofs.Plain as laws
use Rattle.skip.proofs.run_len.Goals as goal

pub returns-then-rest-end : goal.returns-then-rest-end
returns-then-rest-end c = search laws.run_cut

pub returns : goal.returns
returns c = search laws.run_ends

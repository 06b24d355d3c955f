-- Text is judged first; then it is a run behind its mark.
use Rattle.scalar.proofs.Rooms as laws
use Rattle.scalar.proofs.puts.put_str.Goals as goal

pub returns-then-valid : goal.returns-then-valid
returns-then-valid c = search laws.put_text

pub returns-else-valid : goal.returns-else-valid
returns-else-valid c = search laws.put_no_text

-- Bytes are a run behind their mark.
use Rattle.format.specs.Fields.{put_bytes_call}
use Rattle.scalar.proofs.puts.put_bytes.Goals as goal

pub returns : goal.returns
unfolding put_bytes_call
returns c = c.put_run.ensures

-- The bytes behind the part are moved to where the value will end, and the value is written between; the write touches no byte of either side.
use Rattle.key.proofs.SpliceLaws as laws
use Rattle.key.proofs.replacing.splice.Goals as goal

pub returns : goal.returns
returns c = search laws.spliced_by

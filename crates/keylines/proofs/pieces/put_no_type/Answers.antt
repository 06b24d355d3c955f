-- `put_no_type` meets its contract: one row at the buffer's front.
use native.Mathlib.Omega.{arith}
use Rattle.keylines.proofs.RowLaws as laws
use Rattle.keylines.proofs.pieces.put_no_type.Goals as goal

pub returns : goal.returns
returns c = laws.no_type_put c.put_told.ensures (omega arith)

-- An integer is negative below mark 48, and unsigned from there on.
use Rattle.std.proofs.Common.{arith}
use Rattle.fill.proofs.NumberLaws as laws
use Rattle.fill.proofs.leaves.fill_int.Goals as goal

pub returns : goal.returns
returns c = laws.as_int (omega (arith, c.if-bytes-i-lt-MARK_INT_ZERO.false)) c.fill_uint.ensures

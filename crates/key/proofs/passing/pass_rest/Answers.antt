-- The walk over bare fields; a byte that is left behind them refuses the key, as the definition's `whole` says.
use mathlib.Core.Path.{refl}
use Rattle.key.proofs.PassLaws as laws
use Rattle.key.proofs.passing.pass_rest.Goals as goal

pub returns-in-Err : goal.returns-in-Err
returns-in-Err c = laws.end_bad c.in-Err.ensures

pub returns-then-walked-bytes : goal.returns-then-walked-bytes
returns-then-walked-bytes c = laws.end_left c.in-Ok.ensures c.if-walked-bytes.true refl

pub returns-else-walked-bytes : goal.returns-else-walked-bytes
returns-else-walked-bytes c = laws.end_whole c.in-Ok.ensures c.if-walked-bytes.false

-- `put_number` meets its contract: the digits, and then one byte behind them.
use Rattle.keylines.proofs.RowLaws as laws
use Rattle.keylines.proofs.rows.put_number.Goals as goal

pub returns : goal.returns
returns c = laws.put_number _ c.put_decimal-end.ensures

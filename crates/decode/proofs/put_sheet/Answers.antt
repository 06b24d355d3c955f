-- Whichever walk filled, it filled what is read so.
use Rattle.decode.proofs.FillLaws as laws
use Rattle.decode.proofs.put_sheet.Goals as goal

pub returns-then-bare : goal.returns-then-bare
returns-then-bare c = laws.filled_bare c.if-bare.true c.fill_bare.ensures

pub returns : goal.returns
returns c = laws.filled_value c.if-bare.false c.fill_value.ensures

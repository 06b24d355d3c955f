-- `open_at` meets its contract: a law of the definition for each way out.
use Rattle.chars.proofs.StepLaws.{open_eof, open_good, open_mark}
use Rattle.chars.proofs.open_at.Goals as goal

pub returns-in-None : goal.returns-in-None
returns-in-None c = open_eof _ c.in-None.ensures.item.3

pub returns-in-Some-eq33 : goal.returns-in-Some-eq33
returns-in-Some-eq33 c = let m = c.in-Some-eq33 in let k = m.ensures.item.3 in open_good _ _ k.0 (k.1 0) m.field-0-test

pub returns-in-Some : goal.returns-in-Some
returns-in-Some c = let m = c.in-Some in let k = m.ensures.item.3 in open_mark _ _ k.0 (k.1 0) m.field-0-test.1

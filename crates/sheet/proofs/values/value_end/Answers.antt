-- The walk's answer is a place where its words are not 0.
use Rattle.sheet.proofs.AdmitValue.{no_end, an_end}
use Rattle.sheet.proofs.values.value_end.Goals as goal

pub returns-then-end-eq0 : goal.returns-then-end-eq0
returns-then-end-eq0 c = no_end _ _ _ _ _ _ c.end_of-end.ensures c.if-end-eq0.true

pub returns : goal.returns
returns c = an_end _ _ _ _ _ _ c.end_of-end.ensures c.if-end-eq0.false

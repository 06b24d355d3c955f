-- The three cases of `is_record_end`.
use Rattle.cursor.proofs.ReadSteps as laws
use Rattle.cursor.proofs.reading.is_record_end.Goals as goal

pub returns-then-c-eq0 : goal.returns-then-c-eq0
returns-then-c-eq0 c = search laws.ahead_none

pub returns-then-is_empty : goal.returns-then-is_empty
returns-then-is_empty c = search laws.ahead_eof

pub returns : goal.returns
returns c = search laws.ahead_some

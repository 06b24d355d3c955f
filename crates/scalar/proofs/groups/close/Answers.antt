-- No byte, an end by `ends_here`, or the byte met: the three cases of `group_end`.
use Rattle.scalar.proofs.GroupLaws as laws
use Rattle.scalar.proofs.groups.close.Goals as goal

pub returns-then-rest-eq0 : goal.returns-then-rest-eq0
returns-then-rest-eq0 c = search laws.end_eof

pub returns-then-ends_here : goal.returns-then-ends_here
returns-then-ends_here c = search laws.end_here

pub returns : goal.returns
returns c = search laws.end_other

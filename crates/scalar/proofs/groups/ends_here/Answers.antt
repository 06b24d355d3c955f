-- By the first byte, then by the second: `ends_here` looks at no other.
use Rattle.scalar.proofs.GroupLaws as laws
use Rattle.scalar.proofs.groups.ends_here.Goals as goal

pub returns-then-rest-eq0 : goal.returns-then-rest-eq0
returns-then-rest-eq0 c = search laws.ends_none

pub returns-then-rest-ne-MARK_TERM : goal.returns-then-rest-ne-MARK_TERM
returns-then-rest-ne-MARK_TERM c = search laws.ends_other

pub returns-then-rest-lt2 : goal.returns-then-rest-lt2
returns-then-rest-lt2 c = search laws.ends_last

pub returns : goal.returns
returns c = search laws.ends_next

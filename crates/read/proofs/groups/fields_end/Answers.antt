-- Bare fields end where they are; a group at its end, or it is refused as the definition says.
use Rattle.read.proofs.FieldLaws as laws
use Rattle.read.proofs.groups.fields_end.Goals as goal

pub returns-then-depth-eq0 : goal.returns-then-depth-eq0
returns-then-depth-eq0 c = search laws.ends_bare

pub returns-then-bytes-i : goal.returns-then-bytes-i
returns-then-bytes-i c = search laws.ends_eof

pub returns-then-ends_here : goal.returns-then-ends_here
returns-then-ends_here c = search laws.ends_yes

pub returns : goal.returns
returns c = search laws.ends_late

-- In a group the definition asks for the key's end, then the group's; bare fields ask for neither.
use Rattle.read.proofs.FieldLaws as laws
use Rattle.read.proofs.groups.field_refusal.Goals as goal

pub returns-then-depth-eq0 : goal.returns-then-depth-eq0
returns-then-depth-eq0 c = search laws.begins_bare

pub returns-then-bytes-i : goal.returns-then-bytes-i
returns-then-bytes-i c = search laws.begins_eof

pub returns-then-ends_here : goal.returns-then-ends_here
returns-then-ends_here c = search laws.begins_late

pub returns : goal.returns
returns c = search laws.begins_yes

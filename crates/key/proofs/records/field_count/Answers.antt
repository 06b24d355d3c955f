-- An admitted sheet has words; of a record type the second one is the count.
use Rattle.key.proofs.CallLaws as laws
use Rattle.key.proofs.records.field_count.Goals as goal

pub bounds-ty-0 : goal.bounds-ty-0
bounds-ty-0 c = search laws.some_words

pub returns-then-ty-ne-KIND_RECORD : goal.returns-then-ty-ne-KIND_RECORD
returns-then-ty-ne-KIND_RECORD c = search laws.count_another

pub bounds-ty-1 : goal.bounds-ty-1
bounds-ty-1 c = search laws.count_word

pub returns : goal.returns
returns c = search laws.count_record

-- Of an admitted sheet the first word tells the kind.
use Rattle.key.proofs.FirstsLaws as laws
use Rattle.key.proofs.records.admit_record.Goals as goal

pub bounds-words-0 : goal.bounds-words-0
bounds-words-0 c = search laws.first_word

pub returns-then-admit_value : goal.returns-then-admit_value
returns-then-admit_value c = search laws.kind_says

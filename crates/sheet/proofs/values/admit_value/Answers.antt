-- The sheet is admitted exactly where the value at 0 ends at the end of words and pool: the ends that the walk finds decide, after both limits.
use Rattle.sheet.proofs.AdmitValue.{too_long, too_large, no_value, more_words, is_value}
use Rattle.sheet.proofs.values.admit_value.Goals as goal

pub returns-then-words-gt-MAX_VALUE_WORDS : goal.returns-then-words-gt-MAX_VALUE_WORDS
returns-then-words-gt-MAX_VALUE_WORDS c = search too_long

pub returns-then-pool-gt-MAX_POOL_BYTES : goal.returns-then-pool-gt-MAX_POOL_BYTES
returns-then-pool-gt-MAX_POOL_BYTES c = search too_large

pub returns-then-end-words : goal.returns-then-end-words
returns-then-end-words c = is_value _ _ c.if-words-gt-MAX_VALUE_WORDS.false c.if-pool-gt-MAX_POOL_BYTES.false _ c.in-Some.ensures c.if-end-words.true

pub returns-else-end-words : goal.returns-else-end-words
returns-else-end-words c = more_words _ _ c.if-words-gt-MAX_VALUE_WORDS.false c.if-pool-gt-MAX_POOL_BYTES.false _ c.in-Some.ensures c.if-end-words.false

pub returns-in-None : goal.returns-in-None
returns-in-None c = no_value _ _ c.if-words-gt-MAX_VALUE_WORDS.false c.if-pool-gt-MAX_POOL_BYTES.false c.in-None.ensures

-- Each way out is a law of `ValueWalk` about the Str or Bytes that its two words say: too long for the pool, raw, text, or no text.
use Rattle.sheet.proofs.ValueWalk.{over, raw, text, no_text}
use Rattle.sheet.proofs.values.run_end.Goals as goal

pub returns-then-len-rest : goal.returns-then-len-rest
returns-then-len-rest c = search over

pub returns-then-words-at-eq-VALUE_BYTES : goal.returns-then-words-at-eq-VALUE_BYTES
returns-then-words-at-eq-VALUE_BYTES c = search raw

pub returns-then-valid : goal.returns-then-valid
returns-then-valid c = search text

pub returns : goal.returns
returns c = search no_text

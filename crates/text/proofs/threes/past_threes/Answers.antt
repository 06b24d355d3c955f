-- Rows of sixteen characters, then of one: each part leaves the judgement of the rest as it was.
use mathlib.Core.Path.{◌∙◌}
use native.Mathlib.Omega.{arith}
use Rattle.text.proofs.threes.past_threes.Goals as goal

pub returns : goal.returns
returns c = (omega arith, omega arith, c.past_triples-wide.ensures.2 ∙ c.past_triples.ensures.2)

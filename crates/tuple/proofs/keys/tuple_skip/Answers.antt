-- The library's call, and its answer as numbers: what each promises, one after the other.
use mathlib.Core.Path.{ap, ◌∙◌}
use Rattle.tuple.specs.Numbers.{length_of}
use Rattle.tuple.proofs.keys.tuple_skip.Goals as goal

pub returns : goal.returns
returns c = c.from.ensures ∙ ap length_of c.skip.ensures

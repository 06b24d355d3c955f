-- The library's call, and its answer as numbers: what each promises, one after the other.
use mathlib.Core.Path.{ap, ◌∙◌}
use Rattle.tuple.specs.Numbers.{order_of}
use Rattle.tuple.proofs.keys.tuple_compare.Goals as goal

pub returns : goal.returns
returns c = c.from.ensures ∙ ap order_of c.compare.ensures

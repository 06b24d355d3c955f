-- The library's call, and its answer as numbers: what each promises, one after the other.
use mathlib.Core.Path.{ap, ◌∙◌}
use Rattle.tuple.specs.Numbers.{number_of}
use Rattle.tuple.proofs.fields.tuple_get_u64.Goals as goal

pub returns : goal.returns
returns c = c.from.ensures ∙ ap number_of c.get_u64.ensures

-- The union's alternatives are passed one by one. The invariant (`Left`): of whatever union stands at `at`, those that are left stand at the place and
-- decide the choice, and those passed have another tag. Each way out of the loop is a law of `AltWalk`.
use Rattle.std.specs.Prelude.{◌-◌}
use Rattle.sheet.proofs.AltWalk.{Left}
use Rattle.sheet.proofs.alternatives.alternative.Given as goal

abbrev pub invariant-loop-passed : goal.invariant-loop-passed
invariant-loop-passed l = Left l.ty l.at l.tag (l.count - l.passed) l.passed l.place

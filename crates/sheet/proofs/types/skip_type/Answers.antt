-- The end that the walk finds is the end of whatever type stands there.
use Rattle.std.proofs.Common.{refl}
use Rattle.sheet.proofs.EndLaws.{end_is}
use Rattle.sheet.proofs.types.skip_type.Goals as goal

pub returns-then-asked : goal.returns-then-asked
returns-then-asked c = λ h. record { skips = λ t e s d. rw (c.unwrap_or.ensures, end_is _ _ e 320 t s d c.type_end.ensures) refl }

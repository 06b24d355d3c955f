-- The end that the walk finds is the end of whatever alternatives stand there.
use Rattle.std.proofs.Common.{refl}
use Rattle.sheet.proofs.EndLaws.{alts_end_is}
use Rattle.sheet.proofs.alternatives.skip_alternatives.Goals as goal

pub returns : goal.returns
returns c = record { skips = λ us e s n d. rw (c.unwrap_or.ensures, alts_end_is _ _ e 320 _ us s n d c.alternatives_end.ensures) refl }

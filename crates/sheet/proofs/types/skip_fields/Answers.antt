-- The end that the walk finds is the end of whatever types stand there.
use Rattle.std.proofs.Common.{refl}
use Rattle.sheet.proofs.EndLaws.{types_end_is}
use Rattle.sheet.proofs.types.skip_fields.Goals as goal

pub returns : goal.returns
returns c = record { skips = λ ts e s n d. rw (c.unwrap_or.ensures, types_end_is _ _ e 320 _ ts s n d c.fields_end.ensures) refl }

-- The sheet is admitted exactly where the type at 0 ends at the sheet's end: the end that the walk finds decides, after the limit on words.
use Rattle.std.proofs.Common.{◌∙◌}
use Rattle.sheet.proofs.AdmitType.{too_long, is_type}
use Rattle.sheet.proofs.types.admit_type.Goals as goal

pub returns-then-ty-gt-MAX_TYPE_WORDS : goal.returns-then-ty-gt-MAX_TYPE_WORDS
returns-then-ty-gt-MAX_TYPE_WORDS c = search too_long

pub returns : goal.returns
returns c = c.eq.ensures ∙ is_type _ c.if-ty-gt-MAX_TYPE_WORDS.false _ c.type_end.ensures

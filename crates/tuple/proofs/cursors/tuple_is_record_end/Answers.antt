-- The cursor made of the two numbers, the library's step, and its answer as numbers: what each promises, one after the other.
use Rattle.format.specs.Cursor as cursor
use Rattle.tuple.proofs.StepLaws as laws
use Rattle.tuple.specs.StepNumbers as numbers
use Rattle.tuple.proofs.cursors.tuple_is_record_end.Goals as goal

pub returns : goal.returns
returns c = laws.at_cursor (cursor.is_record_end _) numbers.end_number _ _ _ _ c.from.ensures c.is_record_end.ensures c.cursor_at-c.ensures

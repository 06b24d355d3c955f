-- The cursor made of the two numbers, the library's step, and its answer as numbers: what each promises, one after the other.
use Rattle.format.specs.Cursor as cursor
use Rattle.tuple.proofs.StepLaws as laws
use Rattle.tuple.specs.StepNumbers as numbers
use Rattle.tuple.proofs.cursors.tuple_close.Goals as goal

pub returns : goal.returns
returns c = laws.at_cursor (cursor.close _) (numbers.moved_step _ _) _ _ _ _ c.of_moved.ensures.moved c.close.ensures c.cursor_at-c.ensures

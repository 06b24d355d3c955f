-- The cursor made of the two numbers, the library's step, and its answer as numbers: what each promises, one after the other.
use Rattle.format.specs.Cursor as cursor
use Rattle.tuple.proofs.StepLaws as laws
use Rattle.tuple.proofs.cursors.tuple_take_str.Goals as goal

pub returns : goal.returns
returns c = laws.taken cursor.take_str _ _ _ _ _ _ _ _ _ c.of_part.ensures c.take_str.ensures c.cursor_at-c.ensures

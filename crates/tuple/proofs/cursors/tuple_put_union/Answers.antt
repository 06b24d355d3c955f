-- The cursor made of the two numbers, the library's step, and its answer as numbers: what each promises, one after the other.
use Rattle.format.specs.Cursor as cursor
use Rattle.tuple.proofs.StepLaws as laws
use Rattle.tuple.proofs.cursors.tuple_put_union.Goals as goal

pub returns : goal.returns
returns c = laws.tagged cursor.put_union _ _ _ _ _ _ _ _ _ c.of_moved.ensures.wrote c.put_union.ensures c.cursor_at-c.ensures

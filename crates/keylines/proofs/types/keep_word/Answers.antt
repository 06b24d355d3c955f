-- `keep_word` meets its contract: behind the end, setting changes nothing.
use mathlib.Core.Path.{sym}
use lib.Seq.{set_out}
use Rattle.keylines.proofs.types.keep_word.Goals as goal

-- src/types.rt:56:1
pub returns-else-n-ty : goal.returns-else-n-ty
returns-else-n-ty c = sym (set_out _ _ _ c.if-n-ty.false)

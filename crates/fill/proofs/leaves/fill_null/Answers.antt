-- One store is a put of one word; a null has one byte at depth 0, and two inside a group.
use Rattle.std.proofs.Common.{arith, lt-ltb}
use Rattle.blocks.proofs.Put.{set_put}
use Rattle.fill.proofs.leaves.fill_null.Goals as goal

pub returns-then-depth-eq0 : goal.returns-then-depth-eq0
returns-then-depth-eq0 c = let a = c.args in (rw c.if-depth-eq0.true, set_put a.words.now a.w 0 c.requires)

pub returns : goal.returns
returns c = let a = c.args in (rw (lt-ltb 0 a.depth (omega (arith, c.if-depth-eq0.false))), set_put a.words.now a.w 0 c.requires)

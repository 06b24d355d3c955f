-- A null is two bytes where the depth is above 0.
use borrow.Author.Tests.{lt-ltb, le-ltb}
use Rattle.fit.proofs.null_len.Goals as goal

pub returns-then-depth-gt0 : goal.returns-then-depth-gt0
returns-then-depth-gt0 c = rw (lt-ltb 0 _ c.if-depth-gt0.true)

pub returns : goal.returns
returns c = rw (le-ltb 0 _ c.if-depth-gt0.false)

-- A null: its mark, and inside a group its escape behind it.
use native.Mathlib.Omega.{arith}
use borrow.Author.Tests.{lt-ltb, le-ltb}
use Rattle.write.proofs.Stores.{stored_then}
use Rattle.write.proofs.put_null.Goals as goal

pub returns-then-depth-gt0 : goal.returns-then-depth-gt0
returns-then-depth-gt0 c = rw (lt-ltb 0 c.args.depth (omega (arith, c.if-depth-gt0.true))) (stored_then c.put_byte-end.ensures c.put_byte.ensures)

pub returns : goal.returns
returns c = rw (le-ltb 0 c.args.depth (omega (arith, c.if-depth-gt0.false))) c.put_byte-end.ensures

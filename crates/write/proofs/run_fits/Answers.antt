-- A run has at most twice its payload and its end: so a payload shorter than half the room fits with no zeros counted.
use mathlib.Core.Path.{sym, ◌∙◌}
use native.Mathlib.Omega.{arith}
use borrow.Author.Tests.{le-leb, lt-ltb}
use Rattle.scalar.proofs.Escapes.{escaped_bounds}
use Rattle.write.proofs.run_fits.Goals as goal

pub returns-then-payload-n : goal.returns-then-payload-n
returns-then-payload-n c = let a = c.args in lt-ltb _ _ c.if-payload-n.true ∙ sym (le-leb _ a.n (omega (arith, (escaped_bounds a.payload.now).1)))

-- How many bytes of the pool a kind takes, by the tests that PlainLaws makes.
use native.Mathlib.Omega.{arith}
use Rattle.format.proofs.PlainLaws.{pool_int, pool_ref, pool_run}
use Rattle.write.proofs.run_of.Goals as goal

pub returns-in-1 : goal.returns-in-1
returns-in-1 c = let a = c.args in pool_int a.kind a.x c.in-1.is

pub returns-in-4 : goal.returns-in-4
returns-in-4 c = let a = c.args in pool_ref a.kind a.x (λ z. omega (arith, c.in-4.is)) c.in-4.is

pub returns-in_default : goal.returns-in_default
returns-in_default c = let a = c.args in pool_run a.kind a.x (λ z. omega arith) (λ z. omega arith)

-- A value that is no group, by its kind: what each kind is written as is what PlainLaws says of it; only a run has a payload, and so zeros.
use native.Mathlib.Omega.{arith}
use Rattle.format.proofs.PlainLaws.{pool_int, pool_ref, bytes_int, bytes_ref, bytes_str, bytes_raw}
use Rattle.write.proofs.Stores.{none_counted}
use Rattle.write.proofs.put_scalar.Goals as goal

pub returns-in-1 : goal.returns-in-1
returns-in-1 c =
    let a = c.args in
    let none = none_counted a.payload.now (omega (arith, c.requires.1, pool_int a.kind a.x c.in-1.is)) c.put_int-end.ensures in
    rw (← bytes_int a.kind a.x a.payload.now c.in-1.is) none

pub returns-in-4 : goal.returns-in-4
returns-in-4 c =
    let a = c.args in
    let k = c.in-4.is in
    let none = none_counted a.payload.now (omega (arith, c.requires.1, pool_ref a.kind a.x (λ z. omega (arith, k)) k)) c.put_ref-end.ensures in
    rw (← bytes_ref a.kind a.x a.payload.now (λ z. omega (arith, k)) k) none

pub returns-in-2 : goal.returns-in-2
returns-in-2 c =
    let a = c.args in
    let k = c.in-2.is in
    rw (← bytes_str a.kind a.x a.payload.now (λ z. omega (arith, k)) (λ z. omega (arith, k)) k) c.put_run.ensures

pub returns-in_default : goal.returns-in_default
returns-in_default c =
    let a = c.args in
    rw (← bytes_raw a.kind a.x a.payload.now (λ z. omega arith) (λ z. omega arith) (λ z. omega arith)) c.put_run-in_default.ensures

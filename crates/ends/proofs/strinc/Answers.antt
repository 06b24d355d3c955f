-- What is left of the prefix has a last byte that is not FF, so one more is still a byte: it stands behind the copy of those before it.
use mathlib.Core.Path.{ap}
use mathlib.Core.List.{List}
use Prim.Native.Nat.{ℕ, ◌+◌, ◌-◌}
use lib.ListN.{get_or, set}
use Rattle.ends.proofs.TrimLaws.{s_none, s_room, s_done}
use native.Mathlib.Omega.{arith}
use Rattle.ends.proofs.strinc.Goals as goal

pub returns-then-n-eq0 : goal.returns-then-n-eq0
returns-then-n-eq0 c = search s_none

pub returns-then-out-n : goal.returns-then-out-n
returns-then-out-n c =
    let t = c.trimmed_len-n in
    let a = c.args in
    s_room a.prefix.now a.out.now t.result t.ensures c.if-n-eq0.false c.if-out-n.true (omega arith)

pub overflow_add-out : goal.overflow_add-out
overflow_add-out c =
    let f = c.trimmed_len-n.ensures.last (omega arith) in
    let b = c.type_inv.prefix (c.trimmed_len-n.result - 1) in
    omega (arith, f, b)

pub returns : goal.returns
returns c =
    let t = c.trimmed_len-n in
    let a = c.args in
    let last = t.result - 1 in
    s_done a.prefix.now a.out.now t.result t.ensures c.if-n-eq0.false (omega arith) _
    (ap (λ (l : List ℕ). set l last (get_or a.prefix.now last 0 + 1)) c.copy_front.ensures)

-- `put_row` meets its contract: four numbers, each put where the one before it ends; the row has room, so each has.
use mathlib.Core.Path.{ap}
use native.Mathlib.Omega.{arith}
use lib.ListN.{length}
use Rattle.format.specs.Keylist.{decimal}
use Rattle.keylines.proofs.RowLaws as laws
use Rattle.keylines.proofs.rows.put_row.Goals as goal

pub put_number-a-requires : goal.put_number-a-requires
put_number-a-requires c =
    let a = c.args in
    omega (arith, laws.row_long a.place a.no a.detail a.begun, c.requires)

pub put_number-b-requires : goal.put_number-b-requires
put_number-b-requires c =
    let a = c.args in
    let p = c.put_number-a.ensures in
    let same = ap (λ n. length (decimal n)) c.from.ensures in
    omega (arith, laws.row_long a.place a.no a.detail a.begun, c.requires, same, p.end, p.put.long)

pub put_number-c-requires : goal.put_number-c-requires
put_number-c-requires c =
    let a = c.args in
    let p = c.put_number-a.ensures in
    let q = c.put_number-b.ensures in
    let same = ap (λ n. length (decimal n)) c.from.ensures in
    omega (arith, laws.row_long a.place a.no a.detail a.begun, c.requires, same, p.end, p.put.long, q.end, q.put.long)

pub put_number-requires : goal.put_number-requires
put_number-requires c =
    let a = c.args in
    let p = c.put_number-a.ensures in
    let q = c.put_number-b.ensures in
    let r = c.put_number-c.ensures in
    let same = ap (λ n. length (decimal n)) c.from.ensures in
    omega (arith, laws.row_long a.place a.no a.detail a.begun, c.requires, same, p.end, p.put.long, q.end, q.put.long, r.end, r.put.long)

pub returns : goal.returns
returns c = laws.row_put c.put_number-a.ensures (rw c.from.ensures at c.put_number-b.ensures) c.put_number-c.ensures c.put_number.ensures

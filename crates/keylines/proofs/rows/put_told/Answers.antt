-- `put_told` meets its contract: by the answer; the numbers are no longer than their types let them be, so the row has room.
use native.Mathlib.Omega.{arith}
use borrow.Author.Rules.{rules}
use Rattle.keylines.proofs.RowLaws as laws
use Rattle.keylines.proofs.rows.put_told.Goals as goal

pub put_row-requires : goal.put_row-requires
put_row-requires c = omega (arith, c.requires, laws.row_short c.args.place 0 0 c.in-Ok.begun c.requires.0 (omega arith) (omega arith) (search rules))

pub put_row-requires-in-Err : goal.put_row-requires-in-Err
put_row-requires-in-Err c =
    omega (arith, c.requires, laws.row_short c.args.place c.number.result c.detail.result c.in-Err.field-0.begun c.requires.0 (search rules) (search rules) (search rules))

pub returns-in-Ok : goal.returns-in-Ok
returns-in-Ok c =
    rw c.in-Ok.is (record { put = c.put_row.ensures; short = laws.row_short c.args.place 0 0 c.in-Ok.begun c.requires.0 (omega arith) (omega arith) (search rules) })

pub returns-in-Err : goal.returns-in-Err
returns-in-Err c =
    rw (c.in-Err.is, ← c.number.ensures, ← c.detail.ensures)
    (record {
      put = c.put_row-in-Err.ensures;
      short = laws.row_short c.args.place c.number.result c.detail.result c.in-Err.field-0.begun c.requires.0 (search rules) (search rules) (search rules);
    })

use native.Mathlib.Omega.{arith}
use Rattle.keylist.proofs.write_rows.Goals as goal

pub loop-left-smaller : goal.loop-left-smaller
loop-left-smaller g c =
    let left = c.put_piece-put.ensures in
    omega (arith, (left.on c.loop-left-test.true).0, left.asked.place)

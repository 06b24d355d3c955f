-- The fields, the mark and the beginning of the run are written one behind the other.
use Rattle.key.proofs.StartingLaws as laws
use native.Mathlib.Omega.{arith}
use Rattle.key.proofs.FirstsLaws.{count_in}
use Rattle.key.proofs.starting.put_start.Goals as goal

pub bounds-words-1 : goal.bounds-words-1
bounds-words-1 c = (count_in c.args.words.now c.args.pool.now c.requires.0.first_is).0

pub put_fields-requires : goal.put_fields-requires
put_fields-requires c =
    let h = (count_in c.args.words.now c.args.pool.now c.requires.0.first_is).0 in
    record { word_in = omega arith; pool_in = omega arith; at_in = omega arith; deep = omega arith }

pub returns : goal.returns
returns c =
    let a = c.args in
    laws.start_put a.words.now a.pool.now a.n a.mark a.s.now c.requires.1 c.put_fields.ensures c.write_start.ensures.1

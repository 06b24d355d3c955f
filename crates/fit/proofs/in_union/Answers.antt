-- A law of `Leaves`; the tag is short.
use native.Mathlib.Omega.{arith}
use Rattle.scalar.proofs.Widths.{uint_long}
use Rattle.fit.proofs.Leaves.{closed_well}
use Rattle.fit.proofs.in_union.Goals as goal

pub overflow_add-result : goal.overflow_add-result
overflow_add-result c = omega (arith, c.uint_len.ensures, (uint_long c.args.tag).1)

pub overflow_add-result-2 : goal.overflow_add-result-2
overflow_add-result-2 c = omega (arith, c.uint_len.ensures, (uint_long c.args.tag).1)

pub returns : goal.returns
returns c = let i = c.args.payload in closed_well _ _ _ _ i.at i.word i.pool i.len _ _ c.union_end.ensures c.uint_len.ensures

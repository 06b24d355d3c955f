use Rattle.std.proofs.Common.{refl, arith}
use Rattle.scalar.proofs.Measures as laws
use Rattle.scalar.proofs.runs.run_end.Goals as goal

pub loop-from-init : goal.loop-from-init
loop-from-init c = (c.requires, refl)

pub loop-from-smaller : goal.loop-from-smaller
loop-from-smaller c = let f = c.zero_from-z.ensures.after in omega arith

pub loop-from-preserved : goal.loop-from-preserved
loop-from-preserved c = (omega arith, search laws.end_over)

pub returns-then-bytes-z-lt2 : goal.returns-then-bytes-z-lt2
returns-then-bytes-z-lt2 c = search laws.end_last

pub returns-then-bytes-z : goal.returns-then-bytes-z
returns-then-bytes-z c = search laws.end_found

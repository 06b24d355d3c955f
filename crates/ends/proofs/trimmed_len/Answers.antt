use native.Mathlib.Omega.{arith}
use Rattle.ends.proofs.TrimLaws.{trim_start, trim_more, trim_stop, trim_none, trim_empty}
use Rattle.ends.proofs.trimmed_len.Goals as goal

pub returns-then-n-eq0 : goal.returns-then-n-eq0
returns-then-n-eq0 c = trim_empty _ c.if-n-eq0.true

pub overflow_sub-n : goal.overflow_sub-n
overflow_sub-n c = omega arith

pub bounds-prefix-n : goal.bounds-prefix-n
bounds-prefix-n c = omega arith

pub returns-then-prefix-n : goal.returns-then-prefix-n
returns-then-prefix-n c = trim_stop _ _ (trim_start _) (omega arith) c.if-prefix-n.true

pub loop-n-init : goal.loop-n-init
loop-n-init c = trim_start _

pub overflow_sub-last : goal.overflow_sub-last
overflow_sub-last c = omega arith

pub bounds-prefix-last : goal.bounds-prefix-last
bounds-prefix-last c = let t = c.loop-n.invariant.short in omega arith

pub returns-then-prefix-last : goal.returns-then-prefix-last
returns-then-prefix-last c = search trim_stop

pub loop-n-smaller : goal.loop-n-smaller
loop-n-smaller c = omega arith

pub loop-n-preserved : goal.loop-n-preserved
loop-n-preserved c = search trim_more

pub returns : goal.returns
returns c = search trim_none

use Rattle.std.proofs.Common.{refl, arith}
use Rattle.scalar.proofs.Judging as laws
use Rattle.scalar.proofs.runs.run_is_text.Goals as goal

pub loop-i-init : goal.loop-i-init
loop-i-init c = refl

pub zero_from-z-requires : goal.zero_from-z-requires
zero_from-z-requires c = omega arith

pub slice_bounds-valid-count : goal.slice_bounds-valid-count
slice_bounds-valid-count c = omega arith

pub returns-then-not-valid : goal.returns-then-not-valid
returns-then-not-valid c = search laws.text_stops

pub returns-then-run-z : goal.returns-then-run-z
returns-then-run-z c = search laws.text_last

pub overflow_add-i : goal.overflow_add-i
overflow_add-i c = omega arith

pub loop-i-smaller : goal.loop-i-smaller
loop-i-smaller c = omega arith

pub loop-i-preserved : goal.loop-i-preserved
loop-i-preserved c = search laws.text_on

pub returns : goal.returns
returns c = search laws.text_past

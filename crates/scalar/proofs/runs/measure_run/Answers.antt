-- Up to the first zero the run is its own payload; from there on it ends where `run_end` says, and each 00 in it has an FF that is no payload.
use Rattle.scalar.proofs.Measures as laws
use Rattle.scalar.proofs.runs.measure_run.Goals as goal

pub returns-then-bytes-end : goal.returns-then-bytes-end
returns-then-bytes-end c = search laws.measured_unended

pub returns-then-end-first : goal.returns-then-end-first
returns-then-end-first c = search laws.measured_plain

pub slice_bounds-count_zeros-start : goal.slice_bounds-count_zeros-start
slice_bounds-count_zeros-start c = search laws.end_after

pub slice_bounds-count_zeros-count : goal.slice_bounds-count_zeros-count
slice_bounds-count_zeros-count c = search laws.end_after

pub overflow_sub-len : goal.overflow_sub-len
overflow_sub-len c = search laws.zeros_room

pub returns : goal.returns
returns c = search laws.measured_ends

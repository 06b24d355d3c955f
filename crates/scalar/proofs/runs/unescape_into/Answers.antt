use Rattle.std.proofs.Common.{arith}
use Rattle.blocks.proofs.Put.{left_all}
use Rattle.scalar.proofs.Writing as laws
use Rattle.scalar.proofs.runs.unescape_into.Goals as goal

pub loop-i-init : goal.loop-i-init
loop-i-init c = left_all _ _ _

pub zero_from-z-requires : goal.zero_from-z-requires
zero_from-z-requires c = omega arith

pub copy_to-requires : goal.copy_to-requires
copy_to-requires c = (omega arith, omega arith, search laws.payload_room)

pub overflow_sub-o : goal.overflow_sub-o
overflow_sub-o c = omega arith

pub overflow_add-o : goal.overflow_add-o
overflow_add-o c = search laws.payload_place

pub shape_of-dst-then-run-z : goal.shape_of-dst-then-run-z
shape_of-dst-then-run-z c = search laws.payload_long

pub returns-then-run-z : goal.returns-then-run-z
returns-then-run-z c = laws.payload_done c.zero_from-z.ensures c.loop-i.invariant c.requires c.copy_to.ensures c.if-run-z.true

pub bounds-dst-o : goal.bounds-dst-o
bounds-dst-o c = search laws.payload_zero_room

pub overflow_add-i : goal.overflow_add-i
overflow_add-i c = omega arith

pub loop-i-smaller : goal.loop-i-smaller
loop-i-smaller c = omega arith

pub loop-i-preserved : goal.loop-i-preserved
loop-i-preserved c = search laws.payload_on

pub shape_of-dst : goal.shape_of-dst
shape_of-dst c = c.loop-i.invariant.long

pub returns : goal.returns
returns c = (search laws.past_ends, search laws.past_whole)

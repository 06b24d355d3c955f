use Rattle.std.proofs.Common.{arith, length-set}
use Rattle.blocks.proofs.Put.{left_all}
use Rattle.scalar.proofs.StartWriting as laws
use Rattle.scalar.proofs.starts.write_rest.Goals as goal

pub loop-z-init : goal.loop-z-init
loop-z-init c = (omega arith, left_all _ _ _)

pub copy_to-requires : goal.copy_to-requires
copy_to-requires c = (omega arith, omega arith, search laws.start_room)

pub overflow_add-o : goal.overflow_add-o
overflow_add-o c = search laws.start_place

pub bounds-buf-o : goal.bounds-buf-o
bounds-buf-o c = search laws.zero_room

pub overflow_add-o-in-loop-z : goal.overflow_add-o-in-loop-z
overflow_add-o-in-loop-z c = omega (arith, bounds-buf-o c)

pub bounds-buf-o-in-loop-z : goal.bounds-buf-o-in-loop-z
bounds-buf-o-in-loop-z c = search laws.mark_room

pub overflow_add-o-in-loop-z-2 : goal.overflow_add-o-in-loop-z-2
overflow_add-o-in-loop-z-2 c = omega (arith, simp length-set at (bounds-buf-o-in-loop-z c))

pub loop-z-preserved : goal.loop-z-preserved
loop-z-preserved c = (omega arith, search laws.start_on)

pub returns : goal.returns
returns c = (search laws.start_ends, search laws.start_whole)

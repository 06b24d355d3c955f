-- Invariant: the bytes of the part that were passed stand at their new places.
use Rattle.std.proofs.Common.{◌≡◌, take}
use Rattle.format.specs.Fields.{put}
use Rattle.blocks.proofs.copying.copy_to.Given as goal

abbrev pub invariant-loop-k : goal.invariant-loop-k
invariant-loop-k l = l.dst ≡ put l.initial.dst l.o (take l.k l.part)

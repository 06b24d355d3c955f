-- A union's tag: its bytes are the first of `UnionTag`'s, and its length is compared with the room left.
use native.Mathlib.Omega.{arith}
use Rattle.write.proofs.Stores.{no_room, put_stored}
use Rattle.write.proofs.put_tag.Goals as goal

pub returns-then-out-at : goal.returns-then-out-at
returns-then-out-at c = no_room c.requires (omega (arith, c.new-tag.ensures.long))

pub copy_to-requires : goal.copy_to-requires
copy_to-requires c = (omega arith, c.new-tag.ensures.within, omega arith)

pub returns : goal.returns
returns c = put_stored c.requires (omega (arith, c.new-tag.ensures.long)) (omega (arith, c.new-tag.ensures.long)) (rw c.new-tag.ensures.front at c.copy_to.ensures)

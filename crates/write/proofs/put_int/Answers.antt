-- An integer: its length is compared with the room left, so that its bytes fit where they are written.
use native.Mathlib.Omega.{arith}
use Rattle.write.proofs.Stores.{no_room}
use Rattle.write.proofs.put_int.Goals as goal

pub returns-then-out-at : goal.returns-then-out-at
returns-then-out-at c = no_room c.requires (omega (arith, c.int_len.ensures))

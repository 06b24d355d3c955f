-- One byte: a store where the place is within the buffer, and nothing at its end.
use native.Mathlib.Omega.{arith}
use Rattle.write.proofs.Stores.{byte_stored, no_room}
use Rattle.write.proofs.put_byte.Goals as goal

pub returns-then-at-out : goal.returns-then-at-out
returns-then-at-out c = byte_stored c.if-at-out.true

pub returns : goal.returns
returns c = no_room c.requires (omega arith)

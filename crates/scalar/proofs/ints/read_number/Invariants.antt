-- The loop's invariant: n is the number of the bytes passed, and below 256 to their count.
use Rattle.std.proofs.Common.{◌≡◌, ◌^◌, ◌<◌, take}
use Rattle.format.specs.Read.{number}
use Rattle.scalar.proofs.ints.read_number.Given as goal

abbrev pub invariant-loop-byte : goal.invariant-loop-byte
invariant-loop-byte l = (l.n ≡ number 0 (take l.byte-index l.byte-items)) × (l.n < 256 ^ l.byte-index)

-- A discriminant of 32 bits has at most five bytes, so that tag and mark fit the six.
use Rattle.std.proofs.Common.{arith}
use Rattle.scalar.proofs.Widths as laws
use Rattle.scalar.proofs.tag.UnionTag.new.Goals as goal

pub write_u64-len-requires : goal.write_u64-len-requires
write_u64-len-requires c = let n = c.from.result in omega (arith, laws.length_uint n, laws.width_lt 4 n (omega arith) (omega arith))

pub returns : goal.returns
returns c = search laws.tag_in

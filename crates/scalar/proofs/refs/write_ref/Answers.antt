-- A reference is its mark and eight bytes.
use Rattle.std.proofs.Common.{arith}
use Rattle.scalar.proofs.Widths.{ref_long}
use Rattle.scalar.proofs.refs.write_ref.Goals as goal

pub write_marked-requires : goal.write_marked-requires
write_marked-requires c = omega (arith, ref_long c.args.raw)

pub returns : goal.returns
returns c = (omega (arith, ref_long c.args.raw), c.write_marked.ensures.1)

-- Nine bytes put over nine are all of them.
use Rattle.std.proofs.Common.{arith}
use Rattle.scalar.proofs.Widths.{ref_long, ref_over}
use Rattle.scalar.proofs.refs.fact_ref_bytes.Goals as goal

pub write_ref-requires : goal.write_ref-requires
write_ref-requires c = omega (arith, ref_long c.args.raw)

pub returns : goal.returns
returns c = rw c.write_ref.ensures.1 (ref_over c.args.raw)

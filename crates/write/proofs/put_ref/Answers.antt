-- A reference: its nine bytes fit in the room left where they are written.
use native.Mathlib.Omega.{arith}
use Rattle.scalar.proofs.Widths.{ref_long}
use Rattle.write.proofs.Stores.{no_room, put_stored}
use Rattle.write.proofs.put_ref.Goals as goal

pub returns-then-out-at-lt-FACT_REF_FIELD_LEN : goal.returns-then-out-at-lt-FACT_REF_FIELD_LEN
returns-then-out-at-lt-FACT_REF_FIELD_LEN c = no_room c.requires (omega (arith, ref_long c.args.raw))

pub write_ref-requires : goal.write_ref-requires
write_ref-requires c = omega (arith, ref_long c.args.raw)

pub returns : goal.returns
returns c = put_stored c.requires (omega (arith, ref_long c.args.raw)) c.write_ref.ensures.0 c.write_ref.ensures.1

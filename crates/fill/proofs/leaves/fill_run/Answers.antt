-- A run is measured once: it ends, so that its payload is put where there is room, or it is no run, or has no room, and then the word is 0.
use Rattle.std.proofs.Common.{arith, refl}
use Rattle.fill.proofs.RunLaws as laws
use Rattle.fill.proofs.leaves.fill_run.Goals as goal

pub returns-then-pool-p : goal.returns-then-pool-p
returns-then-pool-p c = laws.run_short c.requires.0 c.requires.1 c.requires.2 c.in-Some.ensures refl c.if-pool-p.true c.put_pair-then-pool-p.ensures

pub overflow_add-end : goal.overflow_add-end
overflow_add-end c = omega (arith, laws.run_in c.args.bytes.now c.args.i c.in-Some.ensures refl)

pub payload_into-requires : goal.payload_into-requires
payload_into-requires c = (laws.run_long c.args.bytes.now c.args.i c.in-Some.ensures refl, omega (arith, c.if-pool-p.false, c.requires.2))

pub overflow_add-result : goal.overflow_add-result
overflow_add-result c = omega (arith, laws.run_in c.args.bytes.now c.args.i c.in-Some.ensures refl)

pub returns-in-None : goal.returns-in-None
returns-in-None c = laws.run_not c.requires.0 c.requires.1 c.requires.2 c.in-None.ensures refl c.put_pair.ensures

pub returns-else-pool-p : goal.returns-else-pool-p
returns-else-pool-p c = laws.run_filled c.requires.0 c.requires.1 c.requires.2 c.in-Some.ensures refl (omega (arith, c.if-pool-p.false)) c.put_pair-in-Some.ensures c.payload_into.ensures

pub slice_bounds-payload_into-end : goal.slice_bounds-payload_into-end
slice_bounds-payload_into-end c = omega (arith, laws.run_in c.args.bytes.now c.args.i c.in-Some.ensures refl)

-- A payload as long as its run has no zero and stays in the key; any other goes to scratch where there is room.
use Rattle.scalar.proofs.Placing as laws
use Rattle.scalar.proofs.payloads.place_payload.Goals as goal

pub returns-then-len-run : goal.returns-then-len-run
returns-then-len-run c = search laws.place_key

pub returns-then-scratch-len : goal.returns-then-scratch-len
returns-then-scratch-len c = search laws.place_short

pub returns : goal.returns
returns c = search laws.place_scratch

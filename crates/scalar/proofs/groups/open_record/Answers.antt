-- Another mark or none, too deep, open: the cases of `record_mark`.
use Rattle.scalar.proofs.GroupLaws as laws
use Rattle.scalar.proofs.groups.open_record.Goals as goal

pub returns-then-depth-lt-MAX_RECORD_DEPTH : goal.returns-then-depth-lt-MAX_RECORD_DEPTH
returns-then-depth-lt-MAX_RECORD_DEPTH c = laws.record_open c.args.depth c.args.rest.now c.in_ok-expect_mark.ensures c.if-depth-lt-MAX_RECORD_DEPTH.true

pub returns : goal.returns
returns c = search (laws.record_deep, c.in_ok-expect_mark.ensures)

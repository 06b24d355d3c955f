-- The prefix trims to what its first n bytes trim to; n falls by one FF at a time.
use Rattle.ends.proofs.TrimLaws.{Trimming}
use Rattle.ends.proofs.trimmed_len.Given as goal

abbrev pub invariant-loop-n : goal.invariant-loop-n
invariant-loop-n l = Trimming l.prefix l.n

abbrev pub decreases-loop-n : goal.decreases-loop-n
decreases-loop-n l = l.n

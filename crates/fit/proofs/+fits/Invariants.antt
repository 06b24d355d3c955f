-- A value's walk says what the laws of `Steps` say by the words at its places, of the type itself, behind word 7 where that stands; its calls are for what stands
-- behind the kind and its count. A row's loop keeps `Left`: whatever row stands at the start, what is left of it decides. Calls go on in the words, so what is
-- left of those falls.
use Prim.Native.Nat.{◌+◌, ◌-◌, ◌*◌}
use lib.ListN.{length}
use Rattle.fit.proofs.Rows.{Left}
use Rattle.fit.proofs.+fits.Given as goal

abbrev pub decreases-fit_fields : goal.decreases-fit_fields
decreases-fit_fields l = 2 * (length l.words.now - l.from) + 1

abbrev pub decreases-fit_value : goal.decreases-fit_value
decreases-fit_value l = 2 * (length l.words.now - l.w)

abbrev pub invariant-fit_fields-loop-passed : goal.invariant-fit_fields-loop-passed
invariant-fit_fields-loop-passed l = Left l.ty l.words l.pool l.at l.from l.start l.n l.depth l.asked l.row.at l.row.word l.row.pool l.row.len (l.n - l.passed)

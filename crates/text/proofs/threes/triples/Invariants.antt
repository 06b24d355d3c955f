-- Invariant: where no byte was out of its range, the j bytes passed lie in theirs, by their place in the character.
use mathlib.Core.Bool.{true}
use mathlib.Core.Path.{◌≡◌}
use Prim.Native.Nat.{ℕ, ◌+◌, ◌<◌}
use lib.ListN.{get_or}
use Rattle.text.specs.Rows.{Lies}
use Rattle.text.proofs.threes.triples.Given as goal

abbrev pub invariant-loop-j : goal.invariant-loop-j
invariant-loop-j l = l.all ≡ true → (p : ℕ) → p < l.j → Lies p (get_or l.s (l.i + p) 0)

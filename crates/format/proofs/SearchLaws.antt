-- The search for a discriminant looks at the alternatives up to the first with the tag, or at all of them.
use mathlib.Core.Path.{◌≡◌, refl, ap}
use Prim.Native.Nat.{ℕ, zero, suc, ◌<◌}
use native.Mathlib.Omega.{arith}
use Rattle.format.specs.Tree.{Alts}
use Rattle.format.specs.Sheet.{alt_count}
use Rattle.format.specs.Search.{looked, HasTag, LookedAt}
use Rattle.format.proofs.Tests.{eqb_yes, eqb_no}

looked_found : (tag : ℕ) (alts : Alts) (i : ℕ) → HasTag tag alts i → ((j : ℕ) → j < i → HasTag tag alts j → ⊥) → looked tag alts ≡ suc i
unfolding looked HasTag
looked_found tag Alts.NoAlt i h n = absurd h
looked_found tag (Alts.AddAlt d t alts) zero h n = rw (eqb_yes d tag h)
looked_found tag (Alts.AddAlt d t alts) (suc i) h n = rw (eqb_no d tag (λ e. n 0 (omega arith) e)) (ap suc (looked_found tag alts i h (λ j l e. n (suc j) (omega arith) e)))

looked_all : (tag : ℕ) (alts : Alts) → ((i : ℕ) → HasTag tag alts i → ⊥) → looked tag alts ≡ alt_count alts
unfolding looked HasTag alt_count
looked_all tag Alts.NoAlt n = refl
looked_all tag (Alts.AddAlt d t alts) n = rw (eqb_no d tag (λ e. n 0 e)) (ap suc (looked_all tag alts (λ i e. n (suc i) e)))

pub looked_at : (tag : ℕ) (alts : Alts) → LookedAt tag alts
looked_at tag alts = record { found = looked_found tag alts; absent = looked_all tag alts }

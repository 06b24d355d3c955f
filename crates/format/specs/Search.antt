-- How many alternatives the search for a discriminant looks at: request U3's claim (proofs/SearchLaws has the proof).
use Rattle.std.specs.Prelude.{ℕ, zero, suc, ◌<◌, ◌≡◌, eqb}
use Rattle.format.specs.Answer.{if}
use Rattle.format.specs.Tree.{Alts}
use Rattle.format.specs.Sheet.{alt_count}

-- one for each alternative up to the first with the tag, that one too
unfoldable pub looked : ℕ → Alts → ℕ
looked tag Alts.NoAlt = 0
looked tag (Alts.AddAlt d t alts) = suc (if (eqb d tag) 0 (looked tag alts))

-- the alternative at a place from 0 has the tag
unfoldable pub HasTag : ℕ → Alts → ℕ → Type 0
HasTag tag Alts.NoAlt i = ⊥
HasTag tag (Alts.AddAlt d t alts) zero = d ≡ tag
HasTag tag (Alts.AddAlt d t alts) (suc i) = HasTag tag alts i

-- the match's place from 1, or all of them where none matches
pub record LookedAt (tag : ℕ) (alts : Alts) : Type 0 where
  pub found : (i : ℕ) → HasTag tag alts i → ((j : ℕ) → j < i → HasTag tag alts j → ⊥) → looked tag alts ≡ suc i
  pub absent : ((i : ℕ) → HasTag tag alts i → ⊥) → looked tag alts ≡ alt_count alts

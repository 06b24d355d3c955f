-- Characters of three bytes in a row, none of which begins with E0 or ED.
use Rattle.std.specs.Prelude.{ℕ, ◌%◌, ◌≤◌, ◌≡◌}

-- b is in the range of the place j behind the first of them
pub record Lies (j b : ℕ) : Type 0 where
  pub lead : j % 3 ≡ 0 → (0xE1 ≤ b) × (b ≤ 0xEF) × (b ≡ 0xED → ⊥)
  pub tail : (j % 3 ≡ 0 → ⊥) → (0x80 ≤ b) × (b ≤ 0xBF)

-- What the trimming of a prefix promises.
use Rattle.std.specs.Prelude.{◌≡◌, List, ℕ, ◌-◌, ◌≤◌, ◌<◌, length, take, get_or}
use Rattle.format.specs.Bounds.{trimmed}

-- n bytes of a prefix are left without its trailing FF
pub record Trims (p : List ℕ) (n : ℕ) : Type 0 where
  pub short : n ≤ length p
  pub left : trimmed p ≡ take n p
  pub last : 0 < n → get_or p (n - 1) 0 ≡ 0xFF → ⊥

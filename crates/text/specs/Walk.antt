-- A walk over characters.
use Rattle.std.specs.Prelude.{◌≡◌, List, ℕ, ◌≤◌, ◌<◌, length, drop}
use Rattle.format.specs.Utf8.{first_char, width_of, utf8}

-- from `from`, r is behind characters, and not before `stop` unless no character is there
pub record Walked (s : List ℕ) (from stop r : ℕ) : Type 0 where
  pub after : from ≤ r
  pub inside : r ≤ length s
  pub same : utf8 (drop from s) ≡ utf8 (drop r s)
  pub stuck : r < stop → width_of (first_char (drop r s)) ≡ 0

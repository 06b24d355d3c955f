-- ASCII: bytes below 80.
use Rattle.std.specs.Prelude.{List, ℕ, ◌≤◌, ◌<◌, get_or}

-- all from i on, before e
abbrev pub Low : List ℕ → ℕ → ℕ → Type 0
Low s i e = (k : ℕ) → i ≤ k → k < e → get_or s k 0 < 0x80

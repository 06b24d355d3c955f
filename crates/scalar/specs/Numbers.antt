-- Integers and references by their mark alone, for whoever passes over them without judging a width or a range.
use Rattle.std.specs.Prelude.{ℕ, ◌+◌, ◌-◌, ◌&&◌, List, [], ◌∷◌, length, ◌==◌, nat_le, nat_lt}
use Rattle.format.specs.Answer.{if}

-- how many bytes follow a mark: an integer's as many as it is away from 48, a reference's 8; over 8 for a byte that is neither
abbrev pub mark_width : ℕ → ℕ
mark_width m = if (nat_lt m 0x48) (0x48 - m) (if (m == 0x51) 8 (m - 0x48))

-- how many bytes the integer or the reference takes that the bytes begin with; 0 for anything else, and where it is cut short
unfoldable pub unjudged : List ℕ → ℕ
unjudged [] = 0
unjudged (m ∷ bs) = if (nat_le (mark_width m) 8 && nat_le (mark_width m) (length bs)) (mark_width m + 1) 0

-- What a call left at the beginning of a buffer, by its answer.
use Rattle.std.specs.Prelude.{ℕ, List, [], take, Result, Ok, Err}
use Rattle.format.specs.declared.refusal.Refusal.{Refusal}

-- the bytes that it says, or none where it was refused
abbrev pub wrote_by : Result ℕ Refusal → List ℕ → List ℕ
wrote_by (Ok n) out = take n out
wrote_by (Err e) out = []

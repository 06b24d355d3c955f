-- A run as it is written; and read in two steps, as the code takes it: where it ends and how long its payload is, then the payload itself.
use Rattle.std.specs.Prelude.{◌≡◌, ℕ, ◌+◌, ◌-◌, ◌<◌, List, [], ◌∷◌, Option, Some, None, length, take, drop, ◌==◌}
use Rattle.format.specs.Answer.{if, Answer, ok, refused}
use Rattle.format.specs.Scalar.{escaped}
use Rattle.format.specs.Read.{Read, got, bad, get_run}
use Rattle.format.specs.Fields.{put}
use Rattle.format.specs.Zeros.{zeros}
use Rattle.scalar.specs.declared.runs.Written.{Written}
use Rattle.scalar.specs.declared.runs.Run.{Run}

-- a payload stands as a run from `at` on, and r has the place behind it and the payload's zeros, each of which was escaped
pub record WritesRun (l : List ℕ) (at : ℕ) (s : List ℕ) (r : Written) (l' : List ℕ) : Type 0 where
  pub ends : r.end ≡ at + length (escaped s)
  pub wrote : l' ≡ put l at (escaped s)
  pub counted : r.zeros ≡ zeros s

-- the terminator's place and the payload's length, by what reading the run finds
abbrev pub measured_by : List ℕ → Read (List ℕ) → Option Run
measured_by s (got payload rest) = Some (record { end = length s - length rest - 1; len = length payload })
measured_by s (bad n d) = None

unfoldable pub measured : List ℕ → Option Run
measured s = measured_by s (get_run s)

-- the terminator's place counted from another one; the length where there is none
abbrev pub end_by : ℕ → ℕ → Option Run → ℕ
end_by from len (Some r) = from + r.end
end_by from len None = len

-- where the run ends whose bytes from a place on are read
unfoldable pub run_end : List ℕ → ℕ → ℕ
run_end s from = end_by from (length s) (measured (drop from s))

-- the same of a run behind a mark, by what reading both finds
abbrev pub marked_by : List ℕ → Read (List ℕ) → Answer Run
marked_by s (got payload rest) = ok (record { end = length s - length rest - 1; len = length payload })
marked_by s (bad n d) = refused n d

-- the payload of a run's bytes before its terminator: what follows a 00 is left out
unfoldable pub unescape : List ℕ → List ℕ
unescape [] = []
unescape (b ∷ []) = b ∷ []
unescape (b ∷ c ∷ s) = b ∷ if (b == 0) (unescape s) (unescape (c ∷ s))

-- the payload of the run behind the first byte, whose terminator is at a place
abbrev pub payload_to : ℕ → List ℕ → List ℕ
payload_to end b = unescape (take (end - 1) (drop 1 b))

-- the run behind the first byte ends at a place, and its payload has n bytes: each zero in it is one byte more
pub record RunIn (b : List ℕ) (end n : ℕ) : Type 0 where
  pub within : end < length b
  pub long : n ≡ length (payload_to end b)
  pub escapes : end ≡ n + zeros (payload_to end b) + 1

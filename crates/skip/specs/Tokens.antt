-- What the answers mean, by cases, and the parts of a turn that have a function each.
use Rattle.std.specs.Prelude.{Bool, false, ◌||◌, List, [], ◌∷◌, ◌≡◌, ℕ, ◌≤◌, ◌<◌, leb, eqb, length, get_or, drop, Result, Option, Some, None}
use Rattle.format.specs.Answer.{if, Answer, ok, and_then, UnexpectedEof}
use Rattle.format.specs.Refusals.{answered_by}
use Rattle.format.specs.declared.refusal.Refusal.{Refusal}
use Rattle.format.specs.Encode.{max_depth}
use Rattle.format.specs.Read.{Read, then_read, get_run}
use Rattle.format.specs.Skip.{pass_field, end_of}
use Rattle.format.specs.Cursor.{null_at}
use Rattle.format.specs.Fields.{Taken}
use Rattle.scalar.specs.Numbers.{mark_width, unjudged}

-- the depth behind what was passed, and how many bytes that took
abbrev pub token_of : Result (ℕ × ℕ) Refusal → Answer (Taken ℕ)
token_of = answered_by (λ t. record { value = t.0; used = t.1 })

-- a field with its mark, where no group ends
unfoldable pub field : Bool → ℕ → List ℕ → Read ℕ
field escape depth [] = Read.bad UnexpectedEof 0
field escape depth (m ∷ bs) = pass_field escape depth m bs

-- bytes begin with a mark
pub record Begins (s : List ℕ) (m : ℕ) : Type 0 where
  pub some : 0 < length s
  pub first : get_or s 0 0 ≡ m

-- a null whose escape is due or not, at the depth that stays
abbrev pub null_token : ℕ → Bool → List ℕ → Answer (Taken ℕ)
null_token depth due s = and_then (end_of s (null_at (if due 1 0) s)) (λ n. ok (record { value = depth; used = n }))

-- ---- integers, references and runs

abbrev pub number_mark : ℕ → Bool
number_mark m = leb (mark_width m) 8

abbrev pub run_mark : ℕ → Bool
run_mark m = eqb m 0x21 || eqb m 0x53

-- a run is passed over at the depth that stays, whatever its payload
abbrev pub pass_run : ℕ → List ℕ → Read ℕ
pass_run depth bs = then_read (get_run bs) (λ s rest. Read.got depth rest)

-- the run behind the first byte takes n bytes, that byte included
pub record Runs (s : List ℕ) (n : ℕ) : Type 0 where
  pub some : 0 < n
  pub inside : n ≤ length s
  pub passes : (depth : ℕ) → pass_run depth (drop 1 s) ≡ Read.got depth (drop n s)

-- how many bytes it takes, if it ends
abbrev pub RunEnds : List ℕ → Option ℕ → Type 0
RunEnds s (Some n) = Runs s n
RunEnds s None = (depth : ℕ) → pass_run depth (drop 1 s) ≡ Read.bad UnexpectedEof 0

-- what is left when no number was passed, no run starts and no record was opened: a number is cut short, a record too deep
pub record Left (depth : ℕ) (s : List ℕ) : Type 0 where
  pub short : unjudged s ≡ 0
  pub runless : run_mark (get_or s 0 0) ≡ false
  pub deep : get_or s 0 0 ≡ 0x22 → max_depth ≤ depth

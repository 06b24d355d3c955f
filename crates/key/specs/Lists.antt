-- Demand 3 as a caller of replace has it: a list of calls, of each of which no more is known than its contract.
use Rattle.std.specs.Prelude.{◌≡◌, List, [], ◌∷◌, ℕ, Result}
use Rattle.format.specs.Calls.{replace_call}
use Rattle.format.specs.Refusals.{answered, Leaves}
use Rattle.format.specs.Book.{Call, Seen, Book, used_after, run_book}
use Rattle.format.specs.Demand3.{AllHeld, Started}
use Rattle.format.specs.declared.refusal.Refusal.{Refusal}

-- what a caller sees of an answer and the buffer behind it
abbrev pub seen_by : ℕ → Result ℕ Refusal → List ℕ → Seen
seen_by used r buffer = record { answer = answered r; used = used_after used (answered r); buffer = buffer }

-- a list of calls, each on the buffer and the used length that the one before left
pub data Ran (ty : List ℕ) : (buffer : List ℕ) (used : ℕ) → List Call → List Seen → Type 0 where
  ended : (buffer : List ℕ) (used : ℕ) → Ran ty buffer used [] []
  next : (buffer : List ℕ) (used : ℕ) (c : Call) (cs : List Call) (r : Result ℕ Refusal) (buffer' : List ℕ) (l : List Seen)
      → Leaves (replace_call ty buffer used c.field c.words c.pool) r buffer' → Ran ty buffer' (used_after used (answered r)) cs l
      → Ran ty buffer used (c ∷ cs) (seen_by used r buffer' ∷ l)

-- its answers, used lengths and buffers are the plain book's (proofs/ListLaws)
pub record AsTheBook : Type 0 where
  pub rows : (ty words pool lent : List ℕ) (b : Book) (cs : List Call) (l : List Seen) → Started ty words pool lent b → AllHeld cs
      → Ran ty b.buffer b.used cs l → l ≡ run_book b cs

-- Demand 3 as a caller from C has it: a list of tuple_replace calls, of each of which no more is known than its contract.
use Rattle.std.specs.Prelude.{ℕ, ◌≡◌, List, [], ◌∷◌, map, eqb}
use Rattle.format.specs.Answer.{if}
use Rattle.format.specs.Calls.{replace_call}
use Rattle.format.specs.Book.{Call, Seen, Book, run_book}
use Rattle.format.specs.Demand3.{AllHeld, Started}
use Rattle.tuple.specs.Numbers.{length_of, Writes}
use Rattle.tuple.specs.declared.answers.Length.{Length}

-- the used length that a caller goes on with: the answer's where refusal is 0, else the one it had
abbrev pub goes_on : ℕ → Length → ℕ
goes_on used r = if (eqb r.refusal 0) r.length used

-- what a caller has after a call
pub record Row : Type 0 where
  pub answer : Length
  pub used : ℕ
  pub buffer : List ℕ

abbrev pub row_of : Seen → Row
row_of s = record { answer = length_of s.answer; used = s.used; buffer = s.buffer }

-- a list of calls, each on the buffer and the used length that the one before left
pub data Ran (ty : List ℕ) : (buffer : List ℕ) (used : ℕ) → List Call → List Row → Type 0 where
  ended : (buffer : List ℕ) (used : ℕ) → Ran ty buffer used [] []
  next : (buffer : List ℕ) (used : ℕ) (c : Call) (cs : List Call) (r : Length) (buffer' : List ℕ) (l : List Row)
      → Writes (replace_call ty buffer used c.field c.words c.pool) r buffer' → Ran ty buffer' (goes_on used r) cs l
      → Ran ty buffer used (c ∷ cs) (record { answer = r; used = goes_on used r; buffer = buffer' } ∷ l)

-- its answers, used lengths and buffers are the plain book's, number by number and byte by byte (proofs/ListLaws)
pub record AsTheBook : Type 0 where
  pub rows : (ty words pool lent : List ℕ) (b : Book) (cs : List Call) (l : List Row) → Started ty words pool lent b → AllHeld cs
      → Ran ty b.buffer b.used cs l → l ≡ map row_of (run_book b cs)

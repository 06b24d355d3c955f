-- What the bounds call and replacement answer and leave, by document 01's numbers, and what their steps promise.
use Rattle.std.specs.Prelude.{◌≡◌, List, ◌++◌, ℕ, ◌+◌, ◌-◌, ◌≤◌, leb, length, take, drop, Result}
use Rattle.format.specs.Refusals.{answered_by, Leaves}
use Rattle.format.specs.Answer.{if, Answer, ok, refused, and_then, KeyTooLong}
use Rattle.format.specs.Tree.{Ty, Val}
use Rattle.format.specs.TypeSheet.{max_groups, nesting}
use Rattle.format.specs.ValueSheet.{value_of, Proper}
use Rattle.format.specs.Encode.{val_bytes, encode, fits, fine, max_key_bytes}
use Rattle.format.specs.Calls.{over, written, with_value}
use Rattle.format.specs.Calls as calls
use Rattle.format.specs.declared.refusal.Refusal.{Refusal}
use Rattle.format.proofs.TypePlaces.{TypeIn}
use Rattle.format.proofs.ValuePlaces.{ValueIn}
use Rattle.key.specs.declared.bounding.Ends.{Ends}

abbrev pub ends_of : Ends → calls.Ends
ends_of e = record { lower = e.lower; upper = e.upper }

abbrev pub bounded_of : Result Ends Refusal → Answer calls.Ends
bounded_of r = answered_by ends_of r

-- the answer and both buffers are those of a definition's call
pub record BoundsLeft (c : calls.Bounded) (r : Result Ends Refusal) (lower' upper' : List ℕ) : Type 0 where
  pub answer : bounded_of r ≡ c.answer
  pub low : lower' ≡ c.lower
  pub high : upper' ≡ c.upper

-- a part of the used bytes, with room for n bytes in its place
pub record Puts (buffer : List ℕ) (used start end n : ℕ) : Type 0 where
  pub part : start ≤ end
  pub within : end ≤ used
  pub inside : used ≤ length buffer
  pub room : start + n + (used - end) ≤ length buffer

-- the used bytes with the bytes x in the place of those from start to end
abbrev pub with : (key : List ℕ) (start end : ℕ) (x : List ℕ) → List ℕ
with key start end x = take start key ++ (x ++ drop end key)

-- whatever value of n bytes the sheet holds
pub record Splices (buffer : List ℕ) (used start end n : ℕ) (words pool buffer' : List ℕ) : Type 0 where
  pub splices : (t : Ty) (v : Val) → ValueIn words pool 0 0 v (length words) (length pool) → Proper v → fits t 0 v ≡ fine → n ≡ length (val_bytes 0 v)
      → buffer' ≡ over (with (take used buffer) start end (val_bytes 0 v)) buffer

-- the key with a value of type t in a part's place: the value's encoding, then the limit
abbrev pub put : Ty → (key : List ℕ) (start end : ℕ) → Val → Answer (List ℕ)
put t key start end u =
    and_then (encode t 0 u) (λ x. if (leb (length (with key start end x)) max_key_bytes) (ok (with key start end x)) (refused KeyTooLong (length (with key start end x))))

-- what replacement answers and leaves, of any type that stands at the place
pub record ValueStands (ty : List ℕ) (at : ℕ) (buffer : List ℕ) (used start end : ℕ) (words pool : List ℕ) (r : Result ℕ Refusal) (buffer' : List ℕ) : Type 0 where
  pub stands : (t : Ty) (e : ℕ) → TypeIn ty at t e → nesting t ≤ max_groups
      → Leaves (written buffer (with_value (value_of words pool) (λ u. put t (take used buffer) start end u))) r buffer'

-- What the code's answers say: of a refusal document 01's number and its detail, and what a call with such an answer leaves in a lent buffer.
use Rattle.std.specs.Prelude.{◌≡◌, List, ℕ, Result, Ok, Err}
use Rattle.format.specs.Answer.{Answer, ok, refused}
use Rattle.format.specs.Answer as says
use Rattle.format.specs.Calls.{Called}
use Rattle.format.specs.declared.refusal.Refusal.{Refusal}
use Rattle.format.specs.declared.refusal.Refusal.TheVariants as made

abbrev pub number_of : Refusal → ℕ
number_of made.UnexpectedEof = says.UnexpectedEof
number_of (made.UnexpectedMark m) = says.UnexpectedMark
number_of made.UnexpectedTerminator = says.UnexpectedTerminator
number_of made.BadString = says.BadString
number_of made.BadInteger = says.BadInteger
number_of made.BadRecord = says.BadRecord
number_of (made.KeyTooLong n) = says.KeyTooLong
number_of (made.FactRefPredicate p) = says.FactRefPredicate
number_of made.ReservedFactId = says.ReservedFactId
number_of (made.UnknownDiscriminant t) = says.UnknownDiscriminant
number_of (made.TypeMismatch k) = says.TypeMismatch
number_of (made.BadUnion t) = says.BadUnion
number_of made.Overflow = says.Overflow
number_of made.Underflow = says.Underflow
number_of made.BadType = says.BadType
number_of made.BadValue = says.BadValue
number_of (made.NoRoom n) = says.NoRoom
number_of made.NoField = says.NoField
number_of made.NoBound = says.NoBound
number_of made.BadLine = says.BadLine

-- 0 where none is listed
abbrev pub detail_of : Refusal → ℕ
detail_of made.UnexpectedEof = 0
detail_of (made.UnexpectedMark m) = m
detail_of made.UnexpectedTerminator = 0
detail_of made.BadString = 0
detail_of made.BadInteger = 0
detail_of made.BadRecord = 0
detail_of (made.KeyTooLong n) = n
detail_of (made.FactRefPredicate p) = p
detail_of made.ReservedFactId = 0
detail_of (made.UnknownDiscriminant t) = t
detail_of (made.TypeMismatch k) = k
detail_of (made.BadUnion t) = t
detail_of made.Overflow = 0
detail_of made.Underflow = 0
detail_of made.BadType = 0
detail_of made.BadValue = 0
detail_of (made.NoRoom n) = n
detail_of made.NoField = 0
detail_of made.NoBound = 0
detail_of made.BadLine = 0

-- what a result says, its value read by f
abbrev pub answered_by : {A B : Type 0} → (A → B) → Result A Refusal → Answer B
answered_by f (Ok a) = ok (f a)
answered_by f (Err e) = refused (number_of e) (detail_of e)

abbrev pub answered : {A : Type 0} → Result A Refusal → Answer A
answered (Ok a) = ok a
answered (Err e) = refused (number_of e) (detail_of e)

-- the answer and the lent buffer afterwards are those of a definition's call
pub record Leaves {A : Type 0} (call : Called A) (r : Result A Refusal) (buffer : List ℕ) : Type 0 where
  pub answer : answered r ≡ call.answer
  pub left : buffer ≡ call.buffer

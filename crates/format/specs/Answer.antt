-- How a call says no: the refusals of document 01 by name, and an answer or a refusal with its detail.
use Rattle.std.specs.Prelude.{ℕ, ◌-◌, ◌^◌, Bool, true, false, ltb}

-- one of two, by a test
abbrev pub if : {A : Type 0} → Bool → A → A → A
if true a b = a
if false a b = b

-- an answer; or a refusal: its number and its detail, which is 0 where none is listed
pub data Answer (A : Type 0) : Type 0 where
  ok : A → Answer A
  refused : ℕ → ℕ → Answer A

-- the answer handed on, or the refusal kept
abbrev pub and_then : {A B : Type 0} → Answer A → (A → Answer B) → Answer B
and_then (ok a) f = f a
and_then (refused n d) f = refused n d

-- no bytes where one is due
abbrev pub UnexpectedEof : ℕ
UnexpectedEof = 1

-- detail: the byte met
abbrev pub UnexpectedMark : ℕ
UnexpectedMark = 2

abbrev pub UnexpectedTerminator : ℕ
UnexpectedTerminator = 3

abbrev pub BadString : ℕ
BadString = 4

abbrev pub BadInteger : ℕ
BadInteger = 5

abbrev pub BadRecord : ℕ
BadRecord = 6

-- detail: the key's length
abbrev pub KeyTooLong : ℕ
KeyTooLong = 7

-- detail: the predicate found
abbrev pub FactRefPredicate : ℕ
FactRefPredicate = 8

abbrev pub ReservedFactId : ℕ
ReservedFactId = 9

-- detail: the tag
abbrev pub UnknownDiscriminant : ℕ
UnknownDiscriminant = 10

-- detail: the declared type's kind
abbrev pub TypeMismatch : ℕ
TypeMismatch = 11

-- detail: the tag
abbrev pub BadUnion : ℕ
BadUnion = 12

abbrev pub Overflow : ℕ
Overflow = 13

abbrev pub Underflow : ℕ
Underflow = 14

-- a type sheet that is not admitted
abbrev pub BadType : ℕ
BadType = 15

-- a value sheet that is not admitted
abbrev pub BadValue : ℕ
BadValue = 16

-- detail: the units needed
abbrev pub NoRoom : ℕ
NoRoom = 17

abbrev pub NoField : ℕ
NoField = 18

abbrev pub NoBound : ℕ
NoBound = 19

abbrev pub BadLine : ℕ
BadLine = 20

-- units as a detail shows them: past 2^64 - 1 it is that number
abbrev pub shown : ℕ → ℕ
shown n = if (ltb n (2 ^ 64)) n (2 ^ 64 - 1)

-- NoRoom with the units needed
abbrev pub no_room : {A : Type 0} → ℕ → Answer A
no_room n = refused NoRoom (shown n)

-- The laws about the definitions, and the notions that they are stated with. None of it is part of what the definitions say.
--
-- Specimens    the starred specimens, as one theorem
-- KeylistExample   keylist's example
--
-- Notions:
-- Bytes        lists of numbers that are bytes
-- Begun        how many values a value holds
-- Sound        values as a sheet can hold them
-- KindLaws     a value is what its kind, or its rank, and its parts say
-- Tests        what a test's answer says, and conditionals that did not refuse
--
-- Order:
-- CompareLaws  numbers and byte strings: which of three it is, both ways round, equal exactly if the same
-- ScalarLaws   integers, references and runs compare as bytes as they do as numbers and byte strings
-- OrderLaws    the order law: values compare as their bytes, whatever follows; and so do groups
-- MarkLaws     the first byte of a value tells its kind
-- KeyLaws      bare fields compare as their bytes
-- EqualLaws    values compare equal exactly if they are the same
-- EncodeLaws   encodings and keys of one type compare as their values, and are equal exactly if these are
-- BoundLaws    a key lies between the bounds of k fields exactly if its first k fields are these
-- StrincLaws   strinc is above all that begins with the prefix, the least such, and refuses exactly where nothing is
--
-- There and back:
-- ByteLaws     a value's bytes are bytes
-- ReadLaws     what is written of a scalar is read again
-- RoundLaws    what is encoded is decoded again, with its count of values
-- BackLaws     what is read of a scalar is what is written of it
-- CanonLaws    what is decoded fits its type, and is encoded to the bytes that it was decoded from
-- KeyRound     both for whole values and keys
-- CountLaws    a decoding, refused or not, begins at most one value more than there are bytes
-- TagLaws      a value that fits a type has the type's discriminants, so below 2^32
--
-- What code follows:
-- SkipLaws     skip turn by turn: each turn takes a byte, and the turns allowed are enough
-- SkipRound    a value's bytes are skipped exactly, and so is an encoded field
-- ReplaceLaws  a field spliced into a key gives the key of the changed fields
-- SplitLaws    a bare record decoded in parts: the first k fields, and then the others
-- ChangeLaws   what encode_key gives for a record with a new value in one field
--
-- Sheets:
-- TypeLaws     the parser of type sheets reads exactly what writes a tree down: a type sheet has one tree
-- ValueLaws    the same for value sheets
-- SheetPlaces, TypePlaces, ValuePlaces   the trees of a sheet by their places
-- Choose       the first alternative with a tag
-- Small        the numbers of a tree are as small as the words and bytes it is written with
-- SoundLaws    so the value of an admitted sheet is sound
-- SheetExamples   sheets worked by hand
-- AfreshLaws   a record that encode_key accepts has an admitted sheet
--
-- What the encoder's walks follow:
-- EncodePlaces   groups from their second word on, and the fields behind the first
-- FitLaws      what refuses a value, by its kind
-- FitNumbers   and its numbers, from 6 to 12
-- PlainLaws    a value that is no group, by its words
-- TypeKinds    the type at a place by its kind, with its parts
-- ValueKinds   the value at a place by its kind, with its parts
--
-- Demand3      demand 3 of the request, in full
-- BookExample  a list of replacements, computed by the call and by the book
--
-- What was requested later:
-- ReferenceSplit   a reference is a predicate of 24 bits and a sequence of 40
-- SearchLaws   how many alternatives the search for a discriminant looks at
-- Ranges       strinc writes the least end above a prefix, and a span on the next field and a beginning of it cut exactly
-- RangeExamples   such ends worked by hand, and wrong ones that are not the least
-- RangeLaws    a key lies in a span on the field behind the first k exactly if these are equal and the next is in it
-- SpanExamples   spans worked by hand, accepted and refused
-- StartLaws    between a byte string and its strinc lies exactly what begins with it, and a key begins as a run does exactly if its next field does
-- StartExamples   beginnings worked by hand, accepted and refused
-- Blank        optional types: a blank is 00 or 00 FF and sorts first, anything else is the type behind word 7; no 7 straight behind another
-- ZeroLaws     the zeros escaped in a run, in a value and by a call: those of the pool
pub mod Specimens
pub mod KeylistExample
pub mod Bytes
pub mod Begun
pub mod Sound
pub mod KindLaws
pub mod Tests
pub mod CompareLaws
pub mod ScalarLaws
pub mod OrderLaws
pub mod MarkLaws
pub mod KeyLaws
pub mod EqualLaws
pub mod EncodeLaws
pub mod BoundLaws
pub mod StrincLaws
pub mod ByteLaws
pub mod ReadLaws
pub mod RoundLaws
pub mod BackLaws
pub mod CanonLaws
pub mod KeyRound
pub mod CountLaws
pub mod TagLaws
pub mod SkipLaws
pub mod SkipRound
pub mod ReplaceLaws
pub mod SplitLaws
pub mod ChangeLaws
pub mod TypeLaws
pub mod ValueLaws
pub mod SheetPlaces
pub mod TypePlaces
pub mod ValuePlaces
pub mod Choose
pub mod Small
pub mod SoundLaws
pub mod SheetExamples
pub mod AfreshLaws
pub mod EncodePlaces
pub mod FitLaws
pub mod FitNumbers
pub mod PlainLaws
pub mod TypeKinds
pub mod ValueKinds
pub mod Demand3
pub mod BookExample
pub mod ReferenceSplit
pub mod SearchLaws
pub mod Ranges
pub mod RangeExamples
pub mod RangeLaws
pub mod SpanExamples
pub mod StartLaws
pub mod StartExamples
pub mod Blank
pub mod ZeroLaws

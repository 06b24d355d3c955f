-- The plain book of demand 3, and a list of replacements run by the call and by the book.
use Rattle.std.specs.Prelude.{ℕ, List, [], ◌∷◌, ltb, leb, length}
use Rattle.format.specs.Answer.{if, Answer, ok, refused, and_then, no_room, NoField}
use Rattle.format.specs.Tree.{Ty, Tys, Val, Vals}
use Rattle.format.specs.Sheet.{field_count}
use Rattle.format.specs.ValueSheet.{value_of}
use Rattle.format.specs.Encode.{encode_key}
use Rattle.format.specs.Replace.{set_field}
use Rattle.format.specs.Calls.{Called, with_value, over, replace_call}

-- one replacement of a list: any field number and any value sheet
pub record Call : Type 0 where
  pub field : ℕ
  pub words : List ℕ
  pub pool : List ℕ

-- what is seen after a call: its answer, the used length and the whole buffer
pub record Seen : Type 0 where
  pub answer : Answer ℕ
  pub used : ℕ
  pub buffer : List ℕ

-- ---- the calls, each with the buffer and the used length that the call before left

-- the used length after an answer: the answer, or what it was
abbrev pub used_after : ℕ → Answer ℕ → ℕ
used_after used (ok n) = n
used_after used (refused n d) = used

abbrev pub seen_of : ℕ → Called ℕ → Seen
seen_of used c = record { answer = c.answer; used = used_after used c.answer; buffer = c.buffer }

abbrev pub call_on : List ℕ → List ℕ → ℕ → Call → Seen
call_on ty buffer used c = seen_of used (replace_call ty buffer used c.field c.words c.pool)

unfoldable pub run_calls : (ty buffer : List ℕ) (used : ℕ) → List Call → List Seen
run_calls ty buffer used [] = []
run_calls ty buffer used (c ∷ cs) =
    call_on ty buffer used c ∷ run_calls ty (call_on ty buffer used c).buffer (call_on ty buffer used c).used cs

-- what the calls of a list left: the used length and the whole buffer
pub record Left : Type 0 where
  pub used : ℕ
  pub buffer : List ℕ

unfoldable pub left_by : (ty buffer : List ℕ) (used : ℕ) → List Call → Left
left_by ty buffer used [] = record { used = used; buffer = buffer }
left_by ty buffer used (c ∷ cs) = left_by ty (call_on ty buffer used c).buffer (call_on ty buffer used c).used cs

-- ---- the book

-- it holds the type's fields, the value's fields, the lent buffer and the used length
pub record Book : Type 0 where
  pub types : Tys
  pub fields : Vals
  pub buffer : List ℕ
  pub used : ℕ

-- the fields vs, with their key put over the buffer's beginning; or encode_key's refusal; or NoRoom with the key's length
abbrev pub kept_with : Book → Vals → Answer Book
kept_with b vs = and_then (encode_key (Ty.Record b.types) (Val.Record vs)) (λ x.
    if (leb (length x) (length b.buffer)) (ok (record { types = b.types; fields = vs; buffer = over x b.buffer; used = length x })) (no_room (length x)))

-- NoField; BadValue; a refusal of encode_key for the record with the new value in that field; NoRoom with that record's key's length
unfoldable pub entered : Book → Call → Answer Book
entered b c =
    if (ltb c.field (field_count b.types))
    (with_value (value_of c.words c.pool) (λ u. kept_with b (set_field c.field u b.fields)))
    (refused NoField 0)

-- a refused call changes nothing in the book
abbrev pub turned_to : Book → Answer Book → Book
turned_to b (ok next) = next
turned_to b (refused n d) = b

abbrev pub reply_of : Answer Book → Answer ℕ
reply_of (ok next) = ok next.used
reply_of (refused n d) = refused n d

abbrev pub seen_in : Answer Book → Book → Seen
seen_in a b = record { answer = reply_of a; used = b.used; buffer = b.buffer }

unfoldable pub run_book : Book → List Call → List Seen
run_book b [] = []
run_book b (c ∷ cs) = seen_in (entered b c) (turned_to b (entered b c)) ∷ run_book (turned_to b (entered b c)) cs

-- the book after a list of calls
unfoldable pub book_after : Book → List Call → Book
book_after b [] = b
book_after b (c ∷ cs) = book_after (turned_to b (entered b c)) cs

abbrev pub left_in : Book → Left
left_in b = record { used = b.used; buffer = b.buffer }

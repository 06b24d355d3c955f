-- Demand 3, as claims about the very definitions that the contracts of encode_key, replacement and the bounds call cite (proofs/Demand3 has the proofs).
use Rattle.std.specs.Prelude.{ℕ, ◌≤◌, ◌^◌, List, [], ◌∷◌, ◌≡◌, ◌↔◌, length, take}
use Rattle.std.proofs.Math.Option.{some}
use Rattle.format.specs.Answer.{ok, refused}
use Rattle.format.specs.Tree.{Ty, Tys, Val, fields_in}
use Rattle.format.specs.Sheet.{field_count, val_words, val_pool}
use Rattle.format.specs.TypeSheet.{type_of}
use Rattle.format.specs.ValueSheet.{value_of}
use Rattle.format.specs.Order.{cmp_bytes, cmp_val}
use Rattle.format.specs.Bounds.{Below, above_field, firsts, first_bytes, Between}
use Rattle.format.specs.Calls.{over, encode_key_call, compare_call, bounds_call}
use Rattle.format.specs.Book.{Call, Book, call_on, run_calls, left_by, left_in, entered, run_book, book_after}

-- ---- what the claims are about

-- numbers as the code's types hold them: u64 words and u8 bytes
abbrev pub Held : (words pool : List ℕ) → Type 0
Held words pool = Below (2 ^ 64) words × Below 256 pool

abbrev pub AllHeld : List Call → Type 0
AllHeld [] = Unit
AllHeld (c ∷ cs) = Held c.words c.pool × AllHeld cs

-- the book of an encode_key of a record type that was accepted, into a buffer that was lent: that type, the value's fields, and the buffer and the used length that the call left
pub record Started (ty words pool lent : List ℕ) (b : Book) : Type 0 where
  pub typed : type_of ty ≡ some (Ty.Record b.types)
  pub valued : value_of words pool ≡ some (Val.Record b.fields)
  pub answered : (encode_key_call ty words pool lent).answer ≡ ok b.used
  pub left : (encode_key_call ty words pool lent).buffer ≡ b.buffer
  pub held : Held words pool

-- a key's value is the book's; the key is the used bytes
abbrev pub record_of : Book → Val
record_of b = Val.Record b.fields

abbrev pub key_of : Book → List ℕ
key_of b = take b.used b.buffer

-- ---- the claims

-- One list of replacements, refused calls included. Each answer (number, detail, new used length), and every byte of the buffer after each call, are those of
-- the plain book, run over the same list. The buffer's length stays. The used bytes are the key that encode_key, given room, writes afresh from the book's value.
pub record AsBook (ty : List ℕ) (b : Book) (cs : List Call) : Type 0 where
  pub answers : run_calls ty b.buffer b.used cs ≡ run_book b cs
  pub left : left_by ty b.buffer b.used cs ≡ left_in (book_after b cs)
  pub long : length (book_after b cs).buffer ≡ length b.buffer
  pub fresh : (out : List ℕ) → (book_after b cs).used ≤ length out
      → encode_key_call ty (val_words (record_of (book_after b cs))) (val_pool (record_of (book_after b cs))) out
      ≡ record { answer = ok (book_after b cs).used; buffer = over (key_of (book_after b cs)) out }

-- After any list, the next call is refused exactly when a check of the book names that refusal, and then nothing changes.
pub record RefusedAsBook (ty : List ℕ) (b : Book) (c : Call) : Type 0 where
  pub refusal : (n d : ℕ) → ((call_on ty b.buffer b.used c).answer ≡ refused n d) ↔ (entered b c ≡ refused n d)
  pub unchanged : (n d : ℕ) → entered b c ≡ refused n d → call_on ty b.buffer b.used c ≡ record { answer = refused n d; used = b.used; buffer = b.buffer }

-- Any two such keys of one type, whatever their lists, compare as bytes exactly as their values compare.
abbrev pub Ordered : (b d : Book) → Type 0
Ordered b d = cmp_bytes (key_of b) (key_of d) ≡ cmp_val (record_of b) (record_of d)

-- For such a key and any k up to its field count, the bounds call, given room, writes the bytes of its first k fields, and those with FF added; and a key of
-- the type, one that encode_key writes, lies at or above the first and below the second exactly when its own first k fields have the same values.
pub record Bounds (ty : List ℕ) (b : Book) (k : ℕ) : Type 0 where
  pub writes : (lower upper : List ℕ) → length (first_bytes k b.fields) ≤ length lower → length (above_field (first_bytes k b.fields)) ≤ length upper
      → bounds_call ty (key_of b) k lower upper
      ≡ record {
        answer = ok (record { lower = length (first_bytes k b.fields); upper = length (above_field (first_bytes k b.fields)) });
        lower = over (first_bytes k b.fields) lower;
        upper = over (above_field (first_bytes k b.fields)) upper;
      }
  pub cuts : (words pool out : List ℕ) (v : Val) (n : ℕ) → Held words pool → value_of words pool ≡ some v → (encode_key_call ty words pool out).answer ≡ ok n
      → Between (first_bytes k b.fields) (above_field (first_bytes k b.fields)) (take n (encode_key_call ty words pool out).buffer) ↔ (firsts k (fields_in v) ≡ firsts k b.fields)

-- And so the call that compares two values, given the sheets of the two books' values, answers how the keys compare.
abbrev pub Compared : (b d : Book) → Type 0
Compared b d = compare_call (val_words (record_of b)) (val_pool (record_of b)) (val_words (record_of d)) (val_pool (record_of d)) ≡ ok (cmp_bytes (key_of b) (key_of d))

-- Demand 3 for one accepted encode_key and one list: the list; any call more; any other such key of the type, whatever its list; any number of fields.
pub record Demand3 (ty : List ℕ) (b : Book) (cs : List Call) : Type 0 where
  pub list : AsBook ty b cs
  pub refusals : (c : Call) → RefusedAsBook ty (book_after b cs) c
  pub order : (words pool lent : List ℕ) (d : Book) (ds : List Call) → Started ty words pool lent d → AllHeld ds → Ordered (book_after b cs) (book_after d ds)
  pub compares : (words pool lent : List ℕ) (d : Book) (ds : List Call) → Started ty words pool lent d → AllHeld ds → Compared (book_after b cs) (book_after d ds)
  pub bounds : (k : ℕ) → k ≤ field_count b.types → Bounds ty (book_after b cs) k

-- All of it: every accepted encode_key of a record type starts a book, and from there on every list keeps to it. Nothing is asked but that words and bytes are those of the code's types.
pub record Holds : Type 0 where
  pub starts : (ty words pool lent : List ℕ) (ts : Tys) (n : ℕ) → type_of ty ≡ some (Ty.Record ts) → Held words pool → (encode_key_call ty words pool lent).answer ≡ ok n
      → (b : Book) × Started ty words pool lent b
  pub keeps : (ty words pool lent : List ℕ) (b : Book) (cs : List Call) → Started ty words pool lent b → AllHeld cs → Demand3 ty b cs

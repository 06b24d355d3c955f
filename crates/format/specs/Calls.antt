-- What each call answers, and what its lent buffers hold afterwards, for all arguments: sheets first (BadType, BadValue), then the refusals of the
-- definitions, NoRoom last with the units needed. A refused call leaves every buffer as it was.
use Prim.Native.Nat.{ℕ, Ordering}
use Rattle.std.specs.Prelude.{List, ◌++◌, Bool, ltb, leb, length, take, drop}
use Rattle.std.proofs.Math.Option.{Option, some, none}
use Rattle.format.specs.Answer.{if, Answer, ok, refused, and_then, no_room, BadType, BadValue, NoField}
use Rattle.format.specs.Tree.{Ty, Tys, Val, Vals, fields_in}
use Rattle.format.specs.Sheet.{field_count, val_words, val_pool}
use Rattle.format.specs.TypeSheet.{type_of}
use Rattle.format.specs.ValueSheet.{value_of}
use Rattle.format.specs.Encode.{encode_typed, encode_key}
use Rattle.format.specs.Decode.{Decoded, decode_typed, decode_key}
use Rattle.format.specs.Skip.{skip_from}
use Rattle.format.specs.Order.{cmp_val}
use Rattle.format.specs.Bounds.{strinc, above_field, first_bytes}
use Rattle.format.specs.Replace.{set_field, spliced}

-- ---- sheets and buffers

-- with the type of an admitted sheet, or BadType
abbrev pub with_type : {A : Type 0} → Option Ty → (Ty → Answer A) → Answer A
with_type (some t) f = f t
with_type none f = refused BadType 0

-- with the value of an admitted sheet, or BadValue
abbrev pub with_value : {A : Type 0} → Option Val → (Val → Answer A) → Answer A
with_value (some v) f = f v
with_value none f = refused BadValue 0

-- bytes over a buffer's beginning; the rest keeps what it held
abbrev pub over : List ℕ → List ℕ → List ℕ
over x buffer = x ++ drop (length x) buffer

-- what a call with one lent buffer leaves
pub record Called (A : Type 0) : Type 0 where
  pub answer : Answer A
  pub buffer : List ℕ

-- what is to be written, put over the buffer's beginning, with its length as the answer; or NoRoom with that length
abbrev pub written : List ℕ → Answer (List ℕ) → Called ℕ
written out (ok x) =
    if (leb (length x) (length out)) (record { answer = ok (length x); buffer = over x out }) (record { answer = no_room (length x); buffer = out })
written out (refused n d) = record { answer = refused n d; buffer = out }

-- ---- encoding

unfoldable pub encode_typed_call : (ty words pool out : List ℕ) → Called ℕ
encode_typed_call ty words pool out = written out (with_type (type_of ty) (λ t. with_value (value_of words pool) (λ v. encode_typed t v)))

unfoldable pub encode_key_call : (ty words pool out : List ℕ) → Called ℕ
encode_key_call ty words pool out = written out (with_type (type_of ty) (λ t. with_value (value_of words pool) (λ v. encode_key t v)))

-- ---- decoding

-- how many words and pool bytes a sheet has
pub record Sizes : Type 0 where
  pub words : ℕ
  pub pool : ℕ

-- what a decoding call leaves: its answer, the values begun, the words' buffer and the pool's
pub record Filled : Type 0 where
  pub answer : Answer Sizes
  pub begun : ℕ
  pub words : List ℕ
  pub pool : List ℕ

-- the sheet of a decoded value over the beginnings of both buffers; NoRoom reports words before pool, and the whole count of values begun
abbrev pub filled : List ℕ → List ℕ → Decoded Val → Filled
filled words pool (Decoded.got v rest k) =
    if (ltb (length words) (length (val_words v))) (record { answer = no_room (length (val_words v)); begun = k; words = words; pool = pool })
    (if (ltb (length pool) (length (val_pool v))) (record { answer = no_room (length (val_pool v)); begun = k; words = words; pool = pool })
    (record { answer = ok (record { words = length (val_words v); pool = length (val_pool v) }); begun = k; words = over (val_words v) words; pool = over (val_pool v) pool }))
filled words pool (Decoded.bad n d k) = record { answer = refused n d; begun = k; words = words; pool = pool }

-- under a type that is not admitted no value is begun
abbrev pub decoded_by : Option Ty → (Ty → Decoded Val) → Decoded Val
decoded_by (some t) f = f t
decoded_by none f = Decoded.bad BadType 0 0

unfoldable pub decode_typed_call : (ty bytes words pool : List ℕ) → Filled
decode_typed_call ty bytes words pool = filled words pool (decoded_by (type_of ty) (λ t. decode_typed t bytes))

unfoldable pub decode_key_call : (ty bytes words pool : List ℕ) → Filled
decode_key_call ty bytes words pool = filled words pool (decoded_by (type_of ty) (λ t. decode_key t bytes))

-- decode_key keeping no value, so never NoRoom: accepted or the refusal, and the values begun
pub record Checked : Type 0 where
  pub answer : Answer Unit
  pub begun : ℕ

abbrev pub checked_by : Decoded Val → Checked
checked_by (Decoded.got v rest k) = record { answer = ok tt; begun = k }
checked_by (Decoded.bad n d k) = record { answer = refused n d; begun = k }

unfoldable pub check_key_call : (ty bytes : List ℕ) → Checked
check_key_call ty bytes = checked_by (decoded_by (type_of ty) (λ t. decode_key t bytes))

-- ---- skipping and comparing

unfoldable pub skip_call : (key : List ℕ) (start : ℕ) (escape : Bool) → Answer ℕ
skip_call key start escape = skip_from key start escape

-- any two admitted values, checked in the order given
unfoldable pub compare_call : (words_a pool_a words_b pool_b : List ℕ) → Answer Ordering
compare_call words_a pool_a words_b pool_b = with_value (value_of words_a pool_a) (λ a. with_value (value_of words_b pool_b) (λ b. ok (cmp_val a b)))

-- ---- ends of ranges

unfoldable pub strinc_call : (prefix out : List ℕ) → Called ℕ
strinc_call prefix out = written out (strinc prefix)

unfoldable pub above_field_call : (key out : List ℕ) → Called ℕ
above_field_call key out = written out (ok (above_field key))

-- the two ends' lengths
pub record Ends : Type 0 where
  pub lower : ℕ
  pub upper : ℕ

pub record Bounded : Type 0 where
  pub answer : Answer Ends
  pub lower : List ℕ
  pub upper : List ℕ

-- two ends as bytes
pub record TwoEnds : Type 0 where
  pub low : List ℕ
  pub high : List ℕ

-- both ends, each over its buffer's beginning; NoRoom, lower end first
abbrev pub both_ends : List ℕ → List ℕ → Answer TwoEnds → Bounded
both_ends lower upper (ok x) =
    if (ltb (length lower) (length x.low)) (record { answer = no_room (length x.low); lower = lower; upper = upper })
    (if (ltb (length upper) (length x.high)) (record { answer = no_room (length x.high); lower = lower; upper = upper })
    (record { answer = ok (record { lower = length x.low; upper = length x.high }); lower = over x.low lower; upper = over x.high upper }))
both_ends lower upper (refused n d) = record { answer = refused n d; lower = lower; upper = upper }

-- the bytes of the first k fields, and those with FF added
abbrev pub bounded : List ℕ → List ℕ → Answer (List ℕ) → Bounded
bounded lower upper a = both_ends lower upper (and_then a (λ x. ok (record { low = x; high = above_field x })))

-- the fields of a record type; another type is NoField
abbrev pub with_fields : {A : Type 0} → Ty → (Tys → Answer A) → Answer A
with_fields Ty.Int f = refused NoField 0
with_fields Ty.Str f = refused NoField 0
with_fields Ty.Bytes f = refused NoField 0
with_fields (Ty.Ref p) f = refused NoField 0
with_fields (Ty.Record ts) f = f ts
with_fields (Ty.Union alts) f = refused NoField 0
with_fields (Ty.Optional t) f = refused NoField 0

-- the fields of a key that decodes, or the decoding's refusal
abbrev pub with_key : {A : Type 0} → Decoded Val → (Vals → Answer A) → Answer A
with_key (Decoded.got v rest k) f = f (fields_in v)
with_key (Decoded.bad n d k) f = refused n d

-- BadType; NoField where it is no record or k is over the field count; the key's decoding; NoRoom
unfoldable pub bounds_call : (ty key : List ℕ) (k : ℕ) (lower upper : List ℕ) → Bounded
bounds_call ty key k lower upper =
    bounded lower upper
    (with_type (type_of ty) (λ t. with_fields t (λ ts.
    if (leb k (field_count ts)) (with_key (decode_key (Ty.Record ts) key) (λ vs. ok (first_bytes k vs))) (refused NoField 0))))

-- ---- replacement

-- the key with a new value in field k, where encode_key takes the record so changed; there is no sheet limit on that record
abbrev pub replaced : Tys → ℕ → Val → Vals → List ℕ → Answer (List ℕ)
replaced ts k u vs key = and_then (encode_key (Ty.Record ts) (Val.Record (set_field k u vs))) (λ x. ok (spliced k u vs key))

-- a used length over the buffer is NoRoom with that length
abbrev pub with_used : {A : Type 0} → List ℕ → ℕ → (List ℕ → Answer A) → Answer A
with_used buffer used f = if (leb used (length buffer)) (f (take used buffer)) (no_room used)

-- BadType; NoField; the used length; the key's decoding; BadValue; the refusal of encode_key for the record so changed; NoRoom with the new length
unfoldable pub replace_call : (ty buffer : List ℕ) (used field : ℕ) (words pool : List ℕ) → Called ℕ
replace_call ty buffer used field words pool =
    written buffer
    (with_type (type_of ty) (λ t. with_fields t (λ ts.
    if (ltb field (field_count ts))
    (with_used buffer used (λ key. with_key (decode_key (Ty.Record ts) key) (λ vs. with_value (value_of words pool) (λ u. replaced ts field u vs key))))
    (refused NoField 0))))

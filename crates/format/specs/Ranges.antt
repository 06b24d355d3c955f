-- What is claimed of ends of ranges beside demand 3, about the very definitions that the contracts cite (proofs/Ranges has the proofs).
use Prim.Native.Nat.{Ordering}
use Rattle.std.specs.Prelude.{ℕ, suc, ◌<◌, List, ◌≡◌, ◌≢◌, ◌↔◌, take}
use Rattle.std.proofs.Math.Option.{some}
use Rattle.format.specs.Answer.{ok, refused, NoBound}
use Rattle.format.specs.Tree.{Ty, Tys, Val, Vals, fields_in}
use Rattle.format.specs.Sheet.{val_count}
use Rattle.format.specs.TypeSheet.{type_of}
use Rattle.format.specs.ValueSheet.{value_of}
use Rattle.format.specs.Order.{cmp_val}
use Rattle.format.specs.Bounds.{ByteString, Above, Least, firsts, Between}
use Rattle.format.specs.Replace.{field_at}
use Rattle.format.specs.Calls.{Ends, encode_key_call, strinc_call, bounds_call}
use Rattle.format.specs.Demand3.{Held}
use Rattle.format.specs.Spans.{span_call, InSpan, prefix_call, BeginsWith}

-- strinc is tight (U10), for every prefix and every lent buffer: of all byte strings above every byte string that begins with the prefix, the one that an
-- accepted call leaves is the least; and a call is NoBound exactly where there is none
pub record StrincTight : Type 0 where
  pub least : (prefix out : List ℕ) (n : ℕ) → ByteString prefix → (strinc_call prefix out).answer ≡ ok n → Least prefix (take n (strinc_call prefix out).buffer)
  pub refuses : (prefix out : List ℕ) → ByteString prefix → ((strinc_call prefix out).answer ≡ refused NoBound 0) ↔ ((q : List ℕ) → ByteString q → Above prefix q → ⊥)

-- ---- a span on the next field (U1)

-- a key of the type, one that encode_key writes of the sheet's value v, and its bytes
pub record KeyOf (ty : List ℕ) (v : Val) (key : List ℕ) : Type 0 where
  pub words : List ℕ
  pub pool : List ℕ
  pub out : List ℕ
  pub used : ℕ
  pub held : Held words pool
  pub valued : value_of words pool ≡ some v
  pub answered : (encode_key_call ty words pool out).answer ≡ ok used
  pub left : take used (encode_key_call ty words pool out).buffer ≡ key

-- such a key lies at or above `low` and below `high` exactly when its value has the property P
abbrev pub Cuts : (ty low high : List ℕ) → (Val → Type 0) → Type 0
Cuts ty low high P = (v : Val) (key : List ℕ) → KeyOf ty v key → Between low high key ↔ P v

-- two ends, and the values of the sheets that they were made of
pub record SpanExact (ty words pool low_words low_pool high_words high_pool low high : List ℕ) : Type 0 where
  pub first : Vals
  pub lowest : Val
  pub highest : Val
  pub first_is : value_of words pool ≡ some (Val.Record first)
  pub lowest_is : value_of low_words low_pool ≡ some lowest
  pub highest_is : value_of high_words high_pool ≡ some highest
  -- between them lie exactly the keys whose first k fields are equal and whose next lies in the span, both ends included
  pub cuts : Cuts ty low high (λ v. (firsts (val_count first) (fields_in v) ≡ first) × InSpan lowest highest (field_at (val_count first) (fields_in v)))
  -- a lowest above the highest: no key between
  pub empty : cmp_val lowest highest ≡ Ordering.gt → Cuts ty low high (λ v. ⊥)

-- every accepted call is exact; and from a field's value to the same value the call is the bounds call with k + 1 fields, on any key that has these
pub record SpansExact : Type 0 where
  pub exact : (ty words pool low_words low_pool high_words high_pool lower upper : List ℕ) (e : Ends) → Held words pool → Held low_words low_pool → Held high_words high_pool
      → (span_call ty words pool low_words low_pool high_words high_pool lower upper).answer ≡ ok e
      → SpanExact ty words pool low_words low_pool high_words high_pool
      (take e.lower (span_call ty words pool low_words low_pool high_words high_pool lower upper).lower)
      (take e.upper (span_call ty words pool low_words low_pool high_words high_pool lower upper).upper)
  pub alone : (ty words pool field_words field_pool lower upper : List ℕ) (ts : Tys) (v : Val) (key : List ℕ) (k : ℕ) → type_of ty ≡ some (Ty.Record ts) → KeyOf ty v key
      → k < val_count (fields_in v) → value_of words pool ≡ some (Val.Record (firsts k (fields_in v))) → value_of field_words field_pool ≡ some (field_at k (fields_in v))
      → span_call ty words pool field_words field_pool field_words field_pool lower upper ≡ bounds_call ty key (suc k) lower upper

-- ---- the beginning of a run in the next field (U13)

-- two ends, and the values of the sheet that they were made of
pub record PrefixExact (ty words pool s low high : List ℕ) : Type 0 where
  pub first : Vals
  pub first_is : value_of words pool ≡ some (Val.Record first)
  -- between them lie exactly the keys whose first k fields are equal and whose next begins with the bytes of s, which a blank never does
  pub cuts : Cuts ty low high (λ v. (firsts (val_count first) (fields_in v) ≡ first) × BeginsWith s (field_at (val_count first) (fields_in v)))
  -- and the upper end is the least above all that begins with the lower (U10)
  pub tight : Least low high

-- every accepted call is exact; and none is NoBound: the lower end has the field's mark, which is below FF, so strinc finds a byte to add one to
pub record PrefixesExact : Type 0 where
  pub exact : (ty words pool s lower upper : List ℕ) (e : Ends) → Held words pool → ByteString s → (prefix_call ty words pool s lower upper).answer ≡ ok e
      → PrefixExact ty words pool s (take e.lower (prefix_call ty words pool s lower upper).lower) (take e.upper (prefix_call ty words pool s lower upper).upper)
  pub bounded : (ty words pool s lower upper : List ℕ) (d : ℕ) → (prefix_call ty words pool s lower upper).answer ≢ refused NoBound d

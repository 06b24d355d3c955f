-- Ends of ranges as a caller from C has them: of a call no more is known than its contract (proofs/RangeLaws has the proofs).
use Rattle.std.specs.Prelude.{ℕ, ◌≡◌, ◌≢◌, List, take}
use Rattle.format.specs.Answer.{NoBound}
use Rattle.format.specs.Tree.{Val}
use Rattle.format.specs.Bounds.{ByteString, Least}
use Rattle.format.specs.Calls.{encode_key_call, strinc_call}
use Rattle.format.specs.Demand3.{Held}
use Rattle.format.specs.Zeros.{encode_key_zeros}
use Rattle.format.specs.Spans.{span_call, prefix_call}
use Rattle.format.specs.Ranges.{KeyOf, SpanExact, PrefixExact}
use Rattle.tuple.specs.Numbers.{Writes, Encodes, Bounds}
use Rattle.tuple.specs.declared.answers.Length.{Length}
use Rattle.tuple.specs.declared.answers.Encoded.{Encoded}
use Rattle.tuple.specs.declared.answers.Ends.{Ends}

-- where tuple_strinc's refusal is 0, the first `length` bytes of its buffer are the least end above the prefix
pub record TightCall : Type 0 where
  pub least : (prefix out : List ℕ) (r : Length) (left : List ℕ) → ByteString prefix → Writes (strinc_call prefix out) r left → r.refusal ≡ 0
      → Least prefix (take r.length left)

-- where tuple_span's refusal is 0, between the first `lower` and the first `upper` bytes of its two buffers lie exactly the keys in the span; and what
-- tuple_encode_key leaves under the type with refusal 0 is such a key
pub record ExactCall : Type 0 where
  pub exact : (ty words pool low_words low_pool high_words high_pool lower upper : List ℕ) (r : Ends) (lower' upper' : List ℕ) → Held words pool → Held low_words low_pool → Held high_words high_pool
      → Bounds (span_call ty words pool low_words low_pool high_words high_pool lower upper) r lower' upper' → r.refusal ≡ 0
      → SpanExact ty words pool low_words low_pool high_words high_pool (take r.lower lower') (take r.upper upper')
  pub key_of : (ty words pool out : List ℕ) (r : Encoded) (left : List ℕ) → Held words pool → Encodes encode_key_call encode_key_zeros ty words pool out r left → r.refusal ≡ 0
      → (v : Val) × KeyOf ty v (take r.length left)

-- where tuple_starting_with's refusal is 0, between the first `lower` and the first `upper` bytes of its two buffers lie exactly the keys (of ExactCall) whose next
-- field begins with s, and the upper end is the least; and its refusal is never 19
pub record PrefixCall : Type 0 where
  pub exact : (ty words pool s lower upper : List ℕ) (r : Ends) (low high : List ℕ) → Held words pool → ByteString s
      → Bounds (prefix_call ty words pool s lower upper) r low high → r.refusal ≡ 0 → PrefixExact ty words pool s (take r.lower low) (take r.upper high)
  pub bounded : (ty words pool s lower upper : List ℕ) (r : Ends) (low high : List ℕ) → Bounds (prefix_call ty words pool s lower upper) r low high → r.refusal ≢ NoBound

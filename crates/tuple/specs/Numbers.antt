-- Each answer of format's definitions as the numbers of its C struct, for every case. An accepted answer has refusal 0 and detail 0; a refused one its number, its
-- detail and, but for the values begun, 0 in every other field.
use Rattle.std.specs.Prelude.{◌≡◌, List, [], Bool, length, ℤ, pos, negsuc}
use Prim.Native.Nat.{ℕ, ◌+◌, ◌<◌, ◌≤◌, Ordering}
use Rattle.format.specs.Answer.{Answer, ok, refused, BadLine}
use Rattle.format.specs.Calls as calls
use Rattle.format.specs.Fields as fields
use Rattle.format.specs.Fields.{Taken, Place, in_key, in_scratch, Payload}
use Rattle.format.specs.Zeros.{zeros}
use Rattle.format.specs.Spans.{span_call, prefix_call}
use Rattle.decode.specs.declared.Decoded.{Decoded}
use Rattle.read.specs.declared.Refused.{Refused}
use Rattle.std.specs.Prelude.{Result}
use Rattle.decode.specs.Answers as decode
use Rattle.tuple.specs.declared.answers.Length.{Length}
use Rattle.tuple.specs.declared.answers.Encoded.{Encoded}
use Rattle.tuple.specs.declared.answers.Sheet.{Sheet}
use Rattle.tuple.specs.declared.answers.Ends.{Ends}
use Rattle.tuple.specs.declared.answers.Order.{Order}
use Rattle.tuple.specs.declared.answers.Number.{Number}
use Rattle.tuple.specs.declared.answers.Part.{Part}

-- ---- numbers

abbrev pub length_of : Answer ℕ → Length
length_of (ok n) = record { refusal = 0; detail = 0; length = n }
length_of (refused n d) = record { refusal = n; detail = d; length = 0 }

abbrev pub encoded_of : Answer ℕ → (zeros : ℕ) → Encoded
encoded_of (ok n) z = record { refusal = 0; detail = 0; length = n; zeros = z }
encoded_of (refused n d) z = record { refusal = n; detail = d; length = 0; zeros = 0 }

abbrev pub sheet_of : Answer calls.Sizes → (begun : ℕ) → Sheet
sheet_of (ok s) k = record { refusal = 0; detail = 0; begun = k; words = s.words; pool = s.pool }
sheet_of (refused n d) k = record { refusal = n; detail = d; begun = k; words = 0; pool = 0 }

-- a call that keeps no value has written no words and no pool bytes
abbrev pub checked_of : Answer Unit → (begun : ℕ) → Sheet
checked_of (ok u) k = record { refusal = 0; detail = 0; begun = k; words = 0; pool = 0 }
checked_of (refused n d) k = record { refusal = n; detail = d; begun = k; words = 0; pool = 0 }

abbrev pub ends_of : Answer calls.Ends → Ends
ends_of (ok e) = record { refusal = 0; detail = 0; lower = e.lower; upper = e.upper }
ends_of (refused n d) = record { refusal = n; detail = d; lower = 0; upper = 0 }

abbrev pub sign_of : Ordering → ℤ
sign_of Ordering.lt = negsuc 0
sign_of Ordering.eq = pos 0
sign_of Ordering.gt = pos 1

abbrev pub order_of : Answer Ordering → Order
order_of (ok o) = record { refusal = 0; detail = 0; order = sign_of o }
order_of (refused n d) = record { refusal = n; detail = d; order = pos 0 }

abbrev pub number_of : Answer (Taken ℕ) → Number
number_of (ok t) = record { refusal = 0; detail = 0; value = t.value; used = t.used }
number_of (refused n d) = record { refusal = n; detail = d; value = 0; used = 0 }

abbrev pub place_of : Place → (used : ℕ) → Part
place_of (in_key at len) k = record { refusal = 0; detail = 0; source = 1; at = at; len = len; used = k }
place_of (in_scratch len) k = record { refusal = 0; detail = 0; source = 2; at = 0; len = len; used = k }

abbrev pub part_of : Answer (Taken Place) → Part
part_of (ok t) = place_of t.value t.used
part_of (refused n d) = record { refusal = n; detail = d; source = 0; at = 0; len = 0; used = 0 }

-- ---- what a call answers and leaves in its lent buffers is what its definition says

pub record Writes (c : calls.Called ℕ) (r : Length) (buffer : List ℕ) : Type 0 where
  pub answer : r ≡ length_of c.answer
  pub left : buffer ≡ c.buffer

-- an encoding call shows the zeros that its definition has; where refusal is 0 they are the zero bytes of the pool
pub record Encodes (call : (ty words pool out : List ℕ) → calls.Called ℕ) (shown : (ty words pool out : List ℕ) → ℕ) (ty words pool out : List ℕ) (r : Encoded) (left : List ℕ) : Type 0 where
  pub answer : r ≡ encoded_of (call ty words pool out).answer (shown ty words pool out)
  pub buffer : left ≡ (call ty words pool out).buffer
  pub of_pool : r.refusal ≡ 0 → r.zeros ≡ zeros pool

-- the values begun are at most the number of bytes plus 1
pub record Fills (c : calls.Filled) (bytes : List ℕ) (r : Sheet) (words pool : List ℕ) : Type 0 where
  pub answer : r ≡ sheet_of c.answer c.begun
  pub left_words : words ≡ c.words
  pub left_pool : pool ≡ c.pool
  pub few : c.begun ≤ length bytes + 1

pub record Checks (c : calls.Checked) (bytes : List ℕ) (r : Sheet) : Type 0 where
  pub answer : r ≡ checked_of c.answer c.begun
  pub few : c.begun ≤ length bytes + 1

pub record Bounds (c : calls.Bounded) (r : Ends) (lower upper : List ℕ) : Type 0 where
  pub answer : r ≡ ends_of c.answer
  pub left_lower : lower ≡ c.lower
  pub left_upper : upper ≡ c.upper

pub record Hands (c : Payload) (r : Part) (scratch : List ℕ) : Type 0 where
  pub answer : r ≡ part_of c.answer
  pub left : scratch ≡ c.scratch

-- ---- accepted answers, for the functions that make them

abbrev pub sizes : (words pool : ℕ) → calls.Sizes
sizes w p = record { words = w; pool = p }

abbrev pub ends : (lower upper : ℕ) → calls.Ends
ends l u = record { lower = l; upper = u }

abbrev pub taken : (value used : ℕ) → Taken ℕ
taken v n = record { value = v; used = n }

abbrev pub key_at : (at len used : ℕ) → Taken Place
key_at at len n = record { value = in_key at len; used = n }

abbrev pub scratch_of : (len used : ℕ) → Taken Place
scratch_of len n = record { value = in_scratch len; used = n }

-- the answers of the decoding calls, whose definitions give the buffers too
abbrev pub decoded_numbers : Result Decoded Refused → Sheet
decoded_numbers x = sheet_of (decode.decoded_of x [] []).answer (decode.decoded_of x [] []).begun

abbrev pub checked_numbers : Result ℕ Refused → Sheet
checked_numbers x = checked_of (decode.checked_of x).answer (decode.checked_of x).begun

-- ---- every refusal is one of the numbered ones; so refusal 0 says that a call was accepted

-- the last of the numbered refusals
abbrev pub last_refusal : ℕ
last_refusal = BadLine

-- a number of the table of refusals, from 1 to the last
pub record Listed (n : ℕ) : Type 0 where
  pub some : 0 < n
  pub known : n ≤ last_refusal

abbrev pub Numbered : {A : Type 0} → Answer A → Type 0
Numbered (ok a) = Unit
Numbered (refused n d) = Listed n

-- in every call, whatever its arguments (proofs/Refusals)
pub record RefusalsNumbered : Type 0 where
  pub encode_typed : (ty words pool out : List ℕ) → Numbered (calls.encode_typed_call ty words pool out).answer
  pub encode_key : (ty words pool out : List ℕ) → Numbered (calls.encode_key_call ty words pool out).answer
  pub decode_typed : (ty bytes words pool : List ℕ) → Numbered (calls.decode_typed_call ty bytes words pool).answer
  pub decode_key : (ty bytes words pool : List ℕ) → Numbered (calls.decode_key_call ty bytes words pool).answer
  pub check_key : (ty bytes : List ℕ) → Numbered (calls.check_key_call ty bytes).answer
  pub skip : (bytes : List ℕ) (start : ℕ) (escape : Bool) → Numbered (calls.skip_call bytes start escape)
  pub compare : (a p b q : List ℕ) → Numbered (calls.compare_call a p b q)
  pub strinc : (prefix out : List ℕ) → Numbered (calls.strinc_call prefix out).answer
  pub above_field : (key out : List ℕ) → Numbered (calls.above_field_call key out).answer
  pub bounds : (ty key : List ℕ) (k : ℕ) (lower upper : List ℕ) → Numbered (calls.bounds_call ty key k lower upper).answer
  pub span : (ty words pool low_words low_pool high_words high_pool lower upper : List ℕ) → Numbered (span_call ty words pool low_words low_pool high_words high_pool lower upper).answer
  pub replace : (ty buffer : List ℕ) (used field : ℕ) (words pool : List ℕ) → Numbered (calls.replace_call ty buffer used field words pool).answer
  pub get_i64 : (bytes : List ℕ) → Numbered (fields.get_i64_call bytes)
  pub get_u64 : (bytes : List ℕ) → Numbered (fields.get_u64_call bytes)
  pub get_str : (bytes scratch : List ℕ) → Numbered (fields.get_str_call bytes scratch).answer
  pub get_bytes : (bytes scratch : List ℕ) → Numbered (fields.get_bytes_call bytes scratch).answer
  pub put_i64 : (out : List ℕ) (at word : ℕ) → Numbered (fields.put_i64_call out at word).answer
  pub put_u64 : (out : List ℕ) (at number : ℕ) → Numbered (fields.put_u64_call out at number).answer
  pub put_str : (out : List ℕ) (at : ℕ) (text : List ℕ) → Numbered (fields.put_str_call out at text).answer
  pub put_bytes : (out : List ℕ) (at : ℕ) (payload : List ℕ) → Numbered (fields.put_bytes_call out at payload).answer
  pub put_fact_id : (out : List ℕ) (at raw : ℕ) → Numbered (fields.put_fact_id_call out at raw).answer

-- and in the prefix call (proofs/BeginningLaws)
pub record StartsNumbered : Type 0 where
  pub starting_with : (ty words pool s lower upper : List ℕ) → Numbered (prefix_call ty words pool s lower upper).answer

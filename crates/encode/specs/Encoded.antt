-- What the two passes over a key promise, and what an encoding call answers and leaves.
use Rattle.std.specs.Prelude.{◌≡◌, List, ℕ, ◌≤◌, length, Result, Ok, Err}
use Rattle.std.proofs.Math.Option.{some}
use Rattle.format.specs.Answer.{Answer, ok, and_then}
use Rattle.format.specs.Refusals.{answered_by}
use Rattle.format.specs.Tree.{Ty, Val}
use Rattle.format.specs.TypeSheet.{type_of}
use Rattle.format.specs.ValueSheet.{value_of}
use Rattle.format.specs.Encode.{key_bytes, fine}
use Rattle.format.specs.Fields.{put}
use Rattle.format.specs.Calls.{Called, with_type, with_value}
use Rattle.format.specs.Zeros.{zeros, shown_zeros}
use Rattle.format.specs.declared.refusal.Refusal.{Refusal}
use Rattle.fit.specs.declared.Fitted.{Fitted}
use Rattle.encode.specs.declared.Encoded.{Encoded}

-- what both sheets' judge says
abbrev pub admitted : (ty words pool : List ℕ) → Answer Unit
admitted ty words pool = with_type (type_of ty) (λ t. with_value (value_of words pool) (λ v. fine))

-- the length that was measured, and that of the bytes
abbrev pub size_in : Result Fitted Refusal → Answer ℕ
size_in r = answered_by (λ x. x.len) r

abbrev pub sized : Answer (List ℕ) → Answer ℕ
sized a = and_then a (λ bs. ok (length bs))

-- the bytes of the key that the sheets say
abbrev pub key_of : (ty words pool : List ℕ) → Answer (List ℕ)
key_of ty words pool = with_type (type_of ty) (λ t. with_value (value_of words pool) (λ v. key_bytes t v))

-- admitted sheets, by the type and the value that they say
pub record Sheets (ty words pool : List ℕ) : Type 0 where
  pub t : Ty
  pub v : Val
  pub is_type : type_of ty ≡ some t
  pub is_value : value_of words pool ≡ some v

-- and their key has bytes
pub record Accepted (ty words pool : List ℕ) : Type 0 where
  pub sheets : Sheets ty words pool
  pub bytes : List ℕ
  pub is : key_of ty words pool ≡ ok bytes

-- bytes stand at the buffer's beginning, and z is what an accepted answer shows of the sheet's value
pub record Wrote (words pool l bs : List ℕ) (z : ℕ) (l' : List ℕ) : Type 0 where
  pub bytes : l' ≡ put l 0 bs
  pub zeros : z ≡ shown_zeros (ok (length bs)) (value_of words pool)

-- the key is written, where there is room for it
pub record PutKey (ty words pool l : List ℕ) (z : ℕ) (l' : List ℕ) : Type 0 where
  pub wrote : (bs : List ℕ) → key_of ty words pool ≡ ok bs → length bs ≤ length l → Wrote words pool l bs z l'

-- ---- the calls

-- document 01's answer in each case, and the zeros it shows
abbrev pub length_in : Result Encoded Refusal → Answer ℕ
length_in r = answered_by (λ x. x.length) r

abbrev pub zeros_in : Result Encoded Refusal → ℕ
zeros_in (Ok x) = x.zeros
zeros_in (Err e) = 0

-- answer, buffer and zeros are those of a definition; an accepted call's zeros are the zero bytes of the pool (format, `zeros_escaped`)
pub record Encodes (call : (ty words pool out : List ℕ) → Called ℕ) (shown : (ty words pool out : List ℕ) → ℕ) (ty words pool out : List ℕ) (r : Result Encoded Refusal) (left : List ℕ) : Type 0 where
  pub answer : length_in r ≡ (call ty words pool out).answer
  pub buffer : left ≡ (call ty words pool out).buffer
  pub shows : zeros_in r ≡ shown ty words pool out
  pub of_pool : (n : ℕ) → (call ty words pool out).answer ≡ ok n → zeros_in r ≡ zeros pool

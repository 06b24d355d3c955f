-- How many zeros were escaped, which encode_typed and encode_key show beside the length: request U7's claim (proofs/ZeroLaws has the proof).
use Rattle.std.specs.Prelude.{ℕ, suc, ◌+◌, List, [], ◌∷◌, ◌≡◌, eqb, length}
use Rattle.std.proofs.Math.Option.{Option, some, none}
use Rattle.format.specs.Answer.{if, Answer, ok, refused}
use Rattle.format.specs.Tree.{Val, Vals}
use Rattle.format.specs.Sheet.{val_pool}
use Rattle.format.specs.ValueSheet.{value_of}
use Rattle.format.specs.Scalar.{escaped}
use Rattle.format.specs.Calls.{encode_typed_call, encode_key_call}

-- the zeros of a payload: its run escapes each
unfoldable pub zeros : List ℕ → ℕ
zeros [] = 0
zeros (b ∷ s) = if (eqb b 0) (suc (zeros s)) (zeros s)

-- strings, byte fields and groups pass the sum upward; no other zero of a value's bytes is an escaped one
unfoldable mutual
  pub val_zeros : Val → ℕ
  val_zeros Val.Null = 0
  val_zeros (Val.Int w) = 0
  val_zeros (Val.Str s) = zeros s
  val_zeros (Val.Bytes s) = zeros s
  val_zeros (Val.Ref r) = 0
  val_zeros (Val.Record vs) = vals_zeros vs
  val_zeros (Val.Union d v) = val_zeros v

  pub vals_zeros : Vals → ℕ
  vals_zeros Vals.NoVal = 0
  vals_zeros (Vals.AddVal v vs) = val_zeros v + vals_zeros vs

-- what an answer shows: the zeros of the value written; a refused one shows 0
abbrev pub shown_zeros : Answer ℕ → Option Val → ℕ
shown_zeros (ok n) (some v) = val_zeros v
shown_zeros (ok n) none = 0
shown_zeros (refused n d) o = 0

unfoldable pub encode_typed_zeros : (ty words pool out : List ℕ) → ℕ
encode_typed_zeros ty words pool out = shown_zeros (encode_typed_call ty words pool out).answer (value_of words pool)

unfoldable pub encode_key_zeros : (ty words pool out : List ℕ) → ℕ
encode_key_zeros ty words pool out = shown_zeros (encode_key_call ty words pool out).answer (value_of words pool)

-- a run has its payload's bytes, one more for each zero escaped, and its end; the sum passed upward is the number of zero bytes in the pool, of every value and of
-- every call that is accepted, and 0 of every other call
pub record ZerosEscaped : Type 0 where
  pub run : (s : List ℕ) → length (escaped s) ≡ length s + zeros s + 1
  pub pool : (v : Val) → val_zeros v ≡ zeros (val_pool v)
  pub typed : (ty words pool out : List ℕ) (n : ℕ) → (encode_typed_call ty words pool out).answer ≡ ok n → encode_typed_zeros ty words pool out ≡ zeros pool
  pub key : (ty words pool out : List ℕ) (n : ℕ) → (encode_key_call ty words pool out).answer ≡ ok n → encode_key_zeros ty words pool out ≡ zeros pool
  pub typed_refused : (ty words pool out : List ℕ) (n d : ℕ) → (encode_typed_call ty words pool out).answer ≡ refused n d → encode_typed_zeros ty words pool out ≡ 0
  pub key_refused : (ty words pool out : List ℕ) (n d : ℕ) → (encode_key_call ty words pool out).answer ≡ refused n d → encode_key_zeros ty words pool out ≡ 0

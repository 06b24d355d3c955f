-- The zeros that are escaped: of a run one byte more for each, of a value those of its pool, of an accepted call those of the pool that it was given.
use mathlib.Core.Path.{◌≡◌, refl, sym, ap, ap₂, ◌∙◌}
use mathlib.Core.Logic.{◌≢◌}
use mathlib.Core.Bool.{Bool}
use mathlib.Core.List.{List, [], ◌∷◌, ◌++◌}
use mathlib.Core.Option.{Option, some, none}
use Prim.Native.Nat.{ℕ, ◌+◌, ◌≤◌}
use native.Mathlib.Omega.{arith}
use lib.ListN.{length}
use Rattle.format.specs.Answer.{Answer, ok}
use Rattle.format.specs.Tree.{Ty, Val, Vals}
use Rattle.format.specs.Sheet.{val_pool, vals_pool}
use Rattle.format.specs.TypeSheet.{type_of}
use Rattle.format.specs.ValueSheet.{value_of}
use Rattle.format.specs.Scalar.{escaped}
use Rattle.format.specs.Encode.{encode_typed, encode_key}
use Rattle.format.specs.Calls.{written, with_type, with_value, encode_typed_call, encode_key_call}
use Rattle.format.specs.Zeros.{zeros, val_zeros, vals_zeros, shown_zeros, encode_typed_zeros, encode_key_zeros, ZerosEscaped}
use Rattle.format.proofs.Tests.{Test, holds, fails, eqb_test, eqb_yes, eqb_no}
use Rattle.format.proofs.EncodeLaws.{no_answer}
use Rattle.format.proofs.ValueLaws as values

-- ---- a payload's

-- a byte in front counts if it is zero
pub zeros_zero : (b : ℕ) (s : List ℕ) → b ≡ 0 → zeros (b ∷ s) ≡ 1 + zeros s
unfolding zeros
zeros_zero b s e = rw (eqb_yes b 0 e) (omega arith)

pub zeros_byte : (b : ℕ) (s : List ℕ) → b ≢ 0 → zeros (b ∷ s) ≡ zeros s
unfolding zeros
zeros_byte b s e = rw (eqb_no b 0 e)

pub zeros_nil : zeros [] ≡ 0
unfolding zeros
zeros_nil = omega arith

pub zeros_append : (t u : List ℕ) → zeros (t ++ u) ≡ zeros t + zeros u
zeros_append [] u = omega (arith, zeros_nil)
zeros_append (b ∷ t) u = go (eqb_test b 0) (zeros_append t u)
  where
    go : {x : Bool} → Test (b ≡ 0) (b ≢ 0) x → zeros (t ++ u) ≡ zeros t + zeros u → zeros (b ∷ (t ++ u)) ≡ zeros (b ∷ t) + zeros u
    go (holds e) ih = omega (arith, zeros_zero b t e, zeros_zero b (t ++ u) e)
    go (fails e) ih = omega (arith, zeros_byte b t e, zeros_byte b (t ++ u) e)

pub zeros_le : (t : List ℕ) → zeros t ≤ length t
zeros_le [] = omega (arith, zeros_nil)
zeros_le (b ∷ t) = go (eqb_test b 0) (zeros_le t)
  where
    go : {x : Bool} → Test (b ≡ 0) (b ≢ 0) x → zeros t ≤ length t → zeros (b ∷ t) ≤ length (b ∷ t)
    go (holds e) ih = omega (arith, zeros_zero b t e)
    go (fails e) ih = omega (arith, zeros_byte b t e)

-- its run has its own bytes, one more for each zero, and the end
pub escaped_long : (s : List ℕ) → length (escaped s) ≡ length s + zeros s + 1
unfolding escaped
escaped_long [] = omega (arith, zeros_nil)
escaped_long (b ∷ s) = go (eqb_test b 0) (escaped_long s)
  where
    go : {x : Bool} → Test (b ≡ 0) (b ≢ 0) x → length (escaped s) ≡ length s + zeros s + 1 → length (escaped (b ∷ s)) ≡ length (b ∷ s) + zeros (b ∷ s) + 1
    go (holds e) ih = rw (eqb_yes b 0 e, zeros_zero b s e) (omega arith)
    go (fails e) ih = rw (eqb_no b 0 e, zeros_byte b s e) (omega arith)

-- ---- a value's

mutual
  unfolding val_zeros val_pool zeros

  pub pool_zeros : (v : Val) → val_zeros v ≡ zeros (val_pool v)
  pool_zeros Val.Null = refl
  pool_zeros (Val.Int w) = refl
  pool_zeros (Val.Str s) = refl
  pool_zeros (Val.Bytes s) = refl
  pool_zeros (Val.Ref r) = refl
  pool_zeros (Val.Record vs) = pools_zeros vs
  pool_zeros (Val.Union d v) = pool_zeros v

  pools_zeros : (vs : Vals) → vals_zeros vs ≡ zeros (vals_pool vs)
  pools_zeros Vals.NoVal = refl
  pools_zeros (Vals.AddVal v vs) = ap₂ ◌+◌ (pool_zeros v) (pools_zeros vs) ∙ sym (zeros_append (val_pool v) (vals_pool vs))

-- ---- a call's

-- an accepted call had a value, and its sheet's pool is that value's
shown_pool : (words pool : List ℕ) (a : Answer ℕ) (n : ℕ) → a ≡ ok n → (value_of words pool ≡ none → ⊥) → shown_zeros a (value_of words pool) ≡ zeros pool
shown_pool words pool a n e h = ap (λ (x : Answer ℕ). shown_zeros x (value_of words pool)) e ∙ go (value_of words pool) refl
  where
    go : (o : Option Val) → value_of words pool ≡ o → shown_zeros (ok n) o ≡ zeros pool
    go none q = absurd (h q)
    go (some v) q = pool_zeros v ∙ ap zeros ((values.admitted words pool v).0 q).pool

no_value : (out : List ℕ) (o : Option Ty) (f : Ty → Val → Answer (List ℕ)) (n : ℕ) → (written out (with_type o (λ t. with_value none (f t)))).answer ≡ ok n → ⊥
no_value out none f n e = no_answer e
no_value out (some t) f n e = no_answer e

pub zeros_escaped : ZerosEscaped
unfolding encode_typed_zeros encode_key_zeros encode_typed_call encode_key_call
zeros_escaped = record {
  run = escaped_long;
  pool = pool_zeros;
  typed = λ ty words pool out n e. shown_pool words pool (encode_typed_call ty words pool out).answer n e (λ z. no_value out (type_of ty) encode_typed n (rw z at e));
  key = λ ty words pool out n e. shown_pool words pool (encode_key_call ty words pool out).answer n e (λ z. no_value out (type_of ty) encode_key n (rw z at e));
  typed_refused = λ ty words pool out n d e. ap (λ (x : Answer ℕ). shown_zeros x (value_of words pool)) e;
  key_refused = λ ty words pool out n d e. ap (λ (x : Answer ℕ). shown_zeros x (value_of words pool)) e;
}

-- The split of a reference: its halves by division with rest, and what refuses a reference in one definition refuses it in both calls.
use mathlib.Core.Path.{◌≡◌}
use mathlib.Core.List.{List, [], ◌∷◌, append-nil}
use Prim.Native.Nat.{ℕ, ◌^◌, ◌<◌}
use native.Mathlib.Omega.{arith}
use Rattle.format.specs.Answer.{refused}
use Rattle.format.specs.TypeSheet.{type_of, type_at, any_type, one_type}
use Rattle.format.specs.ValueSheet.{value_of, value_at, one_value}
use Rattle.format.specs.Scalar.{be, ref_bytes, predicate_of, sequence_of}
use Rattle.format.specs.Encode.{fits_ref, fits, encode}
use Rattle.format.specs.Read.{Read, get_big, get_ref}
use Rattle.format.specs.Decode.{decode, whole}
use Rattle.format.specs.Calls.{encode_typed_call, decode_typed_call}
use Rattle.format.specs.ReferenceSplit.{RefusedUnder, SplitClaim}
use Rattle.format.proofs.Tests.{eqb_yes, eqb_no}
use Rattle.format.proofs.ReadLaws.{get_big_be}

module _ (p r : ℕ) {no detail : ℕ} (e : fits_ref p r ≡ refused no detail) where
  written : (out : List ℕ) → encode_typed_call (4 ∷ p ∷ []) (4 ∷ r ∷ []) [] out ≡ record { answer = refused no detail; buffer = out }
  unfolding encode_typed_call type_of type_at any_type one_type value_of value_at one_value encode fits
  written out = rw e

  read : r < 2 ^ 64 → (words pool : List ℕ)
      → decode_typed_call (4 ∷ p ∷ []) (ref_bytes r) words pool ≡ record { answer = refused no detail; begun = 1; words = words; pool = pool }
  unfolding decode_typed_call type_of type_at any_type one_type decode whole get_ref
  read h words pool =
      let eight : get_big 8 (be 8 r) ≡ Read.got r [] = rw (append-nil (be 8 r)) at (get_big_be 8 r [] h) in
      rw (eight, e)

  under : r < 2 ^ 64 → RefusedUnder p r no detail
  under h = record { judged = e; written = written; read = read h }

pub split : SplitClaim
unfolding fits_ref
split = record {
  halves = λ r h. record { predicate = omega arith; sequence = omega arith; whole = omega arith };
  made = λ p s h k. record { predicate = omega arith; sequence = omega arith };
  never = λ p r l h. record {
    reserved = λ z. under p r (rw (eqb_yes (sequence_of r) 0 z)) h;
    mismatch = λ n. under p r (rw (eqb_no (sequence_of r) 0 n, eqb_no (predicate_of r) p (λ q. omega arith))) h;
  };
}

-- The register's own reference split (U4): what it says of every reference, and of every declared predicate past it (proofs/ReferenceSplit has the proofs).
-- The numbers 24 and 40 stand here as document 02 has them; the definition that all checks cite is `sequence_bits`.
use Rattle.std.specs.Prelude.{ℕ, ◌+◌, ◌*◌, ◌^◌, ◌≤◌, ◌<◌, List, [], ◌∷◌, ◌≡◌}
use Rattle.format.specs.Answer.{refused, ReservedFactId, FactRefPredicate}
use Rattle.format.specs.Scalar.{ref_bytes, predicate_of, sequence_of}
use Rattle.format.specs.Encode.{fits_ref}
use Rattle.format.specs.Calls.{encode_typed_call, decode_typed_call}

-- a predicate in the high 24 bits and a sequence in the low 40
pub record Halves (r : ℕ) : Type 0 where
  pub predicate : predicate_of r < 2 ^ 24
  pub sequence : sequence_of r < 2 ^ 40
  pub whole : r ≡ predicate_of r * 2 ^ 40 + sequence_of r

-- the raw number made from a predicate and a sequence has them as its halves
pub record Made (p s : ℕ) : Type 0 where
  pub predicate : predicate_of (p * 2 ^ 40 + s) ≡ p
  pub sequence : sequence_of (p * 2 ^ 40 + s) ≡ s

-- the reference r is refused under the type `4 p`, written and read, and no buffer changes
pub record RefusedUnder (p r no detail : ℕ) : Type 0 where
  pub judged : fits_ref p r ≡ refused no detail
  pub written : (out : List ℕ) → encode_typed_call (4 ∷ p ∷ []) (4 ∷ r ∷ []) [] out ≡ record { answer = refused no detail; buffer = out }
  pub read : (words pool : List ℕ)
      → decode_typed_call (4 ∷ p ∷ []) (ref_bytes r) words pool ≡ record { answer = refused no detail; begun = 1; words = words; pool = pool }

-- as a mismatch does: sequence 0 is ReservedFactId, any other FactRefPredicate with the predicate found
pub record NeverMatches (p r : ℕ) : Type 0 where
  pub reserved : sequence_of r ≡ 0 → RefusedUnder p r ReservedFactId 0
  pub mismatch : (sequence_of r ≡ 0 → ⊥) → RefusedUnder p r FactRefPredicate (predicate_of r)

-- for every reference, and every declared predicate of 2^24 or more
pub record SplitClaim : Type 0 where
  pub halves : (r : ℕ) → r < 2 ^ 64 → Halves r
  pub made : (p s : ℕ) → p < 2 ^ 24 → s < 2 ^ 40 → Made p s
  pub never : (p r : ℕ) → 2 ^ 24 ≤ p → r < 2 ^ 64 → NeverMatches p r

-- A mark in front of bytes: what the code's test of it says of reading behind it.
use Rattle.std.proofs.Common.{◌≡◌, ℕ, suc, eqb, List, [], ◌∷◌, length, drop, sym, ap, arith, eqb-true}
use Rattle.format.specs.Answer.{ok, refused}
use Rattle.format.specs.Read.{Read, bad, marked}
use Rattle.scalar.specs.Answers.{begins_with}
use Rattle.scalar.proofs.Cases.{by_test}

-- an answer is no refusal
pub no_ok : {A B : Type 0} {a : A} {n d : ℕ} → ok a ≡ refused n d → B
no_ok p = let z : ◌≡◌ {A = ℕ} 0 1 = cc in absurd (omega arith)

module _ (m : ℕ) where
  front : (b : List ℕ) → ok tt ≡ begins_with m b → b ≡ m ∷ drop 1 b
  front [] p = no_ok p
  front (x ∷ s) p = by_test (eqb x m) (λ t. rw (eqb-true x m t)) (λ t. no_ok (rw t at p))

  behind : {A : Type 0} (f : List ℕ → Read A) (b : List ℕ) → ok tt ≡ begins_with m b → marked m f b ≡ f (drop 1 b)
  behind f [] p = no_ok p
  behind f (x ∷ s) p = by_test (eqb x m) (λ t. rw t) (λ t. no_ok (rw t at p))

  -- and where it is not there, the reading is refused as the test was
  pub no_mark : {A : Type 0} (f : List ℕ → Read A) (b : List ℕ) {n d : ℕ} → refused n d ≡ begins_with m b → marked m f b ≡ bad n d
  no_mark f [] p = cc
  no_mark f (x ∷ s) p = by_test (eqb x m) (λ t. no_ok (sym (rw t at p))) (λ t. let q = rw t at p in rw t (cc))

  module _ (b : List ℕ) (p : ok tt ≡ begins_with m b) where
    pub in_front : b ≡ m ∷ drop 1 b
    in_front = front b p

    pub behind_mark : {A : Type 0} (f : List ℕ → Read A) → marked m f b ≡ f (drop 1 b)
    behind_mark f = behind f b p

    -- the mark is one byte
    pub mark_taken : length b ≡ suc (length (drop 1 b))
    mark_taken = ap length in_front

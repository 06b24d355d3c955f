-- Answers joined over a list, and what their joint answer says of each element.
use mathlib.Core.Path.{◌≡◌, refl, sym, ◌∙◌}
use mathlib.Core.List.{List, [], ◌∷◌}
use mathlib.Core.Bool.{Bool, true, false, ◌&&◌}
use Prim.Native.Nat.{ℕ, zero, suc, ◌<◌}
use native.Mathlib.Omega.{arith}
use lib.Bits.{bit_or}
use lib.ListN.{length, get_or}
use Rattle.std.specs.List.{fold, zip}
use Rattle.std.proofs.Common.{◌==◌, eqb-true}
use Rattle.std.proofs.lemmas.Slice.Zip.{length-zip, get_or-zip}
use Rattle.blocks.proofs.Spans.{or_below}

module _ {A : Type 0} (p : A → Bool) where
  and_false : (s : List A) → fold (λ (all : Bool) (x : A). all && p x) false s ≡ false
  and_false [] = refl
  and_false (x ∷ s) = and_false s

  pub each_of_and : (d : A) (s : List A) → fold (λ (all : Bool) (x : A). all && p x) true s ≡ true → (k : ℕ) → k < length s → p (get_or s k d) ≡ true
  each_of_and d [] h = λ k l. absurd (omega arith)
  each_of_and d (x ∷ s) h = go (p x) refl h (λ g. each_of_and d s g)
    where
      go : (b : Bool) → p x ≡ b → fold (λ (all : Bool) (x : A). all && p x) b s ≡ true → (fold (λ (all : Bool) (x : A). all && p x) true s ≡ true → (k : ℕ) → k < length s → p (get_or s k d) ≡ true)
          → (k : ℕ) → k < suc (length s) → p (get_or (x ∷ s) k d) ≡ true
      go true e h f zero l = e
      go true e h f (suc k) l = f h k (omega arith)
      go false e h f k l = let q : false ≡ true = sym (and_false s) ∙ h in cc

-- a bound of all the bytes joined by or bounds each
pub each_of_or : (m a : ℕ) (s : List ℕ) → fold (λ (all : ℕ) (x : ℕ). bit_or all x) a s < m → (a < m) × ((k : ℕ) → k < length s → get_or s k 0 < m)
each_of_or m a [] h = (h, λ k l. absurd (omega arith))
each_of_or m a (x ∷ s) h =
    let r = each_of_or m (bit_or a x) s h in
    let b = or_below a x m r.0 in
    (b.0, go b.1 r.1)
  where
    go : x < m → ((k : ℕ) → k < length s → get_or s k 0 < m) → (k : ℕ) → k < suc (length s) → get_or (x ∷ s) k 0 < m
    go b f zero l = b
    go b f (suc k) l = f k (omega arith)

-- the pairs of two lists, each of two that are equal
pub each_alike : (s t : List ℕ) → length s ≡ length t → fold (λ (all : Bool) (p : ℕ × ℕ). all && (p.0 == p.1)) true (zip s t) ≡ true → (k : ℕ) → k < length s → get_or s k 0 ≡ get_or t k 0
each_alike s t e h k l =
    let n : k < length (zip s t) = omega (arith, length-zip s t) in
    let m : k < length t = omega arith in
    let q = each_of_and (λ (p : ℕ × ℕ). p.0 == p.1) (0, 0) (zip s t) h k n in
    eqb-true (get_or s k 0) (get_or t k 0) (rw (get_or-zip s t k (0, 0) l m) at q)

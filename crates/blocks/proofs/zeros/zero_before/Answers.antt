-- The first zero of the part that the range names, at its place in the whole.
use mathlib.Core.Path.{◌≡◌, sym, ◌∙◌}
use Prim.Native.Nat.{ℕ, ◌-◌}
use native.Mathlib.Omega.{arith}
use lib.ListN.{length, take, drop, length-take, length-drop}
use Rattle.std.proofs.Common.{rules}
use Rattle.std.proofs.lemmas.Iterator.{YieldsList-from_slice, IsFirst-from_position}
use borrow.Author.Tests.{tests}
use Rattle.blocks.proofs.Spans.{part_at, span_front}
use Rattle.blocks.proofs.zeros.zero_before.Goals as goal

pub returns-in-Some : goal.returns-in-Some
returns-in-Some c =
    let a = c.args in
    let s = take (a.end - a.from) (drop a.from a.s.now) in
    let f = IsFirst-from_position _ _ c.position.result (λ (b : ℕ). b ≡ 0) (λ (b : ℕ). b ≡ 0 → ⊥) c.position.ensures.ran (YieldsList-from_slice s (cc)) (λ x q k. search (rules, tests)) (λ x q k. search (rules, tests)) in
    let g = rw c.in-Some.is at f in
    let l : length s ≡ a.end - a.from = simp (length-take, length-drop) (omega arith) in
    let n = c.in-Some.n in
    record {
      after = omega arith;
      inside = omega (arith, g.0);
      none = span_front (λ b. b ≡ 0 → ⊥) a.s.now a.from a.end n (omega (arith, g.0)) (λ k x y. g.2 k 0 x y);
      zero = λ h. sym (part_at a.s.now a.from a.end n (omega (arith, g.0))) ∙ g.1 0;
    }

pub returns-in-None : goal.returns-in-None
returns-in-None c =
    let a = c.args in
    let s = take (a.end - a.from) (drop a.from a.s.now) in
    let f = IsFirst-from_position _ _ c.position.result (λ (b : ℕ). b ≡ 0) (λ (b : ℕ). b ≡ 0 → ⊥) c.position.ensures.ran (YieldsList-from_slice s (cc)) (λ x q k. search (rules, tests)) (λ x q k. search (rules, tests)) in
    let g = rw c.in-None.is at f in
    let l : length s ≡ a.end - a.from = simp (length-take, length-drop) (omega arith) in
    let n = span_front (λ b. b ≡ 0 → ⊥) a.s.now a.from a.end (a.end - a.from) (omega arith) (λ k x y. g k 0 x (omega arith)) in
    record {
      after = omega arith;
      inside = omega arith;
      none = λ k x y. n k x (omega arith);
      zero = λ h. absurd (omega arith);
    }

-- Leaves, and what groups make of the answer for what they hold.
use mathlib.Core.Path.{◌≡◌, refl, ap, ◌∙◌}
use mathlib.Core.List.{List}
use mathlib.Core.Bool.{Bool, true}
use Prim.Native.Nat.{ℕ, ◌+◌, ◌-◌, ◌*◌, ◌≤◌}
use native.Mathlib.Omega.{arith}
use lib.ListN.{length, take, drop}
use lib.Seq.{slice, length-slice}
use Rattle.std.specs.Prelude.{Ok, Err}
use Rattle.format.specs.Answer.{Answer, refused}
use Rattle.format.specs.Refusals.{number_of, detail_of}
use Rattle.format.specs.declared.refusal.Refusal.{Refusal}
use Rattle.format.specs.Scalar.{int_bytes, uint_bytes, escaped}
use Rattle.format.specs.Encode.{in_union}
use Rattle.format.proofs.PlainLaws.{plain_pool, plain_bytes, pool_int, pool_run, bytes_int, run_length}
use Rattle.scalar.proofs.Parts.{part_slice}
use Rattle.scalar.proofs.Widths.{uint_long}
use Rattle.scalar.proofs.Escapes.{escaped_bounds}
use Rattle.sheet.specs.Places.{SkipsAlts}
use Rattle.fit.specs.Fit.{placed, leaf_in, Closed}

-- ---- leaves

module _ (pool : List ℕ) (k x t w p n : ℕ) where
  pub leaf_int : k ≡ 1 → n ≡ length (int_bytes x) → placed (t + 1) (w + 2) p n ≡ leaf_in pool k x t w p
  leaf_int h e =
      let end : p ≡ p + plain_pool k x = omega (arith, pool_int k x h) in
      cc (ap length (bytes_int k x (slice p (p + plain_pool k x) pool) h))

  module _ (no_int : k ≡ 1 → ⊥) (no_ref : k ≡ 4 → ⊥) where
    pub leaf_run : n ≡ length (escaped (take (p + x - p) (drop p pool))) → placed (t + 1) (w + 2) (p + x) (1 + n) ≡ leaf_in pool k x t w p
    leaf_run e =
        let end : p + x ≡ p + plain_pool k x = ap (λ (i : ℕ). p + i) (pool_run k x no_int no_ref) in
        let long : 1 + n ≡ length (plain_bytes k x (slice p (p + x) pool)) =
        ap (λ (i : ℕ). 1 + i) (e ∙ ap (λ (l : List ℕ). length (escaped l)) (part_slice p (p + x) pool (omega arith))) ∙ run_length k x (slice p (p + x) pool) no_int no_ref in
        cc

-- a run is at most twice as long as its payload, and one byte
pub run_short : (pool : List ℕ) (x p n : ℕ) → n ≡ length (escaped (take (p + x - p) (drop p pool))) → p + x ≤ length pool → n ≤ 2 * x + 1
run_short pool x p n e h =
    let part : length (take (p + x - p) (drop p pool)) ≡ x = ap length (part_slice p (p + x) pool (omega arith)) ∙ length-slice p (p + x) pool h ∙ omega arith in
    omega (arith, (escaped_bounds (take (p + x - p) (drop p pool))).1)

-- ---- what a union makes of its payload's answer

module _ (ty : List ℕ) (tag left : ℕ) (asked : Bool) where
  pub closed_well : (at word pool len end k : ℕ) → (asked ≡ true → SkipsAlts ty at left end) → k ≡ length (uint_bytes tag) → Closed ty tag left asked (Ok (placed at word pool len)) (Ok (placed end word pool (len + (2 + k))))
  unfolding in_union
  closed_well at word pool len end k skip long =
      record {
        brief = λ words b w p s. (omega arith, s.1, s.2, s.3, omega (arith, (uint_long tag).1));
        says = λ a m f g n us e s i c d.
            rw (← s.answer)
            (record {
              answer = refl;
              ends = (λ q. (skip q).skips us e (rw (s.ends.0 q) i) c d, s.ends.1, s.ends.2, omega (arith, s.ends.3));
            });
      }

  -- a refusal, by what the union makes of it
  pub closed_bad : (e d : Refusal) → ◌≡◌ {A = Answer Unit} (refused (number_of d) (detail_of d)) (in_union tag (refused (number_of e) (detail_of e))) → Closed ty tag left asked (Err e) (Err d)
  closed_bad e d h = record { brief = λ words b w p s. tt; says = λ a x f g l us k s i c q. record { answer = h ∙ ap (in_union tag) s.answer; ends = tt } }

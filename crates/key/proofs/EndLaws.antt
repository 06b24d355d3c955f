-- The two ends written: the upper by above_field, the lower copied.
use mathlib.Core.Path.{◌≡◌, refl, sym, ap, ◌∙◌}
use mathlib.Core.Bool.{Bool}
use mathlib.Core.List.{List, ◌++◌}
use Prim.Native.Nat.{ℕ, ◌+◌, ◌≤◌, ◌<◌}
use native.Mathlib.Omega.{arith}
use lib.Dec.{leb}
use lib.ListN.{length, take, drop}
use lib.Seq.{slice, length-take-le}
use Rattle.std.specs.Prelude.{Ok, Err}
use Rattle.format.specs.Answer.{Answer, ok, no_room}
use Rattle.format.specs.Bounds.{above_field}
use Rattle.format.specs.Calls.{over, Bounded, bounded, above_field_call}
use Rattle.format.specs.Refusals.{answered, Leaves}
use Rattle.format.specs.Fields as fields
use Rattle.format.specs.declared.refusal.Refusal.{Refusal}
use Rattle.format.proofs.Tests.{ltb_yes, ltb_no, Test, holds, fails, leb_test}
use Rattle.key.specs.Keys.{bounded_of, BoundsLeft}

-- a refusal for want of room is one of every kind of answer
pub told : {A : Type 0} (e : Refusal) (n : ℕ) → answered {A = A} (Err e) ≡ no_room n → bounded_of (Err e) ≡ no_room n
told e n h = cc

module _ (key lower upper : List ℕ) (n : ℕ) (nk : n ≤ length key) where
  -- the first n bytes
  abbrev x : List ℕ
  x = take n key

  nx : n ≡ length x
  nx = sym (length-take-le n key nk)

  abbrev Both : Bounded
  Both = bounded lower upper (ok x)

  module _ (room : n ≤ length lower) {upper' : List ℕ} where
    pub high_room : {e : Refusal} → Leaves (above_field_call x upper) (Err e) upper' → BoundsLeft Both (Err e) lower upper'
    unfolding above_field_call
    high_room {e} s = go (leb (length (above_field x)) (length upper)) (leb_test (length (above_field x)) (length upper)) refl
      where
        go : (b : Bool) → Test (length (above_field x) ≤ length upper) (length upper < length (above_field x)) b → leb (length (above_field x)) (length upper) ≡ b → BoundsLeft Both (Err e) lower upper'
        go _ (holds h) q = absurd (let a : answered (Err e) ≡ ok (length (above_field x)) = rw q at s.answer in let z : ◌≡◌ {A = ℕ} 0 1 = cc in omega arith)
        go _ (fails h) q =
            let a : ◌≡◌ {A = Answer ℕ} (answered (Err e)) (no_room (length (above_field x))) = rw q at s.answer in
            let l : upper' ≡ upper = rw q at s.left in
            rw (ltb_no (length lower) (length x) (omega (arith, nx)), ltb_yes (length upper) (length (above_field x)) h) (record { answer = told e (length (above_field x)) a; low = refl; high = l })

    pub ends_done : {end : ℕ} → Leaves (above_field_call x upper) (Ok end) upper' → {lower' : List ℕ} → lower' ≡ fields.put lower 0 (slice 0 n key)
        → BoundsLeft Both (Ok (record { lower = n; upper = end })) lower' upper'
    unfolding above_field_call
    ends_done {end} s {lower'} q = go (leb (length (above_field x)) (length upper)) (leb_test (length (above_field x)) (length upper)) refl
      where
        -- what was copied to the buffer's beginning
        copied : lower' ≡ over x lower
        copied = let z : 0 + length x ≡ length x = omega arith in q ∙ ap (λ (m : ℕ). x ++ drop m lower) z

        go : (b : Bool) → Test (length (above_field x) ≤ length upper) (length upper < length (above_field x)) b → leb (length (above_field x)) (length upper) ≡ b
            → BoundsLeft Both (Ok (record { lower = n; upper = end })) lower' upper'
        go _ (holds h) e =
            let a : ok end ≡ ok (length (above_field x)) = rw e at s.answer in
            let en : end ≡ length (above_field x) = cc in
            let l : upper' ≡ over (above_field x) upper = rw e at s.left in
            rw (ltb_no (length lower) (length x) (omega (arith, nx)), ltb_no (length upper) (length (above_field x)) h) (record { answer = rw (← nx, en); low = copied; high = l })
        go _ (fails h) e = absurd (let a : ok end ≡ no_room (length (above_field x)) = rw e at s.answer in let z : ◌≡◌ {A = ℕ} 0 1 = cc in omega arith)

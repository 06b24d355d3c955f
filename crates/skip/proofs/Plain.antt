-- Integers and references by their mark alone, runs by where they end: what a turn makes of them. They open and close no group.
use mathlib.Core.Bool.{Bool, true, false}
use mathlib.Core.Path.{◌≡◌, ◌∙◌}
use mathlib.Core.List.{List, [], ◌∷◌}
use Prim.Native.Nat.{ℕ, suc, ◌+◌, ◌-◌, ◌≤◌, ◌<◌}
use native.Mathlib.Omega.{arith}
use lib.Dec.{leb}
use lib.ListN.{length, get_or, drop}
use lib.Seq.{drop-drop}
use borrow.Author.Tests.{leb-true}
use Rattle.format.specs.Read.{Read}
use Rattle.format.specs.Skip.{pass_bytes, turn}
use Rattle.scalar.specs.Numbers.{mark_width, unjudged}
use Rattle.scalar.specs.Runs.{run_end}
use Rattle.scalar.proofs.Cases.{by_test}
use Rattle.scalar.proofs.Reading.{Took}
use Rattle.scalar.proofs.Integers.{big_read}
use Rattle.scalar.proofs.Measures.{end_none, end_run}
use Rattle.skip.specs.Tokens.{pass_run, number_mark, run_mark, Runs}
use Rattle.skip.proofs.Marks.{number_passes, run_passes}
use Rattle.skip.proofs.Turns.{turn_mark}

-- ---- numbers

module _ (escape : Bool) (depth : ℕ) where
  number_turn : (m : ℕ) (s : List ℕ) → number_mark m ≡ true → mark_width m ≤ length s → Took (m ∷ s) (turn escape depth (m ∷ s)) depth (mark_width m + 1)
  number_turn m s k h =
      let e : mark_width m + 1 ≡ suc (mark_width m) = omega arith in
      let p : turn escape depth (m ∷ s) ≡ pass_bytes (mark_width m) depth s =
      turn_mark escape depth (m ∷ s) (λ z. no_number (rw z at k)) ∙ number_passes escape depth m s (leb-true (mark_width m) 8 k) in
      record { reads = p ∙ rw (big_read (mark_width m) s h, e); some = omega arith; within = omega arith }
    where
      no_number : false ≡ true → ⊥
      no_number y = let z : ◌≡◌ {A = ℕ} 0 1 = cc in omega arith

  pub number_took : (s : List ℕ) {r : ℕ} → r ≡ unjudged s → (r ≡ 0 → ⊥) → Took s (turn escape depth s) depth r
  unfolding unjudged
  number_took [] e h = absurd (h e)
  number_took (m ∷ s) {r} e h =
      by_test (leb (mark_width m) 8)
      (λ t. by_test (leb (mark_width m) (length s))
      (λ u. let q : r ≡ mark_width m + 1 = e ∙ rw (t, u) in rw q (number_turn m s t (leb-true (mark_width m) (length s) u)))
      (λ u. absurd (h (e ∙ rw (t, u)))))
      (λ t. absurd (h (e ∙ rw t)))

-- ---- runs

run_there : (s : List ℕ) → run_mark (get_or s 0 0) ≡ true → get_or s 0 0 ≡ 0 → ⊥
run_there s k z = no_run (rw z at k)
  where
    no_run : false ≡ true → ⊥
    no_run y = let z : ◌≡◌ {A = ℕ} 0 1 = cc in omega arith

module _ (s : List ℕ) (end : ℕ) (q : end ≡ run_end s 1) where
  pub run_ends : end < length s → Runs s (end + 1)
  run_ends l =
      let m = end_run s 1 end q l in
      let a = m.1 in
      let k : 1 + (end - 1 + 1) ≡ end + 1 = omega arith in
      record {
        some = omega arith;
        inside = omega arith;
        passes = λ depth. rw (m.2.reads, drop-drop (end - 1 + 1) 1 s, k);
      }

  pub run_cut : length s ≤ end → (depth : ℕ) → pass_run depth (drop 1 s) ≡ Read.bad 1 0
  run_cut l depth = rw (end_none s 1 end q l)

module _ (escape : Bool) (depth : ℕ) (s : List ℕ) (k : run_mark (get_or s 0 0) ≡ true) where
  run_turn : turn escape depth s ≡ pass_run depth (drop 1 s)
  run_turn = turn_mark escape depth s (run_there s k) ∙ run_passes escape depth (get_or s 0 0) (drop 1 s) k

  pub run_took : {n : ℕ} → Runs s n → Took s (turn escape depth s) depth n
  run_took p = record { reads = run_turn ∙ p.passes depth; some = p.some; within = p.inside }

  pub run_refused : ((depth : ℕ) → pass_run depth (drop 1 s) ≡ Read.bad 1 0) → turn escape depth s ≡ Read.bad 1 0
  run_refused p = run_turn ∙ p depth

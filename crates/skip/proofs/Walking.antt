-- The walk of `skip` as the invariant of its loops says it: what is left of the walk at a place, and what each turn makes of it.
use mathlib.Core.Bool.{Bool, true, false, not}
use mathlib.Core.Path.{◌≡◌, sym, ap, ◌∙◌}
use mathlib.Core.List.{List, []}
use Prim.Native.Nat.{ℕ, ◌+◌, ◌-◌, ◌^◌, ◌≤◌, ◌<◌}
use native.Mathlib.Omega.{arith}
use lib.ListN.{length, get_or, take, drop, length-drop, drop_of_length-le}
use lib.Seq.{drop-drop}
use borrow.Author.Tests.{eq-eqb, ne_eqb, not-false}
use Rattle.format.specs.Answer.{ok, refused}
use Rattle.format.specs.Read.{Read, then_read}
use Rattle.format.specs.Fields.{taken_from}
use Rattle.format.specs.Skip.{turn, end_of, skip_from}
use Rattle.format.specs.Calls.{skip_call}
use Rattle.format.proofs.SkipLaws.{ended, walk_from, walk_step, skip_walk}
use Rattle.scalar.specs.Numbers.{unjudged}
use Rattle.scalar.proofs.Parts.{part_rest}
use Rattle.scalar.proofs.Reading.{Took}
use Rattle.skip.specs.Tokens.{field, pass_run, run_mark, Runs}
use Rattle.skip.proofs.Turns.{Ending, Opening, turn_took, turn_refuses, turn_closes, turn_opens}
use Rattle.skip.proofs.Plain.{number_took, run_took, run_refused}

-- at place i, in d open groups, what is left of the walk is the walk from the start
pub record Walk (escape : Bool) (b : List ℕ) (start i d : ℕ) : Type 0 where
  pub inside : i ≤ length b
  pub goes : walk_from escape d (drop i b) ≡ walk_from escape 0 (drop start b)

by_walk : (escape : Bool) (b : List ℕ) (start : ℕ) → skip_call b start escape ≡ end_of b (walk_from escape 0 (drop start b))
unfolding skip_call skip_from
by_walk escape b start = ap (end_of b) (skip_walk escape (drop start b))

-- a start past the end
pub walk_past : (escape : Bool) (b : List ℕ) (start : ℕ) → length b < start → refused 1 0 ≡ skip_call b start escape
unfolding turn
walk_past escape b start h =
    let past : length b ≤ start = omega arith in
    let none : drop start b ≡ [] = drop_of_length-le b past in
    rw (by_walk escape b start, none, walk_step escape 0 [])

-- a group ends at the place
pub record EndsAt (b : List ℕ) (i d : ℕ) : Type 0 where
  pub here : Ending d (drop i b) ≡ true

-- the rest of the key, as a callee sees it
abbrev Rest : List ℕ → ℕ → List ℕ
Rest b i = take (length b - i) (drop i b)

pub ends : {b : List ℕ} {i d : ℕ} {q : Bool} → q ≡ Ending d (Rest b i) → q ≡ true → EndsAt b i d
ends {b} {i} p h = record { here = sym (rw (part_rest i b) at p) ∙ h }

pub ends_still : {b : List ℕ} {i d : ℕ} {q : Bool} → q ≡ Ending d (Rest b i) → not q ≡ false → EndsAt b i d
ends_still {q = q} p h = ends p (not-false q h)

module _ {escape : Bool} {b : List ℕ} {start i d : ℕ} (w : Walk escape b start i d) where
  -- the walk behind a turn
  behind : {x : Read ℕ} → turn escape d (drop i b) ≡ x → then_read x (ended (walk_from escape)) ≡ walk_from escape 0 (drop start b)
  behind e = rw (walk_step escape d (drop i b), e) at w.goes

  walk_bad : {n e : ℕ} → turn escape d (drop i b) ≡ Read.bad n e → refused n e ≡ skip_call b start escape
  walk_bad e = rw (by_walk escape b start, ← behind e)

  module _ {o n : ℕ} (t : Took (drop i b) (turn escape d (drop i b)) o n) where
    -- the place behind it is in the key, and less is left than at a place before
    within : i + n ≤ length b
    within = omega (arith, t.within, w.inside, length-drop i b)

    room : length b < 2 ^ 64 → i + n < 2 ^ 64
    room h = omega (arith, within)

    less : (from : ℕ) → from ≤ i → length b - (i + n) < length b - from
    less from h = omega (arith, within, t.some)

    reads : turn escape d (drop i b) ≡ Read.got o (drop (i + n) b)
    reads = rw (← drop-drop n i b) t.reads

    walk_on : (o ≡ 0 → ⊥) → Walk escape b start (i + n) o
    walk_on h = record { inside = within; goes = (rw (ne_eqb o 0 h) at (behind reads)) }

    walk_end : o ≡ 0 → ok (i + n) ≡ skip_call b start escape
    walk_end h =
        let e : Read.got tt (drop (i + n) b) ≡ walk_from escape 0 (drop start b) = (rw (eq-eqb o 0 h) at (behind reads)) in
        let l : length b - length (drop (i + n) b) ≡ i + n = omega (arith, within, length-drop (i + n) b) in
        rw (by_walk escape b start, ← e, l)

  -- ---- a number

  module _ {r : ℕ} (p : r ≡ unjudged (Rest b i)) (some : r ≡ 0 → ⊥) where
    number_turn : Took (drop i b) (turn escape d (drop i b)) d r
    number_turn = number_took escape d (drop i b) (rw (part_rest i b) at p) some

    pub number_room : length b < 2 ^ 64 → i + r < 2 ^ 64
    number_room h = room number_turn h

    pub number_less : length b - (i + r) < length b - i
    number_less = less number_turn i (omega arith)

    pub number_on : (d ≡ 0 → ⊥) → Walk escape b start (i + r) d
    number_on h = walk_on number_turn h

    pub number_end : d ≡ 0 → ok (i + r) ≡ skip_call b start escape
    number_end h = walk_end number_turn h

  -- ---- a record opens

  module _ {q : Bool} (p : q ≡ Opening d (Rest b i)) (h : q ≡ true) where
    opens : Opening d (drop i b) ≡ true
    opens = sym (rw (part_rest i b) at p) ∙ h

    pub opens_on : Walk escape b start (i + 1) (d + 1)
    opens_on = walk_on (turn_opens escape d (drop i b) opens) (λ z. omega arith)

  -- ---- a group ends

  module _ (e : EndsAt b i d) where
    pub ends_inside : i + 1 ≤ length b
    ends_inside = within (turn_closes escape d (drop i b) e.here)

    pub ends_less : (from : ℕ) → from ≤ i → length b - (i + 1) < length b - from
    ends_less from h = less (turn_closes escape d (drop i b) e.here) from h

    pub ends_on : (d - 1 ≡ 0 → ⊥) → Walk escape b start (i + 1) (d - 1)
    ends_on k = walk_on (turn_closes escape d (drop i b) e.here) k

    pub ends_end : d - 1 ≡ 0 → ok (i + 1) ≡ skip_call b start escape
    ends_end k = walk_end (turn_closes escape d (drop i b) e.here) k

  -- ---- a run

  module _ {q : Bool} (p : q ≡ run_mark (get_or (Rest b i) 0 0)) (h : q ≡ true) where
    starts : run_mark (get_or (drop i b) 0 0) ≡ true
    starts = sym (rw (part_rest i b) at p) ∙ h

    pub run_bad : ((depth : ℕ) → pass_run depth (drop 1 (Rest b i)) ≡ Read.bad 1 0) → refused 1 0 ≡ skip_call b start escape
    run_bad e = walk_bad (run_refused escape d (drop i b) starts (rw (part_rest i b) at e))

    module _ {r : ℕ} (e : Runs (Rest b i) r) where
      run_turn : Took (drop i b) (turn escape d (drop i b)) d r
      run_turn = run_took escape d (drop i b) starts (rw (part_rest i b) at e)

      pub run_on : (d ≡ 0 → ⊥) → Walk escape b start (i + r) d
      run_on h = walk_on run_turn h

      pub run_end : d ≡ 0 → ok (i + r) ≡ skip_call b start escape
      run_end h = walk_end run_turn h

  -- ---- what is left

  module _ {q : Bool} (p : q ≡ Ending d (Rest b i)) (h : q ≡ false) where
    open_still : Ending d (drop i b) ≡ false
    open_still = sym (rw (part_rest i b) at p) ∙ h

    pub left_bad : {n e : ℕ} → refused n e ≡ taken_from (Rest b i) (field escape d (Rest b i)) → refused n e ≡ skip_call b start escape
    left_bad a = walk_bad (turn_refuses escape d (drop i b) open_still (rw (part_rest i b) at a))

    module _ {o n : ℕ} (a : ok (record { value = o; used = n }) ≡ taken_from (Rest b i) (field escape d (Rest b i))) where
      left_turn : Took (drop i b) (turn escape d (drop i b)) o n
      left_turn = turn_took escape d (drop i b) open_still (rw (part_rest i b) at a)

      pub left_less : (from : ℕ) → from ≤ i → length b - (i + n) < length b - from
      left_less from h = less left_turn from h

      pub left_on : (o ≡ 0 → ⊥) → Walk escape b start (i + n) o
      left_on m = walk_on left_turn m

      pub left_end : o ≡ 0 → ok (i + n) ≡ skip_call b start escape
      left_end m = walk_end left_turn m

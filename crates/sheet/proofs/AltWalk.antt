-- The search for a union's alternative: those that are left decide and those passed are counted; the next of them has the tag or is passed.
use Prim.Native.Nat.{ℕ, ◌+◌, ◌-◌, ◌≤◌, ◌<◌}
use mathlib.Core.List.{List}
use mathlib.Core.Option.{some, none}
use mathlib.Core.Path.{◌≡◌, refl, sym, ◌∙◌}
use native.Mathlib.Omega.{arith}
use lib.ListN.{length, drop, get_or}
use borrow.Author.Tests.{eq-eqb, ne_eqb}
use Rattle.format.specs.Tree.{Ty, Alts}
use Rattle.format.specs.Sheet.{alt_count, ty_words}
use Rattle.format.specs.TypeSheet.{max_groups, type_at, nesting, alt_nestings}
use Rattle.format.specs.Search.{looked}
use Rattle.format.proofs.TypePlaces.{TypeIn, AltsIn, union_in, alt_in}
use Rattle.format.proofs.Choose.{choose}
use Rattle.std.specs.Prelude.{Some, None}
use Rattle.std.specs.Prelude as std
use Rattle.std.proofs.lemmas.Option.{none-some, same_Some}
use Rattle.sheet.specs.Places.{Ends, Chosen, Searches}
use Rattle.sheet.proofs.EndLaws.{end_is}

-- what is known of the alternatives that are left, up to e
pub record Rest (w : List ℕ) (e left place : ℕ) (rest : Alts) : Type 0 where
  pub stand : AltsIn w place rest e
  pub count : alt_count rest ≡ left
  pub deep : alt_nestings rest ≤ max_groups

-- the search among `us` goes on among `more`, after `seen` that have another tag
pub record Same (tag seen : ℕ) (us more : Alts) : Type 0 where
  pub choice : choose tag us ≡ choose tag more
  pub looks : looked tag us ≡ seen + looked tag more

-- of every union at `at`, the alternatives that are left stand at the place, and decide
pub record Left (w : List ℕ) (at tag left seen place : ℕ) : Type 0 where
  pub rest : (us : Alts) (e : ℕ) → TypeIn w at (Ty.Union us) e → nesting (Ty.Union us) ≤ max_groups → (more : Alts) × Rest w e left place more × Same tag seen us more

-- the next of them: its tag and type, and what is left behind it
record Next (w : List ℕ) (e left place : ℕ) (more : Alts) : Type 0 where
  tag : ℕ
  type : Ty
  behind : Alts
  is : more ≡ Alts.AddAlt tag type behind
  here : place < length w
  word : get_or w place 0 ≡ tag
  stands : TypeIn w (place + 1) type (place + 1 + length (ty_words type))
  shallow : nesting type ≤ max_groups
  rest : Rest w e (left - 1) (place + 1 + length (ty_words type)) behind

next : {w : List ℕ} {e left place : ℕ} {more : Alts} → (left ≡ 0 → ⊥) → Rest w e left place more → Next w e left place more
unfolding alt_count alt_nestings
next {more = Alts.NoAlt} n r = absurd (n (sym r.count))
next {w} {e} {left} {place} {more = Alts.AddAlt x t more} n r =
    let a = alt_in w place e x t more r.stand in
    let c = r.count in
    let d = r.deep in
    record {
      tag = x;
      type = t;
      behind = more;
      is = refl;
      here = a.0;
      word = a.1;
      stands = a.2;
      shallow = omega arith;
      rest = record { stand = a.3; count = omega arith; deep = omega arith };
    }

empty : (us : Alts) → alt_count us ≡ 0 → us ≡ Alts.NoAlt
unfolding alt_count
empty Alts.NoAlt e = refl
empty (Alts.AddAlt x t more) e = absurd (omega arith)

module _ {tag seen : ℕ} {us more : Alts} (s : Same tag seen us more) where
  at_end : alt_count more ≡ 0 → (choose tag us ≡ none) × (seen ≡ looked tag us)
  unfolding choose looked
  at_end h = let z = empty more h in (rw (s.choice, z), rw (s.looks, z) (omega arith))

  -- the next alternative, by whether it has the tag
  module _ {d : ℕ} {t : Ty} {behind : Alts} (is : more ≡ Alts.AddAlt d t behind) where
    at_tag : d ≡ tag → (choose tag us ≡ some (t, behind)) × (seen + 1 ≡ looked tag us)
    unfolding choose looked
    at_tag h = let b = eq-eqb d tag h in (rw (s.choice, is, b), rw (s.looks, is, b))

    past : (d ≡ tag → ⊥) → Same tag (seen + 1) us behind
    unfolding choose looked
    past h = let b = ne_eqb d tag h in record { choice = rw (s.choice, is, b); looks = rw (s.looks, is, b) (omega arith) }

module _ (w : List ℕ) (at tag : ℕ) where
  answers : {r : std.Option ℕ} {l n : ℕ} → ((us : Alts) (e : ℕ) → TypeIn w at (Ty.Union us) e → nesting (Ty.Union us) ≤ max_groups → Chosen w e r l (choose tag us) × (n ≡ looked tag us)) → Searches w at tag r l n
  answers f = record { picks = record { picks = λ us e s d. (f us e s d).0 }; looks = λ us e s d. (f us e s d).1 }

  pub no_union : (l n : ℕ) → length w - at < 2 → Searches w at tag None l n
  no_union l n h = answers (λ us e s d. absurd (omega (arith, (union_in w at e us s).0)))

  pub all_left : Left w at tag (get_or w (at + 1) 0 - 0) 0 (at + 2)
  unfolding nesting
  all_left =
      record {
        rest = λ us e s d.
            let f = union_in w at e us s in
            let same : alt_count us ≡ get_or w (at + 1) 0 - 0 = omega (arith, f.1) in (us, record { stand = f.2; count = same; deep = omega arith }, record { choice = refl; looks = omega arith });
      }

  -- of `count`, k are passed
  module _ {count k place : ℕ} (inv : Left w at tag (count - k) k place) where
    pub none_left : (l : ℕ) → k ≤ count → count ≤ k → Searches w at tag None l count
    none_left l m h =
        answers (λ us e s d.
        let f = inv.rest us e s d in
        let z = at_end f.2 (f.1.count ∙ omega arith) in (rw z.0 refl, omega (arith, z.1)))

    module _ (more : k < count) where
      some_left : count - k ≡ 0 → ⊥
      some_left z = omega arith

      pub no_room : (l n : ℕ) → length w ≤ place → Searches w at tag None l n
      no_room l n h = answers (λ us e s d. let here = (next some_left (inv.rest us e s d).1).here in absurd (omega arith))

      pub picked : get_or w place 0 ≡ tag → Searches w at tag (Some (place + 1)) (count - k - 1) (k + 1)
      picked h =
          answers (λ us e s d.
          let f = inv.rest us e s d in
          let n = next some_left f.1 in
          let z = at_tag f.2 n.is (sym n.word ∙ h) in (
            rw z.0 (omega arith, place + 1 + length (ty_words n.type), n.stands, n.rest.stand, n.rest.count),
            z.1,
          ))

      -- the end that was found is the next alternative's
      found : {o : std.Option ℕ} → Ends w (place + 1 + 1) (type_at max_groups (drop (place + 1) w)) o → {e : ℕ} {more : Alts} (n : Next w e (count - k) place more) → o ≡ Some (place + 1 + length (ty_words n.type))
      found end n = end_is w (place + 1) (place + 1 + length (ty_words n.type)) max_groups n.type n.stands n.shallow end

      pub no_end : (l n : ℕ) → Ends w (place + 1 + 1) (type_at max_groups (drop (place + 1) w)) None → Searches w at tag None l n
      no_end l n end = answers (λ us e s d. absurd (none-some _ (found end (next some_left (inv.rest us e s d).1))))

      pub go_on : {r : ℕ} → Ends w (place + 1 + 1) (type_at max_groups (drop (place + 1) w)) (Some r) → (get_or w place 0 ≡ tag → ⊥) → Left w at tag (count - (k + 1)) (k + 1) r
      go_on {r} end other =
          record {
            rest = λ us e s d.
                let f = inv.rest us e s d in
                let n = next some_left f.1 in
                let l : count - k - 1 ≡ count - (k + 1) = omega arith in (
                  n.behind,
                  rw (← l, same_Some _ _ (found end n)) n.rest,
                  past f.2 n.is (λ z. other (n.word ∙ z)),
                );
          }

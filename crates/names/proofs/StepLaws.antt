-- The steps of a reader, as they are noted one after another: what is noted and what is left are the steps of the new reader.
use Rattle.std.proofs.Common.{◌≡◌, ℕ, suc, ◌+◌, ◌<◌, Bool, List, [], ◌∷◌, ◌++◌, map, length, take, drop, set, sym, refl, ap, ◌∙◌, append_assoc, append-nil, add-one, arith, length-set, take_all, take-suc-set}
use mathlib.Core.List.{map-append}
use Rattle.format.specs.Chars.{Step, Stepped, step_at}
use Rattle.std.specs.Prelude.{Result}
use Rattle.format.specs.declared.refusal.Refusal.{Refusal}
use Rattle.chars.specs.Reader.{closed, Opens, Begins, Moves}
use Rattle.chars.specs.Reader as reader
use Rattle.chars.specs.declared.StrChars.{StrChars}
use Rattle.chars.specs.Names.{steps_from}
use Rattle.names.specs.Steps.{step_in, start, with, Gives}
use Rattle.names.specs.declared.Seen.{Seen}
use Rattle.names.specs.declared.Given.{Given}

-- the first i steps are noted, and a reader of the text behind the mark has the others left
pub record Going (name text : List ℕ) (at : ℕ) (done : Bool) (g : Given) (i left : ℕ) : Type 0 where
  pub opens : Opens name g.opened
  pub held : text ≡ drop 1 name
  pub room : length g.seen ≡ 12
  pub place : i + left ≡ 12
  pub steps : map step_in (take i g.seen) ++ steps_from text at done left ≡ steps_from (drop 1 name) 0 (closed g.opened) 12

-- one step of those that are left; and none
module _ (text : List ℕ) (at : ℕ) (done : Bool) where
  one_more : (n : ℕ) → steps_from text at done (suc n) ≡ (step_at text at done).step ∷ steps_from text (step_at text at done).at (step_at text at done).done n
  unfolding steps_from
  one_more n = refl

  no_more : (l : List Step) → l ++ steps_from text at done 0 ≡ l
  unfolding steps_from
  no_more l = append-nil l

-- the first i of a list, and another behind them
noted : (l : List Seen) (i : ℕ) (x : Seen) (rest : List Step) → i < length l → map step_in (take (i + 1) (set l i x)) ++ rest ≡ map step_in (take i l) ++ (step_in x ∷ rest)
noted l i x rest h =
    let a : take (i + 1) (set l i x) ≡ take i l ++ (x ∷ []) = rw (add-one i) (take-suc-set l i x h) in
    rw (a, map-append step_in (take i l) (x ∷ []), append_assoc)

module _ (name text : List ℕ) (at : ℕ) (done : Bool) where
  pub begins : (o : Result Unit Refusal) → Begins name o text at done → Going name text at done (start o) 0 12
  begins o e = record {
    opens = e.opens;
    held = e.held;
    room = refl;
    place = refl;
    steps = rw (e.held, e.at_start, e.finished);
  }

  pub ends : (g : Given) (i : ℕ) → Going name text at done g i 0 → Gives name g
  ends g i e =
      let all : take i g.seen ≡ g.seen = take_all i g.seen (omega (arith, e.room, e.place)) in
      record { opens = e.opens; steps = ap (map step_in) (sym all) ∙ sym (no_more text at done (map step_in (take i g.seen))) ∙ e.steps }

-- one step more
module _ (name : List ℕ) (h : StrChars) where
  abbrev found : Stepped
  found = step_at h.bytes.now h.at h.done

  pub goes_on : (g : Given) (i n : ℕ) (t : reader.Step) (h' : StrChars) → Going name h.bytes.now h.at h.done g i (suc n) → Moves h t h'
      → Going name h'.bytes.now h'.at h'.done (with g i t) (i + 1) n
  goes_on g i n t h' e m = record {
    opens = e.opens;
    held = ap (λ x. x.now) m.held ∙ e.held;
    room = length-set g.seen i (record { step = t }) ∙ e.room;
    place = omega (arith, e.place);
    steps = rw (m.held, m.place, m.flag) (noted g.seen i (record { step = t }) (steps_from h.bytes.now found.at found.done n) (omega (arith, e.room, e.place))
        ∙ ap (λ (x : Step). map step_in (take i g.seen) ++ (x ∷ steps_from h.bytes.now found.at found.done n)) m.gives
        ∙ ap (λ (l : List Step). map step_in (take i g.seen) ++ l) (sym (one_more h.bytes.now h.at h.done n))
        ∙ e.steps);
  }

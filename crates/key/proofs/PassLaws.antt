-- What passing over a value, or over fields, answers: from the walkers' answers.
use mathlib.Core.Path.{◌≡◌, refl, sym, ap, ◌∙◌, subst}
use mathlib.Core.Bool.{true, false}
use mathlib.Core.List.{List}
use Prim.Native.Nat.{ℕ, ◌≤◌, ◌<◌}
use lib.ListN.{length, drop, get_or, drop_of_length-le}
use Rattle.std.specs.Prelude.{Result, Ok, Err}
use Rattle.format.specs.Answer.{refused, UnexpectedMark}
use Rattle.format.specs.Tree.{Vals}
use Rattle.format.specs.Calls.{Sizes}
use Rattle.format.specs.Decode.{Decoded, whole}
use Rattle.format.specs.declared.refusal.Refusal.{Refusal}
use Rattle.format.specs.declared.refusal.Refusal.TheVariants as made
use Rattle.format.proofs.SheetPlaces.{front}
use Rattle.read.specs.declared.Walked.{Walked}
use Rattle.read.specs.declared.Refused.{Refused}
use Rattle.read.specs.Walk.{ValueWalk, FieldWalk, Walks, well, ill}
use Rattle.key.specs.declared.passing.Passed.{Passed}
use Rattle.key.specs.Passing.{Says, to, not, PassesValue, PassesFields, EndSays, Ends}

-- the two places of a walk
abbrev pub places : Walked → Passed
places w = record { at = w.at; next = w.next }

module _ {A : Type 0} {g : A → Sizes} {bytes : List ℕ} {i e most : ℕ} where
  says_to : {w : Walked} {D : Decoded A} → Walks g bytes i true e most (Ok w) D → Says bytes e (Ok (places w)) D
  says_to (well x) = rw (← x.left) (to (x.behind refl) x.place)

  says_refused : {f : Refused} {D : Decoded A} → Walks g bytes i true e most (Err f) D → Says bytes e (Err f.why) D
  says_refused (ill h) = not

-- ---- one value

module _ {ty : List ℕ} {at : ℕ} {bytes : List ℕ} {i : ℕ} where
  pub value_to : {w : Walked} → ValueWalk ty at bytes i 0 true (Ok w) → PassesValue ty at bytes i (Ok (places w))
  value_to v = record { pass = λ t e h d. says_to (v.walk t e h d) }

  pub value_refused : {f : Refused} → ValueWalk ty at bytes i 0 true (Err f) → PassesValue ty at bytes i (Err f.why)
  value_refused v = record { pass = λ t e h d. says_refused (v.walk t e h d) }

-- ---- fields

module _ {ty : List ℕ} {at n : ℕ} {bytes : List ℕ} {i : ℕ} where
  pub fields_to : {w : Walked} → FieldWalk ty at n bytes i 0 true (Ok w) → PassesFields ty at n bytes i (Ok (places w))
  fields_to v = record { pass = λ ts e h c d. says_to (v.walk ts e (λ q. h) (λ q. h) c d) }

  pub fields_refused : {f : Refused} → FieldWalk ty at n bytes i 0 true (Err f) → PassesFields ty at n bytes i (Err f.why)
  fields_refused v = record { pass = λ ts e h c d. says_refused (v.walk ts e (λ q. h) (λ q. h) c d) }

  -- with nothing left over
  pub end_bad : {f : Refused} → FieldWalk ty at n bytes i 0 false (Err f) → Ends ty at n bytes i (Err f.why)
  unfolding whole
  end_bad {f} v = record { end = λ ts e h k d. ends_bad (v.walk ts e (λ q. h) (λ q. h) k d) }
    where
      ends_bad : {g : Vals → Sizes} {e most : ℕ} {D : Decoded Vals} → Walks g bytes i false e most (Err f) D → EndSays (Err f.why) (whole D)
      ends_bad (ill h) = refl

  module _ {w : Walked} (v : FieldWalk ty at n bytes i 0 false (Ok w)) where
    -- the fields in the definition, by what is left
    left_is : {r : Result Unit Refusal} {left : List ℕ} → drop w.next bytes ≡ left → ((vs : Vals) (k : ℕ) → EndSays r (whole (Decoded.got vs left k))) → Ends ty at n bytes i r
    left_is {r} {left} l g = record { end = λ ts e h c d. by_left (v.walk ts e (λ q. h) (λ q. h) c d) }
      where
        by_left : {f : Vals → Sizes} {e most : ℕ} {D : Decoded Vals} → Walks f bytes i false e most (Ok w) D → EndSays r (whole D)
        by_left (well {a = vs} x) = subst (λ (q : List ℕ). EndSays r (whole (Decoded.got vs q w.begun))) (sym l ∙ x.left) (g vs w.begun)

    pub end_left : {x : ℕ} → w.next < length bytes → x ≡ get_or bytes w.next 0 → Ends ty at n bytes i (Err (made.UnexpectedMark x))
    unfolding whole
    end_left l ex = left_is (front bytes w.next l) (λ vs k. ap (refused UnexpectedMark) ex)

    pub end_whole : length bytes ≤ w.next → Ends ty at n bytes i (Ok tt)
    unfolding whole
    end_whole l = left_is (drop_of_length-le bytes l) (λ vs k. refl)

-- Laws of searching a byte, and of lines and parts by the place of the first line feed or tab.
use Rattle.std.specs.Prelude.{Option, Some, None, is_some, unwrap_or, not, cond}
use Rattle.std.specs.List.{position, position_or_len}
use mathlib.Core.Path.{◌≡◌, refl, sym, ap, ◌∙◌}
use mathlib.Core.Bool.{Bool, true, false}
use mathlib.Core.List.{List, [], ◌∷◌}
use Prim.Native.Nat.{ℕ, suc, ◌+◌, ◌-◌, ◌≤◌, ◌<◌}
use native.Mathlib.Omega.{arith}
use borrow.Author.Tests.{eq-eqb, ne_eqb}
use lib.Dec.{ltb, eqb}
use lib.ListN.{length, take, drop, length-drop}
use lib.Seq.{drop-drop}
use Rattle.format.specs.Answer.{if}
use Rattle.format.specs.Keylist.{lines_of, longer, parts_of, widen}
use Rattle.format.proofs.Tests.{Test, holds, fails, ltb_test}
use Rattle.keylines.specs.Reasons.{has}
use Rattle.keylines.specs.Answers.{before, Found, FoundAt}

-- ---- before

-- here it is
before_here : (b x : ℕ) (xs : List ℕ) → x ≡ b → before b (x ∷ xs) ≡ []
unfolding before
before_here b x xs h = rw (eq-eqb x b h)

before_not : (b x : ℕ) (xs : List ℕ) → (x ≡ b → ⊥) → before b (x ∷ xs) ≡ x ∷ before b xs
unfolding before
before_not b x xs h = rw (ne_eqb x b h)

before_none : (b : ℕ) → before b [] ≡ []
unfolding before
before_none b = refl

before_is : (b : ℕ) (s : List ℕ) → take (length (before b s)) s ≡ before b s
unfolding before
before_is b [] = refl
before_is b (x ∷ xs) = go (eqb x b) (before_is b xs)
  where
    go : (t : Bool) → take (length (before b xs)) xs ≡ before b xs → take (length (if t [] (x ∷ before b xs))) (x ∷ xs) ≡ if t [] (x ∷ before b xs)
    go true ih = refl
    go false ih = ap (λ (l : List ℕ). x ∷ l) ih

before_short : (b : ℕ) (s : List ℕ) → length (before b s) ≤ length s
unfolding before
before_short b [] = omega arith
before_short b (x ∷ xs) = go (eqb x b) (before_short b xs)
  where
    go : (t : Bool) → length (before b xs) ≤ length xs → length (if t [] (x ∷ before b xs)) ≤ suc (length xs)
    go true ih = omega arith
    go false ih = omega arith

-- ---- find

-- the search from the front stops where `before` does
stops : (b : ℕ) (s : List ℕ) → position_or_len (λ x. eqb x b) s ≡ length (before b s)
unfolding before
stops b [] = refl
stops b (x ∷ xs) = go (eqb x b) (stops b xs)
  where
    go : (t : Bool) → position_or_len (λ x. eqb x b) xs ≡ length (before b xs)
        → cond (not t) (1 + position_or_len (λ x. eqb x b) xs) 0 ≡ length (if t [] (x ∷ before b xs))
    go true ih = refl
    go false ih = omega (arith, ih)

module _ (s : List ℕ) (at b : ℕ) (h : at ≤ length s) where
  -- where the search of what is behind stops
  abbrev stop : ℕ
  stop = position_or_len (λ x. eqb x b) (drop at s)

  pub found_some : {n : ℕ} → Some n ≡ position (λ x. eqb x b) (drop at s) → FoundAt s at b (Some (at + n))
  found_some {n} e = go (ltb stop (length (drop at s))) (ltb_test _ _) e
    where
      go : (t : Bool) → Test (stop < length (drop at s)) (length (drop at s) ≤ stop) t → Some n ≡ cond t (Some stop) None → FoundAt s at b (Some (at + n))
      go true (holds q) k =
          let e : n ≡ stop = cc in
          record {
            found = record { place = omega (arith, stops b (drop at s)); from = omega arith; within = omega (arith, length-drop at s) };
            inside = λ r z. let y : r ≡ at + n = cc in omega (arith, length-drop at s);
          }
      go false (fails q) k = cc

  pub found_none : None ≡ position (λ x. eqb x b) (drop at s) → FoundAt s at b None
  found_none e = go (ltb stop (length (drop at s))) (ltb_test _ _) e
    where
      go : (t : Bool) → Test (stop < length (drop at s)) (length (drop at s) ≤ stop) t → None ≡ cond t (Some stop) None → FoundAt s at b None
      go true (holds q) k = cc
      go false (fails q) k =
          record {
            found = record { place = omega (arith, stops b (drop at s), before_short b (drop at s), length-drop at s); from = h; within = omega arith };
            inside = λ r z. cc;
          }

-- the place found, or the end
module _ {s : List ℕ} {at b : ℕ} {o : Option ℕ} (f : FoundAt s at b o) where
  pub before_end : is_some o ≡ true → unwrap_or o (length s) < length s
  before_end h = go o h f.inside
    where
      go : (o : Option ℕ) → is_some o ≡ true → ((n : ℕ) → o ≡ Some n → n < length s) → unwrap_or o (length s) < length s
      go (Some n) h l = l n refl
      go None h l = cc

  pub at_end : is_some o ≡ false → unwrap_or o (length s) ≡ length s
  at_end h = go o h
    where
      go : (o : Option ℕ) → is_some o ≡ false → unwrap_or o (length s) ≡ length s
      go (Some n) h = cc
      go None h = refl

-- ---- lines

line_ended : (s : List ℕ) → length (before 10 s) < length s
    → lines_of s ≡ record { text = before 10 s; ended = true } ∷ lines_of (drop (suc (length (before 10 s))) s)
unfolding before lines_of
line_ended [] h = absurd (omega arith)
line_ended (x ∷ xs) h = go (eqb x 10) (line_ended xs) h
  where
    go : (t : Bool) → (length (before 10 xs) < length xs → lines_of xs ≡ record { text = before 10 xs; ended = true } ∷ lines_of (drop (suc (length (before 10 xs))) xs))
        → length (if t [] (x ∷ before 10 xs)) < suc (length xs)
        → if t (record { text = []; ended = true } ∷ lines_of xs) (longer x (lines_of xs))
        ≡ record { text = if t [] (x ∷ before 10 xs); ended = true } ∷ lines_of (drop (suc (length (if t [] (x ∷ before 10 xs)))) (x ∷ xs))
    go true ih k = refl
    go false ih k = ap (longer x) (ih (omega arith))

line_open : (s : List ℕ) → 0 < length s → length (before 10 s) ≡ length s → lines_of s ≡ record { text = s; ended = false } ∷ []
unfolding before lines_of
line_open [] pos h = absurd (omega arith)
line_open (x ∷ []) pos h = go (eqb x 10) h
  where
    go : (t : Bool) → length (if t [] (x ∷ [])) ≡ 1
        → if t (record { text = []; ended = true } ∷ []) (longer x []) ≡ record { text = x ∷ []; ended = false } ∷ []
    go true k = absurd (omega arith)
    go false k = refl
line_open (x ∷ y ∷ xs) pos h = go (eqb x 10) (line_open (y ∷ xs) (omega arith)) h
  where
    go : (t : Bool) → (length (before 10 (y ∷ xs)) ≡ length (y ∷ xs) → lines_of (y ∷ xs) ≡ record { text = y ∷ xs; ended = false } ∷ [])
        → length (if t [] (x ∷ before 10 (y ∷ xs))) ≡ suc (length (y ∷ xs))
        → if t (record { text = []; ended = true } ∷ lines_of (y ∷ xs)) (longer x (lines_of (y ∷ xs))) ≡ record { text = x ∷ y ∷ xs; ended = false } ∷ []
    go true ih k = absurd (omega arith)
    go false ih k = ap (longer x) (ih (omega arith))

-- ---- parts

part_ended : (s : List ℕ) → length (before 9 s) < length s → parts_of s ≡ before 9 s ∷ parts_of (drop (suc (length (before 9 s))) s)
unfolding before parts_of
part_ended [] h = absurd (omega arith)
part_ended (x ∷ xs) h = go (eqb x 9) (part_ended xs) h
  where
    go : (t : Bool) → (length (before 9 xs) < length xs → parts_of xs ≡ before 9 xs ∷ parts_of (drop (suc (length (before 9 xs))) xs))
        → length (if t [] (x ∷ before 9 xs)) < suc (length xs)
        → if t ([] ∷ parts_of xs) (widen x (parts_of xs)) ≡ if t [] (x ∷ before 9 xs) ∷ parts_of (drop (suc (length (if t [] (x ∷ before 9 xs)))) (x ∷ xs))
    go true ih k = refl
    go false ih k = ap (widen x) (ih (omega arith))

part_last : (s : List ℕ) → length (before 9 s) ≡ length s → parts_of s ≡ before 9 s ∷ []
unfolding before parts_of
part_last [] h = refl
part_last (x ∷ xs) h = go (eqb x 9) (part_last xs) h
  where
    go : (t : Bool) → (length (before 9 xs) ≡ length xs → parts_of xs ≡ before 9 xs ∷ []) → length (if t [] (x ∷ before 9 xs)) ≡ suc (length xs)
        → if t ([] ∷ parts_of xs) (widen x (parts_of xs)) ≡ if t [] (x ∷ before 9 xs) ∷ []
    go true ih k = absurd (omega arith)
    go false ih k = ap (widen x) (ih (omega arith))

-- ---- by places

module _ {s : List ℕ} {at b r : ℕ} (f : Found s at b r) where
  found_length : length (before b (drop at s)) ≡ r - at
  found_length = omega (arith, f.place)

  -- what stands before the place found
  found_text : take (r - at) (drop at s) ≡ before b (drop at s)
  found_text = ap (λ (n : ℕ). take n (drop at s)) (sym found_length) ∙ before_is b (drop at s)

  found_rest : drop (suc (length (before b (drop at s)))) (drop at s) ≡ drop (r + 1) s
  found_rest =
      let e : at + suc (length (before b (drop at s))) ≡ r + 1 = omega (arith, f.place) in
      drop-drop _ at s ∙ ap (λ (n : ℕ). drop n s) e

  short : length (drop at s) ≡ length s - at
  short = length-drop at s

module _ {s : List ℕ} {at r : ℕ} (f : Found s at 10 r) where
  pub line_here : r < length s → lines_of (drop at s) ≡ record { text = take (r - at) (drop at s); ended = true } ∷ lines_of (drop (r + 1) s)
  line_here h =
      line_ended (drop at s) (omega (arith, f.place, f.from, short f))
      ∙ (λ j. record { text = sym (found_text f) j; ended = true } ∷ lines_of (found_rest f j))

  pub line_left : at < length s → r ≡ length s → lines_of (drop at s) ≡ record { text = drop at s; ended = false } ∷ []
  line_left h e = line_open (drop at s) (omega (arith, short f)) (omega (arith, f.place, short f))

module _ {s : List ℕ} {at r : ℕ} (f : Found s at 9 r) where
  pub part_here : r < length s → parts_of (drop at s) ≡ take (r - at) (drop at s) ∷ parts_of (drop (r + 1) s)
  part_here h =
      part_ended (drop at s) (omega (arith, f.place, f.from, short f))
      ∙ (λ j. sym (found_text f) j ∷ parts_of (found_rest f j))

  pub part_left : r ≡ length s → parts_of (drop at s) ≡ take (r - at) (drop at s) ∷ []
  part_left e = part_last (drop at s) (omega (arith, f.place, f.from, short f)) ∙ ap (λ (p : List ℕ). p ∷ []) (sym (found_text f))

-- ---- whether a byte stands in a text

has_in : (b : ℕ) (s : List ℕ) → length (before b s) < length s → has b s ≡ true
unfolding has before
has_in b [] h = absurd (omega arith)
has_in b (x ∷ xs) h = go (eqb x b) (has_in b xs) h
  where
    go : (t : Bool) → (length (before b xs) < length xs → has b xs ≡ true) → length (if t [] (x ∷ before b xs)) < suc (length xs)
        → if t true (has b xs) ≡ true
    go true ih k = refl
    go false ih k = ih (omega arith)

has_not : (b : ℕ) (s : List ℕ) → length s ≤ length (before b s) → has b s ≡ false
unfolding has before
has_not b [] h = refl
has_not b (x ∷ xs) h = go (eqb x b) (has_not b xs) h
  where
    go : (t : Bool) → (length xs ≤ length (before b xs) → has b xs ≡ false) → suc (length xs) ≤ length (if t [] (x ∷ before b xs))
        → if t true (has b xs) ≡ false
    go true ih k = absurd (omega arith)
    go false ih k = ih (omega arith)

pub found_has : {s : List ℕ} {b : ℕ} {o : Option ℕ} → FoundAt s 0 b o → is_some o ≡ true → has b s ≡ true
found_has {s} {b} {o = Some r} f h = has_in b s (omega (arith, f.found.place, f.inside r refl))
found_has {s} {b} {o = None} f h = cc

pub found_has_not : {s : List ℕ} {b : ℕ} {o : Option ℕ} → FoundAt s 0 b o → is_some o ≡ false → has b s ≡ false
found_has_not {s} {b} {o = Some r} f h = cc
found_has_not {s} {b} {o = None} f h = has_not b s (omega (arith, f.found.place))

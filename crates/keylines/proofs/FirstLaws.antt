-- Laws of the first line: each reason, and that there is one exactly where the row of no type is written.
use Rattle.std.specs.Prelude.{Result, Ok, Err}
use Rattle.std.specs.Prelude as std
use mathlib.Core.Path.{◌≡◌, refl, sym, ap, subst, ◌∙◌}
use mathlib.Core.Bool.{Bool, true, false, ◌||◌}
use mathlib.Core.List.{List, [], ◌∷◌, ◌++◌}
use mathlib.Core.Option.{Option, some, none}
use Prim.Native.Nat.{ℕ, ◌+◌, ◌-◌, ◌*◌, ◌^◌, ◌≤◌, ◌<◌}
use native.Mathlib.Nat.{sub-zero}
use native.Mathlib.Omega.{arith}
use borrow.Author.Tests.{le-leb, lt-leb, eqb-true}
use lib.Dec.{leb, eqb}
use lib.ListN.{length, take, drop, get_or}
use Rattle.format.specs.Answer.{if, Answer, ok, refused}
use Rattle.format.specs.Utf8.{within}
use Rattle.format.specs.TypeSheet.{keep, is_some, type_of, type_at, whole, max_groups, max_type_words}
use Rattle.format.specs.Calls.{check_key_call}
use Rattle.format.specs.Keylist.{max_input, Line, lines_of, in_line, add, below, decimal_from, word_of, words_of, parts_of, widen, key_in, type_in}
use Rattle.format.specs.Keylist.{digits, decimal, row, answer_row, key_row, key_rows, no_type, under_type, rows, keylist}
use Rattle.keylines.specs.Reasons.{has, bad_word, admits, in_words, in_text, in_lines, reason}
use Rattle.keylines.specs.Answers.{FirstRead, Found, FoundAt, WordsRead, TypeTaken, TypedRead, Counts}
use Rattle.keylines.specs.declared.reason.Reason.{Reason}
use Rattle.keylines.proofs.TextLaws.{line_here, line_left, found_has, found_has_not}

-- ---- a bad word

-- where one is bad, there are no words
bad_none : (place : ℕ) (ps : List (List ℕ)) → is_some (bad_word place ps) ≡ true → words_of ps ≡ none
unfolding bad_word words_of
bad_none place [] h = let z : ◌≡◌ {A = ℕ} 0 1 = cc in absurd (omega arith)
bad_none place (p ∷ ps) h = go (word_of p) (bad_none (place + 1) ps) h
  where
    go : (w : Option ℕ) → (is_some (bad_word (place + 1) ps) ≡ true → words_of ps ≡ none) → is_some (if (is_some w) (bad_word (place + 1) ps) (some place)) ≡ true
        → add w (words_of ps) ≡ none
    go (some x) ih k = ap (add (some x)) (ih k)
    go none ih k = refl

bad_type : (text : List ℕ) → is_some (bad_word 1 (parts_of text)) ≡ true → type_in text ≡ none
unfolding type_in
bad_type text h = bad_none 1 (parts_of text) h

-- where there are words, none is bad
none_bad : (text ws : List ℕ) → type_in text ≡ some ws → bad_word 1 (parts_of text) ≡ none
none_bad text ws h = go (bad_word 1 (parts_of text)) refl
  where
    go : (o : Option ℕ) → bad_word 1 (parts_of text) ≡ o → o ≡ none
    go (some place) k =
        let no : type_in text ≡ none = bad_type text (ap is_some k) in
        let z : ◌≡◌ {A = ℕ} 0 1 = cc in absurd (omega arith)
    go none k = refl

-- ---- a carriage return

from_has : (n : ℕ) (s : List ℕ) → has 13 s ≡ true → decimal_from n s ≡ none
unfolding has decimal_from
from_has n [] h = let z : ◌≡◌ {A = ℕ} 0 1 = cc in absurd (omega arith)
from_has n (x ∷ s) h = go (eqb x 13) refl (from_has (n * 10 + (x - 0x30)) s) h
  where
    rest : (t : Bool) → decimal_from (n * 10 + (x - 0x30)) s ≡ none → if t (decimal_from (n * 10 + (x - 0x30)) s) none ≡ none
    rest true e = e
    rest false e = refl

    go : (t : Bool) → eqb x 13 ≡ t → (has 13 s ≡ true → decimal_from (n * 10 + (x - 0x30)) s ≡ none) → if t true (has 13 s) ≡ true
        → if (within 0x30 0x39 x) (decimal_from (n * 10 + (x - 0x30)) s) none ≡ none
    go true e ih k = ap (λ (y : ℕ). if (within 0x30 0x39 y) (decimal_from (n * 10 + (x - 0x30)) s) none) (eqb-true x 13 e)
    go false e ih k = rest (within 0x30 0x39 x) (ih k)

word_has : (p : List ℕ) → has 13 p ≡ true → word_of p ≡ none
unfolding word_of
word_has p h = ap (λ (o : Option ℕ). keep (within 1 10 (length p)) (below (2 ^ 32) o)) (from_has 0 p h) ∙ go (within 1 10 (length p))
  where
    go : (t : Bool) → keep {A = ℕ} t none ≡ none
    go true = refl
    go false = refl

-- in one of the parts
unfoldable any_has : List (List ℕ) → Bool
any_has [] = false
any_has (p ∷ ps) = has 13 p || any_has ps

words_has : (ps : List (List ℕ)) → any_has ps ≡ true → words_of ps ≡ none
unfolding any_has words_of
words_has [] h = let z : ◌≡◌ {A = ℕ} 0 1 = cc in absurd (omega arith)
words_has (p ∷ ps) h = go (has 13 p) refl (words_has ps) h
  where
    bad : (o : Option ℕ) → add {A = ℕ} o none ≡ none
    bad (some x) = refl
    bad none = refl

    go : (t : Bool) → has 13 p ≡ t → (any_has ps ≡ true → words_of ps ≡ none) → (t || any_has ps) ≡ true → add (word_of p) (words_of ps) ≡ none
    go true e ih k = ap (λ (o : Option ℕ). add o (words_of ps)) (word_has p e)
    go false e ih k = ap (add (word_of p)) (ih k) ∙ bad (word_of p)

widen_has : (x : ℕ) (ps : List (List ℕ)) → any_has (widen x ps) ≡ if (eqb x 13) true (any_has ps)
unfolding any_has has
widen_has x [] = go (eqb x 13)
  where
    go : (t : Bool) → (if t true false || false) ≡ if t true false
    go true = refl
    go false = refl
widen_has x (p ∷ ps) = go (eqb x 13)
  where
    go : (t : Bool) → (if t true (has 13 p) || any_has ps) ≡ if t true (has 13 p || any_has ps)
    go true = refl
    go false = refl

parts_has : (s : List ℕ) → has 13 s ≡ true → any_has (parts_of s) ≡ true
unfolding has parts_of any_has
parts_has [] h = let z : ◌≡◌ {A = ℕ} 0 1 = cc in absurd (omega arith)
parts_has (x ∷ s) h = go (eqb x 9) refl (parts_has s)
  where
    in_part : (t : Bool) → (has 13 s ≡ true → any_has (parts_of s) ≡ true) → if t true (has 13 s) ≡ true → if t true (any_has (parts_of s)) ≡ true
    in_part true ih k = refl
    in_part false ih k = ih k

    go : (t : Bool) → eqb x 9 ≡ t → (has 13 s ≡ true → any_has (parts_of s) ≡ true) → any_has (if t ([] ∷ parts_of s) (widen x (parts_of s))) ≡ true
    go true e ih = ih (sym (ap (λ (y : ℕ). if (eqb y 13) true (has 13 s)) (eqb-true x 9 e)) ∙ h)
    go false e ih = widen_has x (parts_of s) ∙ in_part (eqb x 13) ih h

return_none : (text : List ℕ) → has 13 text ≡ true → type_in text ≡ none
unfolding type_in
return_none text h = words_has (parts_of text) (parts_has text h)

-- ---- a reason, and the row of no type

-- a row of a key line begins with its place
rows_first : (ty : List ℕ) (ls : List Line) → key_rows ty 1 ls ≡ no_type → ⊥
unfolding key_rows no_type row decimal digits
rows_first ty [] h = let z : ◌≡◌ {A = ℕ} 0 9 = ap length h in omega arith
rows_first ty (l ∷ ls) h = go (in_line key_in l) h
  where
    one : ◌≡◌ {A = ℕ} 49 48 → ⊥
    one e = omega arith

    by : (a : Answer Unit) (begun : ℕ) → answer_row 1 a begun ++ key_rows ty (1 + 1) ls ≡ no_type → ⊥
    by (ok u) begun k = one (ap (λ (s : List ℕ). get_or s 0 0) k)
    by (refused n d) begun k = one (ap (λ (s : List ℕ). get_or s 0 0) k)

    go : (o : Option (List ℕ)) → key_row ty 1 o ++ key_rows ty (1 + 1) ls ≡ no_type → ⊥
    go (some key) k = by (check_key_call ty key).answer (check_key_call ty key).begun k
    go none k = one (ap (λ (s : List ℕ). get_or s 0 0) k)

-- a reason, and the row of no type; or none, and another answer
abbrev pub Agrees : Option Reason → List ℕ → Type 0
Agrees (some why) xs = xs ≡ no_type
Agrees none xs = xs ≡ no_type → ⊥

agrees_words : (o : Option (List ℕ)) (ls : List Line) → Agrees (in_words none (admits o)) (under_type o ls)
agrees_words (some ty) ls = go (is_some (type_of ty))
  where
    go : (t : Bool) → Agrees (in_words none t) (if t (key_rows ty 1 ls) no_type)
    go true = rows_first ty ls
    go false = refl
agrees_words none ls = refl

agrees_text : (text : List ℕ) (ls : List Line) → Agrees (in_text text) (under_type (type_in text) ls)
agrees_text text ls = go (has 13 text) refl
  where
    bad : (o : Option ℕ) → bad_word 1 (parts_of text) ≡ o → Agrees (in_words o (admits (type_in text))) (under_type (type_in text) ls)
    bad (some place) e = ap (λ (o : Option (List ℕ)). under_type o ls) (bad_type text (ap is_some e))
    bad none e = agrees_words (type_in text) ls

    go : (t : Bool) → has 13 text ≡ t
        → Agrees (if t (some Reason.CarriageReturn) (in_words (bad_word 1 (parts_of text)) (admits (type_in text)))) (under_type (type_in text) ls)
    go true e = ap (λ (o : Option (List ℕ)). under_type o ls) (return_none text e)
    go false e = bad (bad_word 1 (parts_of text)) refl

agrees_lines : (ls : List Line) → Agrees (in_lines ls) (rows ls)
agrees_lines [] = refl
agrees_lines (l ∷ ls) = go l.ended
  where
    go : (t : Bool) → Agrees (if t (in_text l.text) (some Reason.NoLine)) (under_type (keep t (type_in l.text)) ls)
    go true = agrees_text l.text ls
    go false = refl

pub agrees : (input : List ℕ) → Agrees (reason input) (keylist input)
unfolding reason keylist
agrees input = go (leb (length input) max_input)
  where
    go : (t : Bool) → Agrees (if t (in_lines (lines_of input)) (some Reason.TooLong)) (if t (rows (lines_of input)) no_type)
    go true = agrees_lines (lines_of input)
    go false = refl

-- ---- the text of a type

module _ {text : List ℕ} {o : std.Option ℕ} (f : FoundAt text 0 13 o) where
  by_return : (t : Bool) → has 13 text ≡ t → if t (some Reason.CarriageReturn) (in_words (bad_word 1 (parts_of text)) (admits (type_in text))) ≡ in_text text
  by_return t e = ap (λ (t : Bool). if t (some Reason.CarriageReturn) (in_words (bad_word 1 (parts_of text)) (admits (type_in text)))) (sym e)

  pub text_return : std.is_some o ≡ true → some Reason.CarriageReturn ≡ in_text text
  text_return h = by_return true (found_has f h)

  module _ (h : std.is_some o ≡ false) where
    no_return : in_words (bad_word 1 (parts_of text)) (admits (type_in text)) ≡ in_text text
    no_return = by_return false (found_has_not f h)

    -- words that are read
    are : (ws : List ℕ) → type_in text ≡ some ws → in_words none (is_some (type_of ws)) ≡ in_text text
    are ws e = sym (λ j. in_words (none_bad text ws e j) (admits (e j))) ∙ no_return

    -- why there are no words; what is admitted has at most 4,096
    pub text_why : {ty : List ℕ} (why : Reason) → WordsRead text ty (Err why) → max_type_words ≤ length ty → some why ≡ in_text text
    unfolding type_of
    text_why Reason.TooLong v size = absurd v.are
    text_why Reason.NoLine v size = absurd v.are
    text_why Reason.CarriageReturn v size = absurd v.are
    text_why (Reason.BadWord place) v size = ap (λ (o : Option ℕ). in_words o (admits (type_in text))) (sym v.are) ∙ no_return
    text_why Reason.NotAdmitted v size =
        let m = v.are in
        let over : leb (length m.words) max_type_words ≡ false = lt-leb (length m.words) max_type_words (omega (arith, m.many)) in
        ap (λ (t : Bool). in_words none (is_some (keep t (whole (type_at max_groups m.words))))) (sym over) ∙ are m.words m.are

    module _ {ty : List ℕ} {n : ℕ} (v : WordsRead text ty (Ok n)) where
      its : (type_in text ≡ some (take n ty)) × Counts n ty
      its = v.are

      module _ {q : Bool} (e : q ≡ is_some (type_of (take n ty))) where
        pub text_not_admitted : q ≡ false → some Reason.NotAdmitted ≡ in_text text
        text_not_admitted l = ap (in_words none) (sym l ∙ e) ∙ are (take n ty) its.0

        pub text_admitted : q ≡ true → (none ≡ in_text text) × TypeTaken text ty n
        text_admitted l =
            (ap (in_words none) (sym l ∙ e) ∙ are (take n ty) its.0, record { counts = its.1; words = its.0; admitted = sym e ∙ l })

-- ---- the first line

-- a reason is all that there is to show
first_none : {input buffer : List ℕ} {why : Reason} → some why ≡ reason input → FirstRead input buffer (Err why)
first_none {input} e = record { why = e; is = subst (λ (o : Option Reason). Agrees o (keylist input)) (sym e) (agrees input) }

pub too_long : {input buffer : List ℕ} → 65536 < length input → FirstRead input buffer (Err Reason.TooLong)
unfolding reason
too_long {input} h = first_none (ap (λ (t : Bool). if t (in_lines (lines_of input)) (some Reason.TooLong)) (sym (lt-leb (length input) max_input h)))

module _ (input : List ℕ) (short : length input ≤ 65536) where
  in_lines_lem : in_lines (lines_of input) ≡ reason input
  unfolding reason
  in_lines_lem = ap (λ (t : Bool). if t (in_lines (lines_of input)) (some Reason.TooLong)) (sym (le-leb (length input) max_input short))

  in_rows : keylist input ≡ rows (lines_of input)
  unfolding keylist
  in_rows = ap (λ (t : Bool). if t (rows (lines_of input)) no_type) (le-leb (length input) max_input short)

module _ {input : List ℕ} (short : length input ≤ 65536) where
  pub no_line : Found input 0 10 (length input) → {buffer : List ℕ} → FirstRead input buffer (Err Reason.NoLine)
  unfolding lines_of
  no_line f = first_none (sym (go input refl) ∙ in_lines_lem input short)
    where
      go : (s : List ℕ) → input ≡ s → in_lines (lines_of s) ≡ some Reason.NoLine
      go [] k = refl
      go (x ∷ s) k = sym (ap (λ (i : List ℕ). in_lines (lines_of i)) k) ∙ ap in_lines (line_left f (omega (arith, ap length k)) refl)

  module _ {feed : ℕ} (f : Found input 0 10 feed) (h : feed < length input) where
    first : lines_of input ≡ record { text = take feed input; ended = true } ∷ lines_of (drop (feed + 1) input)
    first = line_here f h ∙ ap (λ (k : ℕ). record { text = take k input; ended = true } ∷ lines_of (drop (feed + 1) input)) (sub-zero feed)

    -- the text's reason is the input's
    by_text : in_text (take feed input) ≡ reason input
    by_text = sym (ap in_lines first) ∙ in_lines_lem input short

    pub no_first : {buffer : List ℕ} {why : Reason} → TypedRead (take feed input) buffer (Err why) → FirstRead input buffer (Err why)
    no_first v = first_none (v.is ∙ by_text)

    pub a_first : {buffer : List ℕ} {n : ℕ} → TypedRead (take feed input) buffer (Ok n)
        → FirstRead input buffer (Ok (record { words = n; left = record { at = feed + 1; line = 1 } }))
    a_first {buffer} {n} v =
        let r = v.is in
        let ls = lines_of (drop (feed + 1) input) in
        record {
          why = r.0 ∙ by_text;
          is = record {
            counts = r.1.counts;
            asked = record { admitted = r.1.admitted; short = short; place = omega arith; low = omega arith };
            rows = in_rows input short ∙ ap rows first ∙ ap (λ (o : Option (List ℕ)). under_type o ls) r.1.words
                ∙ ap (λ (t : Bool). if t (key_rows (take n buffer) 1 ls) no_type) r.1.admitted;
          };
        }

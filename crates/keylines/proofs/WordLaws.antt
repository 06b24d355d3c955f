-- Laws of type words, and of where the first bad one stands.
use mathlib.Core.Path.{◌≡◌, refl, sym, ap, ◌∙◌}
use mathlib.Core.Bool.{Bool, true, false}
use mathlib.Core.List.{List, [], ◌∷◌, ◌++◌, append-nil}
use mathlib.Core.Option.{Option, some, none}
use Prim.Native.Nat.{ℕ, ◌+◌, ◌-◌, ◌*◌, ◌^◌, ◌≤◌, ◌<◌}
use native.Mathlib.Omega.{arith}
use borrow.Author.Tests.{lt-ltb, le-ltb}
use lib.Dec.{ltb}
use lib.ListN.{length, take, drop, get_or, set, length-append, length-set, drop_of_length-le}
use Rattle.format.specs.Answer.{if}
use Rattle.format.specs.Utf8.{within}
use Rattle.format.specs.TypeSheet.{keep, is_some}
use Rattle.format.specs.Keylist.{add, below, decimal_from, parts_of, word_of, words_of, type_in}
use Rattle.format.proofs.SheetPlaces.{front}
use Rattle.format.proofs.Tests.{Test, holds, fails, ltb_test}
use Rattle.keylines.specs.Reasons.{bad_word}
use Rattle.keylines.specs.Answers.{Counts, Found, decimal_digit, TooMany}
use Rattle.keylines.proofs.TextLaws.{part_here, part_left}
use Rattle.keylines.proofs.PairLaws.{ahead, ahead_nothing, ahead_snoc, take_more, counts, low_within, high_within, in_within}

-- ---- a word

pub word_empty : (s : List ℕ) → length s ≡ 0 → none ≡ word_of s
unfolding word_of
word_empty s h = rw (low_within 1 10 (length s) (omega arith))

pub word_long : (s : List ℕ) → 10 < length s → none ≡ word_of s
unfolding word_of
word_long s h = rw (high_within 1 10 (length s) (omega arith) h)

from_nil : (n : ℕ) → decimal_from n [] ≡ some n
unfolding decimal_from
from_nil n = refl

from_on : (n b : ℕ) (s : List ℕ) {d : ℕ} → some d ≡ decimal_digit b → decimal_from n (b ∷ s) ≡ decimal_from (n * 10 + d) s
unfolding decimal_from
from_on n b s {d} e = go (within 0x30 0x39 b) e
  where
    go : (t : Bool) → some d ≡ if t (some (b - 0x30)) none → if t (decimal_from (n * 10 + (b - 0x30)) s) none ≡ decimal_from (n * 10 + d) s
    go true e = let z : b - 0x30 ≡ d = cc in ap (λ (x : ℕ). decimal_from (n * 10 + x) s) z
    go false e = cc

from_bad : (n b : ℕ) (s : List ℕ) → none ≡ decimal_digit b → decimal_from n (b ∷ s) ≡ none
unfolding decimal_from
from_bad n b s e = go (within 0x30 0x39 b) e
  where
    go : (t : Bool) → none ≡ if t (some (b - 0x30)) none → if t (decimal_from (n * 10 + (b - 0x30)) s) none ≡ none
    go true e = cc
    go false e = refl

-- digits never make a number smaller, so one that is too large stays so
from_large : (m n : ℕ) (s : List ℕ) → m ≤ n → below m (decimal_from n s) ≡ none
unfolding decimal_from
from_large m n [] h = rw (le-ltb n m h)
from_large m n (b ∷ s) h = go (within 0x30 0x39 b) (from_large m (n * 10 + (b - 0x30)) s (omega arith))
  where
    go : (t : Bool) → below m (decimal_from (n * 10 + (b - 0x30)) s) ≡ none → below m (if t (decimal_from (n * 10 + (b - 0x30)) s) none) ≡ none
    go true ih = ih
    go false ih = refl

-- the first i digits are read as n
pub record DigitsRead (s : List ℕ) (n i : ℕ) : Type 0 where
  pub small : n < 4294967296
  pub read : decimal_from 0 s ≡ decimal_from n (drop i s)

pub word_start : (s : List ℕ) → DigitsRead s 0 0
word_start s = record { small = omega arith; read = refl }

module _ {s : List ℕ} {n i : ℕ} (v : DigitsRead s n i) where
  -- no word is read where what is left makes none of the number read
  no_word : below (2 ^ 32) (decimal_from n (drop i s)) ≡ none → none ≡ word_of s
  unfolding word_of
  no_word e = sym (ap (λ (o : Option ℕ). keep (within 1 10 (length s)) (below (2 ^ 32) o)) v.read ∙ ap (keep (within 1 10 (length s))) e ∙ go (within 1 10 (length s)))
    where
      go : (t : Bool) → keep {A = ℕ} t none ≡ none
      go true = refl
      go false = refl

  pub word_end : 1 ≤ length s → length s ≤ 10 → length s ≤ i → some n ≡ word_of s
  unfolding word_of
  word_end l h e =
      let k : decimal_from 0 s ≡ some n = v.read ∙ ap (decimal_from n) (drop_of_length-le s e) ∙ from_nil n in
      rw (in_within 1 10 (length s) l h, k, lt-ltb n (2 ^ 32) v.small)

  module _ (h : i < length s) where
    pub word_bad : none ≡ decimal_digit (get_or s i 0) → none ≡ word_of s
    word_bad e = no_word (ap (below (2 ^ 32)) (ap (decimal_from n) (front s i h) ∙ from_bad n _ _ e))

    module _ {d : ℕ} (e : some d ≡ decimal_digit (get_or s i 0)) where
      on : decimal_from n (drop i s) ≡ decimal_from (n * 10 + d) (drop (i + 1) s)
      on = ap (decimal_from n) (front s i h) ∙ from_on n _ _ e

      pub word_large : 4294967295 < n * 10 + d → none ≡ word_of s
      word_large large = no_word (ap (below (2 ^ 32)) on ∙ from_large (2 ^ 32) (n * 10 + d) (drop (i + 1) s) large)

      pub word_next : {m : ℕ} → m ≡ n * 10 + d → m < 4294967296 → DigitsRead s m (i + 1)
      word_next {m} k small = record { small = small; read = v.read ∙ on ∙ ap (λ (x : ℕ). decimal_from x (drop (i + 1) s)) (sym k) }

-- ---- words

words_one : (p : List ℕ) (ps : List (List ℕ)) → words_of (p ∷ ps) ≡ add (word_of p) (words_of ps)
unfolding words_of
words_one p ps = refl

words_none : words_of [] ≡ some []
unfolding words_of
words_none = refl

bad_one : (place : ℕ) (p : List ℕ) (ps : List (List ℕ)) → bad_word place (p ∷ ps) ≡ if (is_some (word_of p)) (bad_word (place + 1) ps) (some place)
unfolding bad_word
bad_one place p ps = refl

-- n words of the text are read, as many as fit stand in the buffer, and the text from start on is left
pub record WordsTaken (text ty : List ℕ) (start n : ℕ) : Type 0 where
  pub words : List ℕ
  pub count : n ≡ length words
  pub place : start ≤ length text
  pub few : n ≤ start
  pub stored : n ≤ length ty → take n ty ≡ words
  pub read : type_in text ≡ ahead words (type_in (drop start text))
  pub judged : bad_word 1 (parts_of text) ≡ bad_word (n + 1) (parts_of (drop start text))

pub words_start : (text ty : List ℕ) → WordsTaken text ty 0 0
words_start text ty =
    record { words = []; count = refl; place = omega arith; few = omega arith; stored = λ _. refl; read = sym (ahead_nothing (type_in text)); judged = refl }

-- all of them
pub record AllTaken (text ty : List ℕ) (n : ℕ) : Type 0 where
  pub words : List ℕ
  pub count : n ≡ length words
  pub stored : n ≤ length ty → take n ty ≡ words
  pub are : type_in text ≡ some words

pub all_many : {text ty : List ℕ} {n : ℕ} → AllTaken text ty n → length ty < n → TooMany text ty
all_many v h = record { words = v.words; are = v.are; many = omega (arith, v.count) }

pub all_fit : {text ty : List ℕ} {n : ℕ} → AllTaken text ty n → n ≤ length ty → (type_in text ≡ some (take n ty)) × Counts n ty
all_fit {text} {ty} {n} v h = (v.are ∙ ap some (sym (v.stored h)), counts n ty h)

module _ {text ty : List ℕ} {start n r : ℕ} (v : WordsTaken text ty start n) (f : Found text start 9 r) where
  abbrev part : List ℕ
  part = take (r - start) (drop start text)

  -- the part found, and those behind it
  behind : (ps : List (List ℕ)) × (parts_of (drop start text) ≡ part ∷ ps)
  behind = go (ltb r (length text)) (ltb_test r (length text))
    where
      go : (t : Bool) → Test (r < length text) (length text ≤ r) t → (ps : List (List ℕ)) × (parts_of (drop start text) ≡ part ∷ ps)
      go true (holds q) = (_, part_here f q)
      go false (fails q) = (_, part_left f (omega (arith, f.within)))

  pub words_bad : none ≡ word_of part → bad_word 1 (parts_of text) ≡ some (n + 1)
  words_bad e =
      v.judged ∙ ap (bad_word (n + 1)) behind.1 ∙ bad_one (n + 1) part behind.0
      ∙ ap (λ (o : Option ℕ). if (is_some o) (bad_word (n + 1 + 1) behind.0) (some (n + 1))) (sym e)

  module _ {x : ℕ} (its : some x ≡ word_of part) where
    -- the words with this one, and what is left
    more : (ps : List (List ℕ)) → parts_of (drop start text) ≡ part ∷ ps → type_in text ≡ ahead (v.words ++ (x ∷ [])) (words_of ps)
    unfolding type_in
    more ps k =
        v.read
        ∙ ap (ahead v.words) (ap words_of k ∙ words_one part ps ∙ ap (λ (o : Option ℕ). add o (words_of ps)) (sym its))
        ∙ ahead_snoc v.words x (words_of ps)

    counted : n + 1 ≡ length (v.words ++ (x ∷ []))
    counted = omega (arith, v.count, length-append v.words (x ∷ []))

    -- the buffer with this one
    module _ {after : List ℕ} (put : after ≡ set ty n x) where
      kept : n + 1 ≤ length after → take (n + 1) after ≡ v.words ++ (x ∷ [])
      kept k =
          let room : n < length ty = omega (arith, ap length put, length-set ty n x) in
          ap (take (n + 1)) put ∙ take_more ty n x room ∙ ap (λ (l : List ℕ). l ++ (x ∷ [])) (v.stored (omega arith))

      pub words_next : r < length text → WordsTaken text after (r + 1) (n + 1)
      unfolding type_in
      words_next k =
          record {
            words = v.words ++ (x ∷ []);
            count = counted;
            place = omega arith;
            few = omega (arith, v.few, f.from);
            stored = kept;
            read = more _ (part_here f k);
            judged =
                v.judged ∙ ap (bad_word (n + 1)) (part_here f k) ∙ bad_one (n + 1) part (parts_of (drop (r + 1) text))
                ∙ ap (λ (o : Option ℕ). if (is_some o) (bad_word (n + 1 + 1) (parts_of (drop (r + 1) text))) (some (n + 1))) (sym its);
          }

      pub words_end : r ≡ length text → AllTaken text after (n + 1)
      words_end k =
          record {
            words = v.words ++ (x ∷ []);
            count = counted;
            stored = kept;
            are = more _ (part_left f k) ∙ ap (ahead (v.words ++ (x ∷ []))) words_none ∙ ap some (append-nil (v.words ++ (x ∷ [])));
          }

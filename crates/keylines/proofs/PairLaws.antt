-- Laws of the pairs of hexadecimal digits.
use mathlib.Core.Path.{◌≡◌, refl, sym, ap, ◌∙◌}
use mathlib.Core.Bool.{Bool, true, false, ◌&&◌}
use mathlib.Core.List.{List, [], ◌∷◌, ◌++◌, append_assoc, append-nil}
use mathlib.Core.Option.{Option, some, none}
use Prim.Native.Nat.{ℕ, ◌+◌, ◌-◌, ◌*◌, ◌≤◌, ◌<◌}
use native.Mathlib.Omega.{arith}
use native.Mathlib.Numerals.{add-one}
use borrow.Author.Tests.{le-leb, lt-leb, leb-true}
use lib.Dec.{leb}
use lib.ListN.{length, take, get_or, set}
use lib.Seq.{take-suc-set, length-take-le}
use Rattle.format.specs.Answer.{if}
use Rattle.format.specs.Utf8.{within}
use Rattle.format.specs.Keylist.{add, pair, hex_digit, key_in}
use Rattle.keylines.specs.Answers.{Counts}

-- ---- a digit

pub low_within : (lo hi b : ℕ) → b < lo → within lo hi b ≡ false
low_within lo hi b h = rw (lt-leb lo b h)

pub high_within : (lo hi b : ℕ) → lo ≤ b → hi < b → within lo hi b ≡ false
high_within lo hi b k h = rw (le-leb lo b k, lt-leb b hi h)

pub in_within : (lo hi b : ℕ) → lo ≤ b → b ≤ hi → within lo hi b ≡ true
in_within lo hi b k h = rw (le-leb lo b k, le-leb b hi h)

within_both : (lo hi b : ℕ) → within lo hi b ≡ true → (lo ≤ b) × (b ≤ hi)
within_both lo hi b e = go (leb lo b) refl e
  where
    go : (t : Bool) → leb lo b ≡ t → (t && leb b hi) ≡ true → (lo ≤ b) × (b ≤ hi)
    go true p e = (leb-true lo b p, leb-true b hi e)
    go false p e = cc

-- ---- pairs

-- what was read, in front of what is still to be read
abbrev pub ahead : {A : Type 0} → List A → Option (List A) → Option (List A)
ahead xs (some ys) = some (xs ++ ys)
ahead xs none = none

pub ahead_nothing : {A : Type 0} (o : Option (List A)) → ahead [] o ≡ o
ahead_nothing (some ys) = refl
ahead_nothing none = refl

-- one element more
pub ahead_snoc : {A : Type 0} (xs : List A) (x : A) (o : Option (List A)) → ahead xs (add (some x) o) ≡ ahead (xs ++ (x ∷ [])) o
ahead_snoc xs x (some ys) = ap some (sym (append_assoc xs (x ∷ []) ys))
ahead_snoc xs x none = refl

-- stored behind those that were read
pub take_more : (buf : List ℕ) (n x : ℕ) → n < length buf → take (n + 1) (set buf n x) ≡ take n buf ++ (x ∷ [])
take_more buf n x h = ap (λ (k : ℕ). take k (set buf n x)) (add-one n) ∙ take-suc-set buf n x h

pair_none : (o : Option ℕ) → pair o none ≡ none
pair_none (some h) = refl
pair_none none = refl

key_nil : key_in [] ≡ some []
unfolding key_in
key_nil = refl

key_one : (a : ℕ) → key_in (a ∷ []) ≡ none
unfolding key_in
key_one a = refl

key_two : (a b : ℕ) (s : List ℕ) → key_in (a ∷ b ∷ s) ≡ add (pair (hex_digit a) (hex_digit b)) (key_in s)
unfolding key_in
key_two a b s = refl

-- n pairs of the text are read into the buffer, and the rest is left
pub record PairsRead (text buf rest : List ℕ) (n : ℕ) : Type 0 where
  pub long : length text ≡ n * 2 + length rest
  pub read : key_in text ≡ ahead (take n buf) (key_in rest)

pub pairs_start : (text buf : List ℕ) → PairsRead text buf text 0
pairs_start text buf = record { long = omega arith; read = sym (ahead_nothing (key_in text)) }

module _ {text buf rest : List ℕ} {n : ℕ} (v : PairsRead text buf rest n) where
  -- what is left is no key
  bad : key_in rest ≡ none → none ≡ key_in text
  bad e = sym (v.read ∙ ap (ahead (take n buf)) e)

  pub pairs_end : length rest ≡ 0 → some (take n buf) ≡ key_in text
  pairs_end h =
      sym (v.read ∙ ap (λ (s : List ℕ). ahead (take n buf) (key_in s)) (nothing rest h)
      ∙ ap (ahead (take n buf)) key_nil ∙ ap some (append-nil (take n buf)))
    where
      nothing : (s : List ℕ) → length s ≡ 0 → s ≡ []
      nothing [] h = refl
      nothing (x ∷ s) h = cc

  pub pairs_odd : length rest ≡ 1 → none ≡ key_in text
  pairs_odd h = bad (one rest h)
    where
      one : (s : List ℕ) → length s ≡ 1 → key_in s ≡ none
      one [] h = cc
      one (x ∷ []) h = key_one x
      one (x ∷ y ∷ s) h = absurd (omega arith)

  module _ {a b : ℕ} {rest' : List ℕ} (e : rest ≡ a ∷ b ∷ rest') where
    two : key_in rest ≡ add (pair (hex_digit a) (hex_digit b)) (key_in rest')
    two = ap key_in e ∙ key_two a b rest'

    -- a pair that is none
    pub pairs_high : none ≡ hex_digit a → none ≡ key_in text
    pairs_high h = bad (two ∙ ap (λ (o : Option ℕ). add (pair o (hex_digit b)) (key_in rest')) (sym h))

    pub pairs_low : none ≡ hex_digit b → none ≡ key_in text
    pairs_low h = bad (two ∙ ap (λ (o : Option ℕ). add o (key_in rest')) (ap (pair (hex_digit a)) (sym h) ∙ pair_none (hex_digit a)))

    pub pairs_next : {d f : ℕ} → some d ≡ hex_digit a → some f ≡ hex_digit b → n < length buf → PairsRead text (set buf n (d * 16 + f)) rest' (n + 1)
    pairs_next {d} {f} ed ef room =
        record {
          long = omega (arith, v.long, ap length e);
          read =
              v.read
              ∙ ap (ahead (take n buf)) (two ∙ (λ j. add (pair (sym ed j) (sym ef j)) (key_in rest')))
              ∙ ahead_snoc (take n buf) (d * 16 + f) (key_in rest')
              ∙ ap (λ (l : List ℕ). ahead l (key_in rest')) (sym (take_more buf n (d * 16 + f) room));
        }

-- the two digits at the front of what is left
pub two_front : {rest : List ℕ} (p r : List ℕ) → rest ≡ p ++ r → length p ≡ 2 → rest ≡ get_or p 0 0 ∷ get_or p 1 0 ∷ r
two_front p r e h = e ∙ go p h
  where
    go : (p : List ℕ) → length p ≡ 2 → p ++ r ≡ get_or p 0 0 ∷ get_or p 1 0 ∷ r
    go [] h = absurd (omega arith)
    go (a ∷ []) h = absurd (omega arith)
    go (a ∷ b ∷ []) h = refl
    go (a ∷ b ∷ d ∷ p) h = absurd (omega arith)

-- a digit is at most 15
pub digit_small : (b d : ℕ) → some d ≡ hex_digit b → d ≤ 15
unfolding hex_digit
digit_small b d e = go (within 0x30 0x39 b) refl (within 0x61 0x66 b) refl e
  where
    go : (t : Bool) → within 0x30 0x39 b ≡ t → (u : Bool) → within 0x61 0x66 b ≡ u → some d ≡ if t (some (b - 0x30)) (if u (some (b - 0x61 + 10)) none) → d ≤ 15
    go true p u q e = let z : d ≡ b - 0x30 = cc in omega (arith, (within_both 0x30 0x39 b p).1)
    go false p true q e = let z : d ≡ b - 0x61 + 10 = cc in omega (arith, (within_both 0x61 0x66 b q).1)
    go false p false q e = cc

-- a count of what was read
pub counts : (n : ℕ) (buf : List ℕ) → n ≤ length buf → Counts n buf
counts n buf h = (h, sym (length-take-le n buf h))

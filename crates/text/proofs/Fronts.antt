-- The character at the front of bytes: how wide it is, and which bytes it depends on.
use Prim.Native.Nat.{ℕ, zero, suc, ◌+◌, ◌≤◌, ◌<◌}
use mathlib.Core.List.{List, [], ◌∷◌, ◌++◌}
use mathlib.Core.Bool.{Bool, true, false, and-false}
use mathlib.Core.Path.{◌≡◌, refl, ap}
use native.Mathlib.Omega.{arith}
use lib.Dec.{ltb}
use lib.ListN.{length, take}
use lib.Seq.{take-nil}
use Rattle.format.specs.Utf8.{Char, char, none, when, first_char, second, third, fourth, width_of, lead3, lead4, is2, is3, is4, code2, code3, code4}

-- ---- a character is within the bytes

either : (t : Bool) (w k : ℕ) (y : Char) (n : ℕ) → w ≤ n → width_of y ≤ n → width_of (when t (char w k) y) ≤ n
either true w k y n a b = a
either false w k y n a b = b

fourth_fits : (a b c : ℕ) (r : List ℕ) → width_of (fourth a b c r) ≤ 3 + length r
unfolding fourth
fourth_fits a b c [] = omega arith
fourth_fits a b c (d ∷ r) =
    let h : 4 ≤ 3 + length (d ∷ r) = omega arith in
    let k : 0 ≤ 3 + length (d ∷ r) = omega arith in
    either (is4 a b c d) 4 (code4 a b c d) none (3 + length (d ∷ r)) h k

third_fits : (a b : ℕ) (r : List ℕ) → width_of (third a b r) ≤ 2 + length r
unfolding third
third_fits a b [] = omega arith
third_fits a b (c ∷ r) =
    let h : 3 ≤ 2 + length (c ∷ r) = omega arith in
    let k : width_of (fourth a b c r) ≤ 2 + length (c ∷ r) = omega (arith, fourth_fits a b c r) in
    either (is3 a b c) 3 (code3 a b c) (fourth a b c r) (2 + length (c ∷ r)) h k

second_fits : (a : ℕ) (r : List ℕ) → width_of (second a r) ≤ 1 + length r
unfolding second
second_fits a [] = omega arith
second_fits a (b ∷ r) =
    let h : 2 ≤ 1 + length (b ∷ r) = omega arith in
    let k : width_of (third a b r) ≤ 1 + length (b ∷ r) = omega (arith, third_fits a b r) in
    either (is2 a b) 2 (code2 a b) (third a b r) (1 + length (b ∷ r)) h k

pub width_fits : (s : List ℕ) → width_of (first_char s) ≤ length s
unfolding first_char
width_fits [] = omega arith
width_fits (a ∷ r) =
    let h : 1 ≤ length (a ∷ r) = omega arith in
    let k : width_of (second a r) ≤ length (a ∷ r) = omega (arith, second_fits a r) in
    either (ltb a 0x80) 1 a (second a r) (length (a ∷ r)) h k

-- ---- it is at least one byte wide

chosen : (t : Bool) (w j n k : ℕ) (y : Char) → 0 < w → (char n k ≡ y → 0 < n) → char n k ≡ when t (char w j) y → 0 < n
chosen true w j n k y l f e = let q : n ≡ w = cc in omega arith
chosen false w j n k y l f e = f e

fourth_wide : (a b c : ℕ) (r : List ℕ) (n k : ℕ) → char n k ≡ fourth a b c r → 0 < n
unfolding fourth
fourth_wide a b c [] n k e = cc
fourth_wide a b c (d ∷ r) n k e = chosen (is4 a b c d) 4 (code4 a b c d) n k none (omega arith) (λ z. cc) e

third_wide : (a b : ℕ) (r : List ℕ) (n k : ℕ) → char n k ≡ third a b r → 0 < n
unfolding third
third_wide a b [] n k e = cc
third_wide a b (c ∷ r) n k e = chosen (is3 a b c) 3 (code3 a b c) n k (fourth a b c r) (omega arith) (fourth_wide a b c r n k) e

second_wide : (a : ℕ) (r : List ℕ) (n k : ℕ) → char n k ≡ second a r → 0 < n
unfolding second
second_wide a [] n k e = cc
second_wide a (b ∷ r) n k e = chosen (is2 a b) 2 (code2 a b) n k (third a b r) (omega arith) (third_wide a b r n k) e

pub char_wide : (s : List ℕ) (n k : ℕ) → char n k ≡ first_char s → 0 < n
unfolding first_char
char_wide [] n k e = cc
char_wide (a ∷ r) n k e = chosen (ltb a 0x80) 1 a n k (second a r) (omega arith) (second_wide a r n k) e

-- ---- it depends on no byte behind it

-- a case that the bytes left are too few for, and a case that they decide
cut : (t : Bool) (w k n : ℕ) (x y : Char) → n < w → (width_of y ≤ n → x ≡ y) → width_of (when t (char w k) y) ≤ n → x ≡ when t (char w k) y
cut true w k n x y l f h = absurd (omega arith)
cut false w k n x y l f h = f h

decided : (t : Bool) (w k n : ℕ) (x y : Char) → (width_of y ≤ n → x ≡ y) → width_of (when t (char w k) y) ≤ n → when t (char w k) x ≡ when t (char w k) y
decided true w k n x y f h = refl
decided false w k n x y f h = f h

fourth_take : (a b c w : ℕ) (r : List ℕ) → width_of (fourth a b c r) ≤ 3 + w → fourth a b c (take w r) ≡ fourth a b c r
unfolding fourth
fourth_take a b c w [] h = rw (take-nil w)
fourth_take a b c zero (d ∷ r) h = cut (is4 a b c d) 4 (code4 a b c d) 3 none none (omega arith) (λ q. refl) (omega arith)
fourth_take a b c (suc w) (d ∷ r) h = refl

third_take : (a b w : ℕ) (r : List ℕ) → width_of (third a b r) ≤ 2 + w → third a b (take w r) ≡ third a b r
unfolding third fourth
third_take a b w [] h = rw (take-nil w)
third_take a b zero (c ∷ r) h = cut (is3 a b c) 3 (code3 a b c) 2 none (fourth a b c r) (omega arith) (λ q. fourth_take a b c 0 r (omega arith)) (omega arith)
third_take a b (suc w) (c ∷ r) h =
    decided (is3 a b c) 3 (code3 a b c) (2 + suc w) (fourth a b c (take w r)) (fourth a b c r) (λ q. fourth_take a b c w r (omega arith)) h

second_take : (a w : ℕ) (r : List ℕ) → width_of (second a r) ≤ 1 + w → second a (take w r) ≡ second a r
unfolding second third
second_take a w [] h = rw (take-nil w)
second_take a zero (b ∷ r) h = cut (is2 a b) 2 (code2 a b) 1 none (third a b r) (omega arith) (λ q. third_take a b 0 r (omega arith)) (omega arith)
second_take a (suc w) (b ∷ r) h =
    decided (is2 a b) 2 (code2 a b) (1 + suc w) (third a b (take w r)) (third a b r) (λ q. third_take a b w r (omega arith)) h

pub char_take : (w : ℕ) (s : List ℕ) → width_of (first_char s) ≤ w → first_char (take w s) ≡ first_char s
unfolding first_char second
char_take w [] h = rw (take-nil w)
char_take zero (a ∷ r) h = cut (ltb a 0x80) 1 a 0 none (second a r) (omega arith) (λ q. second_take a 0 r (omega arith)) h
char_take (suc w) (a ∷ r) h = decided (ltb a 0x80) 1 a (suc w) (second a (take w r)) (second a r) (λ q. second_take a w r (omega arith)) h

-- bytes behind a character change nothing
there : (t : Bool) (w k : ℕ) (x y : Char) → ((width_of y ≡ 0 → ⊥) → x ≡ y) → (width_of (when t (char w k) y) ≡ 0 → ⊥) → when t (char w k) x ≡ when t (char w k) y
there true w k x y f h = refl
there false w k x y f h = f h

fourth_append : (a b c : ℕ) (r t : List ℕ) → (width_of (fourth a b c r) ≡ 0 → ⊥) → fourth a b c (r ++ t) ≡ fourth a b c r
unfolding fourth
fourth_append a b c [] t h = absurd (h refl)
fourth_append a b c (d ∷ r) t h = refl

third_append : (a b : ℕ) (r t : List ℕ) → (width_of (third a b r) ≡ 0 → ⊥) → third a b (r ++ t) ≡ third a b r
unfolding third
third_append a b [] t h = absurd (h refl)
third_append a b (c ∷ r) t h = there (is3 a b c) 3 (code3 a b c) (fourth a b c (r ++ t)) (fourth a b c r) (fourth_append a b c r t) h

second_append : (a : ℕ) (r t : List ℕ) → (width_of (second a r) ≡ 0 → ⊥) → second a (r ++ t) ≡ second a r
unfolding second
second_append a [] t h = absurd (h refl)
second_append a (b ∷ r) t h = there (is2 a b) 2 (code2 a b) (third a b (r ++ t)) (third a b r) (third_append a b r t) h

pub char_append : (s t : List ℕ) → (width_of (first_char s) ≡ 0 → ⊥) → first_char (s ++ t) ≡ first_char s
unfolding first_char
char_append [] t h = absurd (h refl)
char_append (a ∷ r) t h = there (ltb a 0x80) 1 a (second a (r ++ t)) (second a r) (second_append a r t) h

-- ---- a 00 is never inside a character

no_lead3 : (a : ℕ) → lead3 a 0 ≡ false
unfolding lead3
no_lead3 a = simp and-false

no_lead4 : (a : ℕ) → lead4 a 0 ≡ false
unfolding lead4
no_lead4 a = simp and-false

fourth_b0 : (a c : ℕ) (t : List ℕ) → fourth a 0 c t ≡ none
unfolding fourth
fourth_b0 a c [] = refl
fourth_b0 a c (d ∷ t) = rw (no_lead4 a)

fourth_c0 : (a b : ℕ) (t : List ℕ) → fourth a b 0 t ≡ none
unfolding fourth
fourth_c0 a b [] = refl
fourth_c0 a b (d ∷ t) = simp and-false

fourth_zero : (a b c : ℕ) (r t : List ℕ) → fourth a b c (r ++ 0 ∷ t) ≡ fourth a b c r
unfolding fourth
fourth_zero a b c [] t = simp and-false
fourth_zero a b c (d ∷ r) t = refl

third_b0 : (a : ℕ) (t : List ℕ) → third a 0 t ≡ none
unfolding third
third_b0 a [] = refl
third_b0 a (c ∷ t) = rw (no_lead3 a) (fourth_b0 a c t)

third_zero : (a b : ℕ) (r t : List ℕ) → third a b (r ++ 0 ∷ t) ≡ third a b r
unfolding third
third_zero a b [] t = simp and-false (fourth_c0 a b t)
third_zero a b (c ∷ r) t = ap (when (is3 a b c) (char 3 (code3 a b c))) (fourth_zero a b c r t)

second_zero : (a : ℕ) (r t : List ℕ) → second a (r ++ 0 ∷ t) ≡ second a r
unfolding second
second_zero a [] t = simp and-false (third_b0 a t)
second_zero a (b ∷ r) t = ap (when (is2 a b) (char 2 (code2 a b))) (third_zero a b r t)

pub char_zero : (b : ℕ) (r t : List ℕ) → first_char (b ∷ (r ++ 0 ∷ t)) ≡ first_char (b ∷ r)
unfolding first_char
char_zero b r t = ap (when (ltb b 0x80) (char 1 b)) (second_zero b r t)

-- Tests and what they say: a test's answer with its fact, and conditionals that did not refuse.
use mathlib.Core.Path.{◌≡◌, refl}
use mathlib.Core.Logic.{◌≢◌}
use mathlib.Core.Bool.{Bool, true, false}
use Prim.Native.Nat.{ℕ, suc, ◌≤◌, ◌<◌}
use native.Mathlib.Omega.{arith}
use lib.Dec.{ltb, leb, eqb}
use Rattle.format.specs.Answer.{if}
use Rattle.format.proofs.CompareLaws.{less, more, alike, Tri, lower, equal, higher, tri}

-- a test's answer, with what it says
pub data Test (P Q : Type 0) : Bool → Type 0 where
  holds : P → Test P Q true
  fails : Q → Test P Q false

pub leb_test : (m n : ℕ) → Test (m ≤ n) (n < m) (leb m n)
leb_test m n = go (tri m n)
  where
    go : Tri m n → Test (m ≤ n) (n < m) (leb m n)
    go (lower h) = rw (less h) (holds (omega arith))
    go (equal e) = rw (e, alike n) (holds (omega arith))
    go (higher h) = rw (more h) (fails h)

pub ltb_test : (m n : ℕ) → Test (m < n) (n ≤ m) (ltb m n)
ltb_test m n = go (tri (suc m) n)
  where
    go : Tri (suc m) n → Test (m < n) (n ≤ m) (ltb m n)
    go (lower h) = rw (less h) (holds (omega arith))
    go (equal e) = rw (e, alike n) (holds (omega arith))
    go (higher h) = rw (more h) (fails (omega arith))

pub eqb_test : (m n : ℕ) → Test (m ≡ n) (m ≢ n) (eqb m n)
eqb_test m n = go (tri m n)
  where
    go : Tri m n → Test (m ≡ n) (m ≢ n) (eqb m n)
    go (lower h) = rw (less h) (fails (omega arith))
    go (equal e) = rw (e, alike n) (holds refl)
    go (higher h) = rw (more h) (fails (omega arith))

pub bool_test : (b : Bool) → Test (b ≡ true) (b ≡ false) b
bool_test true = holds refl
bool_test false = fails refl

-- ---- what a test answers

yes : {P Q : Type 0} {b : Bool} → Test P Q b → (Q → ⊥) → b ≡ true
yes (holds p) h = refl
yes (fails q) h = absurd (h q)

not_so : {P Q : Type 0} {b : Bool} → Test P Q b → (P → ⊥) → b ≡ false
not_so (holds p) h = absurd (h p)
not_so (fails q) h = refl

pub leb_yes : (m n : ℕ) → m ≤ n → leb m n ≡ true
leb_yes m n h = yes (leb_test m n) (λ q. omega arith)

pub leb_no : (m n : ℕ) → n < m → leb m n ≡ false
leb_no m n h = not_so (leb_test m n) (λ q. omega arith)

pub ltb_yes : (m n : ℕ) → m < n → ltb m n ≡ true
ltb_yes m n h = yes (ltb_test m n) (λ q. omega arith)

pub ltb_no : (m n : ℕ) → n ≤ m → ltb m n ≡ false
ltb_no m n h = not_so (ltb_test m n) (λ q. omega arith)

pub eqb_yes : (m n : ℕ) → m ≡ n → eqb m n ≡ true
eqb_yes m n h = yes (eqb_test m n) (λ q. q h)

pub eqb_no : (m n : ℕ) → m ≢ n → eqb m n ≡ false
eqb_no m n h = not_so (eqb_test m n) h

-- ---- conditionals: the test held, where the other branch cannot be the answer

pub passed : {P Q X : Type 0} {b : Bool} (x y : X) {z : X} → Test P Q b → (y ≡ z → ⊥) → if b x y ≡ z → P × (x ≡ z)
passed x y (holds p) no_way e = (p, e)
passed x y (fails q) no_way e = absurd (no_way e)

pub failed : {P Q X : Type 0} {b : Bool} (x y : X) {z : X} → Test P Q b → (x ≡ z → ⊥) → if b x y ≡ z → Q × (y ≡ z)
failed x y (holds p) no_way e = absurd (no_way e)
failed x y (fails q) no_way e = (q, e)

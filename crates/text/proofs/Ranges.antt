-- The ranges of bytes: what bounds say of a test, and the bounds that a test gives.
use Prim.Native.Nat.{ℕ, ◌≤◌, ◌<◌}
use mathlib.Core.Bool.{Bool, true, false, ◌&&◌, ◌||◌, or-false}
use mathlib.Core.Logic.{◌⊎◌, inl, inr, ⊎_elim}
use mathlib.Core.Path.{◌≡◌, refl, sym, ◌∙◌}
use native.Mathlib.Omega.{arith}
use lib.Dec.{leb, eqb}
use borrow.Author.Tests.{le-leb, lt-leb, ne_eqb, leb-true, leb-false, eqb-true}
use Rattle.format.specs.Utf8.{within, is_tail, lead3, lead4, is2, is3, is4}

pub inside : (lo hi b : ℕ) → lo ≤ b → b ≤ hi → within lo hi b ≡ true
inside lo hi b l h = rw (le-leb lo b l, le-leb b hi h)

pub below : (lo hi b : ℕ) → b < lo → within lo hi b ≡ false
below lo hi b h = rw (lt-leb lo b h)

pub above : (lo hi b : ℕ) → hi < b → within lo hi b ≡ false
above lo hi b h = go (leb lo b)
  where
    go : (x : Bool) → (x && leb b hi) ≡ false
    go true = lt-leb b hi h
    go false = refl

module _ (a b : ℕ) where
  pub lead3_plain : (a ≡ 0xE0 → ⊥) → (a ≡ 0xED → ⊥) → 0xE1 ≤ a → a ≤ 0xEF → is_tail b ≡ lead3 a b
  unfolding lead3
  lead3_plain n m l h = go (leb a 0xEC) refl
    where
      go : (x : Bool) → leb a 0xEC ≡ x → is_tail b ≡ lead3 a b
      go true e =
          let k = leb-true a 0xEC e in
          rw (ne_eqb a 0xE0 n, inside 0xE1 0xEC a l k, ne_eqb a 0xED m, below 0xEE 0xEF a (omega arith)) (simp or-false)
      go false e =
          let k = leb-false a 0xEC e in
          rw (ne_eqb a 0xE0 n, above 0xE1 0xEC a k, ne_eqb a 0xED m, inside 0xEE 0xEF a (omega arith) h)

-- bounds from tests that held
and_both : (x y : Bool) → (x && y) ≡ true → (x ≡ true) × (y ≡ true)
and_both true y e = (refl, e)
and_both false y e = let z : ◌≡◌ {A = ℕ} 0 1 = cc in absurd (omega arith)

or_one : (x y : Bool) → (x || y) ≡ true → (x ≡ true) ⊎ (y ≡ true)
or_one true y e = inl refl
or_one false y e = inr e

within_both : (lo hi b : ℕ) → within lo hi b ≡ true → (lo ≤ b) × (b ≤ hi)
within_both lo hi b e = let f = and_both (leb lo b) (leb b hi) e in (leb-true lo b f.0, leb-true b hi f.1)

both : (a b lo hi l h : ℕ) (x : Bool) → ((x ≡ true) → (lo ≤ a) × (a ≤ hi)) → 0x80 ≤ l → h ≤ 0xBF → (x && within l h b) ≡ true → (lo ≤ a) × (a ≤ hi) × (0x80 ≤ b) × (b ≤ 0xBF)
both a b lo hi l h x f p q e =
    let k = and_both x (within l h b) e in
    let m = f k.0 in
    let n = within_both l h b k.1 in
    (m.0, m.1, omega (arith, n.0), omega (arith, n.1))

pub bounds2 : (a b : ℕ) {r : Bool} → r ≡ is2 a b → r ≡ true → (0xC2 ≤ a) × (a ≤ 0xDF) × (0x80 ≤ b) × (b ≤ 0xBF)
bounds2 a b e t = both a b 0xC2 0xDF 0x80 0xBF (within 0xC2 0xDF a) (within_both 0xC2 0xDF a) (omega arith) (omega arith) (sym e ∙ t)

lead3_bounds : (a b : ℕ) → lead3 a b ≡ true → (0xE0 ≤ a) × (a ≤ 0xEF) × (0x80 ≤ b) × (b ≤ 0xBF)
unfolding lead3
lead3_bounds a b e =
    ⊎_elim
    (λ e3. ⊎_elim
    (λ e2. ⊎_elim
    (λ e1. both a b 0xE0 0xEF 0xA0 0xBF (eqb a 0xE0) (λ z. let y = eqb-true a 0xE0 z in (omega arith, omega arith)) (omega arith) (omega arith) e1)
    (λ e1. both a b 0xE0 0xEF 0x80 0xBF (within 0xE1 0xEC a) (λ z. let y = within_both 0xE1 0xEC a z in (omega (arith, y.0), omega (arith, y.1))) (omega arith) (omega arith) e1)
    (or_one _ _ e2))
    (λ e2. both a b 0xE0 0xEF 0x80 0x9F (eqb a 0xED) (λ z. let y = eqb-true a 0xED z in (omega arith, omega arith)) (omega arith) (omega arith) e2)
    (or_one _ _ e3))
    (λ e3. both a b 0xE0 0xEF 0x80 0xBF (within 0xEE 0xEF a) (λ z. let y = within_both 0xEE 0xEF a z in (omega (arith, y.0), omega (arith, y.1))) (omega arith) (omega arith) e3)
    (or_one _ _ e)

lead4_bounds : (a b : ℕ) → lead4 a b ≡ true → (0xF0 ≤ a) × (a ≤ 0xF4) × (0x80 ≤ b) × (b ≤ 0xBF)
unfolding lead4
lead4_bounds a b e =
    ⊎_elim
    (λ e2. ⊎_elim
    (λ e1. both a b 0xF0 0xF4 0x90 0xBF (eqb a 0xF0) (λ z. let y = eqb-true a 0xF0 z in (omega arith, omega arith)) (omega arith) (omega arith) e1)
    (λ e1. both a b 0xF0 0xF4 0x80 0xBF (within 0xF1 0xF3 a) (λ z. let y = within_both 0xF1 0xF3 a z in (omega (arith, y.0), omega (arith, y.1))) (omega arith) (omega arith) e1)
    (or_one _ _ e2))
    (λ e2. both a b 0xF0 0xF4 0x80 0x8F (eqb a 0xF4) (λ z. let y = eqb-true a 0xF4 z in (omega arith, omega arith)) (omega arith) (omega arith) e2)
    (or_one _ _ e)

pub bounds3 : (a b c : ℕ) {r : Bool} → r ≡ is3 a b c → r ≡ true → (0xE0 ≤ a) × (a ≤ 0xEF) × (0x80 ≤ b) × (b ≤ 0xBF) × (0x80 ≤ c) × (c ≤ 0xBF)
bounds3 a b c e t =
    let k = and_both (lead3 a b) (is_tail c) (sym e ∙ t) in
    let f = lead3_bounds a b k.0 in
    let n = within_both 0x80 0xBF c k.1 in
    (f.0, f.1, f.2, f.3, n.0, n.1)

pub bounds4 : (a b c d : ℕ) {r : Bool} → r ≡ is4 a b c d → r ≡ true → (0xF0 ≤ a) × (a ≤ 0xF4) × (0x80 ≤ b) × (b ≤ 0xBF) × (0x80 ≤ c) × (c ≤ 0xBF) × (0x80 ≤ d) × (d ≤ 0xBF)
bounds4 a b c d e t =
    let j = and_both (lead4 a b && is_tail c) (is_tail d) (sym e ∙ t) in
    let k = and_both (lead4 a b) (is_tail c) j.0 in
    let f = lead4_bounds a b k.0 in
    let n = within_both 0x80 0xBF c k.1 in
    let m = within_both 0x80 0xBF d j.1 in
    (f.0, f.1, f.2, f.3, n.0, n.1, m.0, m.1)

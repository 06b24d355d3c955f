-- Characters of three bytes in a row, from the ranges of their bytes.
use Prim.Native.Nat.{ℕ, zero, suc, ◌+◌, ◌*◌, ◌≤◌, ◌<◌}
use mathlib.Core.List.{List}
use mathlib.Core.Bool.{true, false}
use mathlib.Core.Path.{◌≡◌, refl, ap, sym, subst, ◌∙◌}
use native.Mathlib.Omega.{arith}
use lib.ListN.{length, get_or, drop}
use Rattle.format.specs.Utf8.{utf8, width_of, lead3, is2, is3}
use Rattle.text.specs.Rows.{Lies}
use Rattle.text.proofs.Ranges.{inside, above, lead3_plain}
use Rattle.text.proofs.Chars.{three_at}
use Rattle.text.proofs.Texts.{step_on_lem}

module _ (s : List ℕ) where
  -- one character
  one : (at : ℕ) → at + 3 ≤ length s → (0xE1 ≤ get_or s at 0) × (get_or s at 0 ≤ 0xEF) × (get_or s at 0 ≡ 0xED → ⊥) → (0x80 ≤ get_or s (at + 1) 0) × (get_or s (at + 1) 0 ≤ 0xBF)
      → (0x80 ≤ get_or s (at + 2) 0) × (get_or s (at + 2) 0 ≤ 0xBF) → utf8 (drop at s) ≡ utf8 (drop (at + 3) s)
  one at h a b c =
      let x = get_or s at 0 in
      let y = get_or s (at + 1) 0 in
      let z = get_or s (at + 2) 0 in
      let al : 0xE1 ≤ x = a.0 in
      let no : is2 x y ≡ false = rw (above 0xC2 0xDF x (omega arith)) in
      let lead : lead3 x y ≡ true = sym (lead3_plain x y (λ e. omega arith) a.2 a.0 a.1) ∙ inside 0x80 0xBF y b.0 b.1 in
      let yes : is3 x y z ≡ true = rw (lead, inside 0x80 0xBF z c.0 c.1) in
      let e = three_at s at x (omega arith) refl (omega arith) y (omega arith) refl (sym no) refl z (omega arith) refl (sym yes) refl refl in
      step_on_lem s at 3 (ap width_of e) (λ e. omega arith)

  -- m of them
  pub row : (m i : ℕ) → i + 3 * m ≤ length s → ((j : ℕ) → j < 3 * m → Lies j (get_or s (i + j) 0)) → utf8 (drop i s) ≡ utf8 (drop (i + 3 * m) s)
  row zero i l f = let e : i ≡ i + 3 * 0 = omega arith in ap (λ (k : ℕ). utf8 (drop k s)) e
  row (suc m) i l f =
      let at = i + 3 * m in
      let p : i + (3 * m + 1) ≡ at + 1 = omega arith in
      let q : i + (3 * m + 2) ≡ at + 2 = omega arith in
      let e : at + 3 ≡ i + 3 * suc m = omega arith in
      let a = (f (3 * m) (omega arith)).lead (omega arith) in
      let b = subst (λ (k : ℕ). (0x80 ≤ get_or s k 0) × (get_or s k 0 ≤ 0xBF)) p ((f (3 * m + 1) (omega arith)).tail (λ z. omega arith)) in
      let c = subst (λ (k : ℕ). (0x80 ≤ get_or s k 0) × (get_or s k 0 ≤ 0xBF)) q ((f (3 * m + 2) (omega arith)).tail (λ z. omega arith)) in
      row m i (omega arith) (λ j h. f j (omega arith)) ∙ one at (omega arith) a b c ∙ ap (λ (k : ℕ). utf8 (drop k s)) e

-- Places in a sheet: which words stand from one place up to another.
use Prim.Native.Nat.{ℕ, ◌+◌, ◌-◌, ◌≤◌, ◌<◌}
use mathlib.Core.List.{List, ◌∷◌, ◌++◌, append_assoc, append-nil}
use mathlib.Core.Path.{◌≡◌, refl, ap, sym, ◌∙◌, subst}
use native.Mathlib.Omega.{arith}
use native.Mathlib.Numerals.{add-one}
use lib.ListN.{length, take, drop, get_or, length-append, length-drop}
use lib.Seq.{drop-cons, drop-drop, drop-append_seam, take-append_seam, drop-length}

-- the words l stand in w from the place p up to the place e
pub record Span (w : List ℕ) (p : ℕ) (l : List ℕ) (e : ℕ) : Type 0 where
  pub is : drop p w ≡ l ++ drop e w
  pub long : e ≡ p + length l
  pub within : e ≤ length w

-- the word at a place, and those behind it
pub front : (w : List ℕ) (p : ℕ) → p < length w → drop p w ≡ get_or w p 0 ∷ drop (p + 1) w
front w p h = rw (add-one, drop-cons w p 0)

-- the two words at a place, and those behind them
pub front2 : (w : List ℕ) (p : ℕ) → p + 1 < length w → drop p w ≡ get_or w p 0 ∷ get_or w (p + 1) 0 ∷ drop (p + 2) w
front2 w p h =
    let two : p + 1 + 1 ≡ p + 2 = omega arith in
    front w p (omega arith) ∙ ap (λ (l : List ℕ). get_or w p 0 ∷ l) (front w (p + 1) h ∙ ap (λ (n : ℕ). get_or w (p + 1) 0 ∷ drop n w) two)

-- all the words
pub all_words : (w l : List ℕ) → l ≡ w → Span w 0 l (length w)
all_words w l e =
    record {
      is = sym e ∙ sym (append-nil l) ∙ ap (λ (m : List ℕ). l ++ m) (sym (drop-length w));
      long = sym (ap length e) ∙ omega arith;
      within = omega arith;
    }

-- what stands between a place and the words that are left
pub between : (w l : List ℕ) (p e : ℕ) → drop p w ≡ l ++ drop e w → p ≤ e → e ≤ length w → Span w p l e
between w l p e h low high =
    let n : length w - p ≡ length l + (length w - e) = sym (length-drop p w) ∙ ap length h ∙ length-append l (drop e w) ∙ ap (λ (k : ℕ). length l + k) (length-drop e w) in
    record { is = h; long = omega arith; within = high }

-- two runs of words, one behind the other
pub parts : (w : List ℕ) (p e : ℕ) (l m : List ℕ) → Span w p (l ++ m) e → Span w p l (p + length l) × Span w (p + length l) m e
parts w p e l m s =
    let n : length (l ++ m) ≡ length l + length m = length-append l m in
    let big : drop p w ≡ l ++ (m ++ drop e w) = s.is ∙ append_assoc l m (drop e w) in
    let rest : drop (p + length l) w ≡ m ++ drop e w = sym (drop-drop (length l) p w) ∙ ap (drop (length l)) big ∙ drop-append_seam l (m ++ drop e w) in (
      record { is = big ∙ ap (λ (k : List ℕ). l ++ k) (sym rest); long = refl; within = omega (arith, s.long, s.within) },
      record { is = rest; long = omega (arith, s.long); within = s.within },
    )

-- the first word of a run, and the words behind it
pub first : (w : List ℕ) (p e x : ℕ) (l : List ℕ) → Span w p (x ∷ l) e → (p < length w) × (get_or w p 0 ≡ x) × Span w (p + 1) l e
first w p e x l s =
    let here : p < length w = omega (arith, s.long, s.within) in
    let same : get_or w p 0 ∷ drop (p + 1) w ≡ x ∷ (l ++ drop e w) = sym (front w p here) ∙ s.is in
    (here, cc, record { is = cc; long = omega (arith, s.long); within = s.within })

-- the first two words of a run, and the words behind them
pub first2 : (w : List ℕ) (p e x y : ℕ) (l : List ℕ) → Span w p (x ∷ y ∷ l) e → (p + 1 < length w) × (get_or w (p + 1) 0 ≡ y) × Span w (p + 2) l e
first2 w p e x y l s =
    let f = first w (p + 1) e y l (first w p e x (y ∷ l) s).2 in
    let two : p + 1 + 1 ≡ p + 2 = omega arith in
    (f.0, f.1, subst (λ (n : ℕ). Span w n l e) two f.2)

-- the words of a run, taken from its place
pub taken : (w : List ℕ) (p e : ℕ) (l : List ℕ) → Span w p l e → (take (length l) (drop p w) ≡ l) × (p + length l ≡ e) × (e ≤ length w)
taken w p e l s = (ap (take (length l)) s.is ∙ take-append_seam l (drop e w), sym s.long, s.within)

-- one end only: words that begin alike and go on to the end of w
pub same_end : (w : List ℕ) (e r : ℕ) → e ≤ length w → r ≤ length w → drop e w ≡ drop r w → r ≡ e
same_end w e r he hr h = omega (arith, sym (length-drop e w) ∙ ap length h ∙ length-drop r w)

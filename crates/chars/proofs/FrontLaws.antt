-- A run beside its payload: up to the first zero they are the same bytes, and no character goes past a zero; so the character in front is the same in both.
use mathlib.Core.Path.{◌≡◌, refl, sym, ap, ◌∙◌}
use mathlib.Core.Logic.{◌⊎◌, inl, inr}
use mathlib.Core.Bool.{true, false, true≢false, false≢true}
use mathlib.Core.List.{List, [], ◌∷◌, ◌++◌, append_assoc}
use Prim.Native.Nat.{ℕ, zero, suc, ◌≤◌}
use native.Mathlib.Omega.{arith}
use lib.Dec.{eqb}
use lib.ListN.{length, take, drop, length-append}
use lib.Seq.{take-append_seam}
use borrow.Author.Tests.{eqb-true}
use Rattle.format.specs.Scalar.{escaped}
use Rattle.format.specs.Utf8.{first_char, width_of, utf8}
use Rattle.format.specs.Read.{Read, got, bad, cons_read, get_run}
use Rattle.format.specs.Fields.{has_zero}
use Rattle.format.specs.Chars.{lead_width}
use Rattle.format.proofs.BackLaws.{cons_got, run_back}
use Rattle.text.proofs.Fronts.{width_fits, char_zero}
use Rattle.text.proofs.Texts.{not_text}
use Rattle.text.proofs.Leads.{char_lead}
use Rattle.scalar.proofs.Cases.{by_test}
use Rattle.scalar.proofs.Escapes.{run_byte}

-- two lists are the same bytes q up to the first zero: the first has a zero there, the second has one or ends
record Alike (r p : List ℕ) : Type 0 where
  q : List ℕ
  t : List ℕ
  first : r ≡ q ++ 0 ∷ t
  second : (p ≡ q) ⊎ ((u : List ℕ) × (p ≡ q ++ 0 ∷ u))

escaped_alike : (p rest : List ℕ) → Alike (escaped p ++ rest) p
unfolding escaped
escaped_alike [] rest = record { q = []; t = rest; first = refl; second = inl refl }
escaped_alike (b ∷ p) rest = by_test (eqb b 0)
    (λ z. rw z (record { q = []; t = 0xFF ∷ (escaped p ++ rest); first = refl; second = inr (p, ap (λ (c : ℕ). c ∷ p) (eqb-true b 0 z)) }))
    (λ z. let h = escaped_alike p rest in rw z (record { q = b ∷ h.q; t = h.t; first = ap (λ (l : List ℕ). b ∷ l) h.first; second = behind h.q h.second }))
  where
    behind : (q : List ℕ) → (p ≡ q) ⊎ ((u : List ℕ) × (p ≡ q ++ 0 ∷ u)) → (b ∷ p ≡ b ∷ q) ⊎ ((u : List ℕ) × (b ∷ p ≡ b ∷ (q ++ 0 ∷ u)))
    behind q (inl e) = inl (ap (λ (l : List ℕ). b ∷ l) e)
    behind q (inr e) = inr (e.0, ap (λ (l : List ℕ). b ∷ l) e.1)

-- so the character behind a byte's lead is the same in a run and in its payload
same_front : (b : ℕ) (r p rest : List ℕ) → get_run r ≡ got p rest → first_char (b ∷ p) ≡ first_char (b ∷ r)
same_front b r p rest e =
    let f = escaped_alike p rest in
    side f.q f.second ∙ sym (ap (λ (l : List ℕ). first_char (b ∷ l)) (run_back r p rest e ∙ f.first) ∙ char_zero b f.q f.t)
  where
    side : (q : List ℕ) → (p ≡ q) ⊎ ((u : List ℕ) × (p ≡ q ++ 0 ∷ u)) → first_char (b ∷ p) ≡ first_char (b ∷ q)
    side q (inl e) = ap (λ (l : List ℕ). first_char (b ∷ l)) e
    side q (inr e) = ap (λ (l : List ℕ). first_char (b ∷ l)) e.1 ∙ char_zero b q e.0

-- text that begins with a lead has the lead's character in front, in the run as in the payload
pub good_front : (b : ℕ) (r p rest : List ℕ) → (b ≡ 0 → ⊥) → get_run (b ∷ r) ≡ got p rest → utf8 p ≡ true → width_of (first_char (b ∷ r)) ≡ lead_width b
good_front b r p rest z e u =
    let c = cons_got b (get_run r) (sym (run_byte b r z) ∙ e) in
    go c.0 (ap width_of (same_front b r c.0 rest c.1)) (sym (ap utf8 c.2) ∙ u) (char_lead b r)
  where
    go : (s : List ℕ) → width_of (first_char (b ∷ s)) ≡ width_of (first_char (b ∷ r)) → utf8 (b ∷ s) ≡ true
        → (width_of (first_char (b ∷ r)) ≡ 0) ⊎ (width_of (first_char (b ∷ r)) ≡ lead_width b) → width_of (first_char (b ∷ r)) ≡ lead_width b
    go s f v (inr h) = h
    go s f v (inl h) = absurd (false≢true (sym (not_text b s (f ∙ h)) ∙ v))

-- bytes in front of what is read
abbrev pub cons_all : List ℕ → Read (List ℕ) → Read (List ℕ)
cons_all [] m = m
cons_all (b ∷ bs) m = cons_read b (cons_all bs m)

pub all_got : (ds p rest : List ℕ) → cons_all ds (got p rest) ≡ got (ds ++ p) rest
all_got [] p rest = refl
all_got (b ∷ ds) p rest = ap (cons_read b) (all_got ds p rest)

pub all_bad : (ds : List ℕ) (n d : ℕ) → cons_all ds (bad n d) ≡ bad n d
all_bad [] n d = refl
all_bad (b ∷ ds) n d = ap (cons_read b) (all_bad ds n d)

-- k bytes before the first zero are read as they are
run_over : (k : ℕ) (r : List ℕ) → ((q t : List ℕ) → r ≡ q ++ 0 ∷ t → k ≤ length q) → k ≤ length r → get_run r ≡ cons_all (take k r) (get_run (drop k r))
run_over zero r f l = refl
run_over (suc k) [] f l = absurd (omega arith)
run_over (suc k) (b ∷ r) f l =
    run_byte b r no_zero ∙ ap (cons_read b) (run_over k r (λ q t e. le_pred (f (b ∷ q) t (ap (λ (x : List ℕ). b ∷ x) e))) (omega arith))
  where
    no_zero : b ≡ 0 → ⊥
    no_zero z = let h = f [] r (ap (λ (c : ℕ). c ∷ r) z) in omega arith

    le_pred : {m : ℕ} → suc k ≤ suc m → k ≤ m
    le_pred h = omega arith

-- and so are those of a character behind its lead
pub char_over : (b w : ℕ) (r : List ℕ) → width_of (first_char (b ∷ r)) ≡ suc w → w ≤ length r → get_run r ≡ cons_all (take w r) (get_run (drop w r))
char_over b w r e = run_over w r before
  where
    before : (q t : List ℕ) → r ≡ q ++ 0 ∷ t → w ≤ length q
    before q t f =
        let c : first_char (b ∷ r) ≡ first_char (b ∷ q) = ap (λ (l : List ℕ). first_char (b ∷ l)) f ∙ char_zero b q t in
        omega (arith, sym e ∙ ap width_of c, width_fits (b ∷ q))

-- a payload without a zero is the run's own bytes
escaped_plain : (p : List ℕ) → has_zero p ≡ false → escaped p ≡ p ++ 0 ∷ []
unfolding escaped has_zero
escaped_plain [] h = refl
escaped_plain (b ∷ p) h = by_test (eqb b 0) (λ z. absurd (true≢false (rw z at h)))
    (λ z. rw z (ap (λ (l : List ℕ). b ∷ l) (escaped_plain p (rw z at h))))

pub plain_run : (s p rest : List ℕ) → get_run s ≡ got p rest → has_zero p ≡ false → (length p ≤ length s) × (take (length p) s ≡ p)
plain_run s p rest e h =
    let f : s ≡ p ++ 0 ∷ rest = run_back s p rest e ∙ ap (λ (l : List ℕ). l ++ rest) (escaped_plain p h) ∙ append_assoc p (0 ∷ []) rest in
    rw f (omega (arith, length-append p (0 ∷ rest)), take-append_seam p (0 ∷ rest))

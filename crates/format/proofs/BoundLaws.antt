-- The two bounds of a key's first k fields: a key lies between them exactly if its own first k fields have the same values.
use mathlib.Core.Path.{◌≡◌, refl, sym, ap, ◌∙◌, subst}
use mathlib.Core.Logic.{◌↔◌}
use mathlib.Core.List.{List, [], ◌∷◌, ◌++◌, append_assoc, append-nil}
use Prim.Native.Nat.{ℕ, zero, suc, Ordering}
use native.Mathlib.Omega.{arith}
use Rattle.format.specs.Answer.{ok}
use Rattle.format.specs.Tree.{Ty, Tys, Val, Vals, fields_in}
use Rattle.format.specs.Sheet.{val_count}
use Rattle.format.specs.Encode.{vals_bytes, key_bytes}
use Rattle.format.specs.Order.{then, cmp_bytes, cmp_vals}
use Rattle.format.specs.Bounds.{above_field, firsts, rests, first_bytes, Between}
use Rattle.format.proofs.CompareLaws.{more, flip, cmp_bytes_flip, nil_first}
use Rattle.format.proofs.ScalarLaws.{low_nil, low_end}
use Rattle.format.proofs.Sound.{Sound, AllSound}
use Rattle.format.proofs.OrderLaws.{marked, low_vals}
use Rattle.format.proofs.KeyLaws.{bare_order}
use Rattle.format.proofs.EqualLaws.{cmp_vals_eq, cmp_vals_refl}
use Rattle.format.proofs.EncodeLaws.{fits_count, key_parts}

pub split_bytes : (k : ℕ) (vs : Vals) → vals_bytes 0 vs ≡ vals_bytes 0 (firsts k vs) ++ vals_bytes 0 (rests k vs)
unfolding firsts rests vals_bytes
split_bytes zero vs = refl
split_bytes (suc k) Vals.NoVal = refl
split_bytes (suc k) (Vals.AddVal v vs) = rw (append_assoc, split_bytes k vs)

pub split_sound : (k : ℕ) (vs : Vals) → AllSound vs → AllSound (firsts k vs) × AllSound (rests k vs)
unfolding firsts rests
split_sound zero vs w = (tt, w)
split_sound (suc k) Vals.NoVal w = (tt, tt)
split_sound (suc k) (Vals.AddVal v vs) w = let h = split_sound k vs w.1 in ((w.0, h.0), h.1)

-- the fields left are below FF
pub rest_low : (vs : Vals) → AllSound vs → cmp_bytes (0xFF ∷ []) (vals_bytes 0 vs) ≡ Ordering.gt
unfolding cmp_bytes vals_bytes
rest_low Vals.NoVal w = refl
rest_low (Vals.AddVal v vs) w = let m = marked 0 v w.0 in rw (m.bytes, more {m = 0xFF} {n = m.mark} m.small)

-- a key lies between the bounds of k values exactly if these are its first k
pub bounds : (k : ℕ) (ps vs : Vals) → val_count ps ≡ val_count (firsts k vs) → AllSound ps → AllSound vs
    → Between (vals_bytes 0 ps) (above_field (vals_bytes 0 ps)) (vals_bytes 0 vs) ↔ (ps ≡ firsts k vs)
bounds k ps vs count wp wv = (λ b. there (cmp_vals ps (firsts k vs)) refl b, λ e. back (subst (λ (us : Vals). cmp_vals ps us ≡ Ordering.eq) e (cmp_vals_refl ps)))
  where
    w : AllSound (firsts k vs) × AllSound (rests k vs)
    w = split_sound k vs wv

    left : cmp_bytes (vals_bytes 0 ps) (vals_bytes 0 vs) ≡ then (cmp_vals ps (firsts k vs)) (cmp_bytes [] (vals_bytes 0 (rests k vs)))
    left =
        ap (λ (x : List ℕ). cmp_bytes x (vals_bytes 0 vs)) (sym (append-nil (vals_bytes 0 ps)))
        ∙ ap (λ (x : List ℕ). cmp_bytes (vals_bytes 0 ps ++ []) x) (split_bytes k vs)
        ∙ bare_order 0 ps (firsts k vs) count wp w.0 [] (vals_bytes 0 (rests k vs)) low_nil (rw append-nil at (low_vals 0 (rests k vs) w.1 [] low_nil))

    right : cmp_bytes (vals_bytes 0 vs) (vals_bytes 0 ps ++ 0xFF ∷ []) ≡ flip (then (cmp_vals ps (firsts k vs)) Ordering.gt)
    right =
        cmp_bytes_flip (vals_bytes 0 ps ++ 0xFF ∷ []) (vals_bytes 0 vs)
        ∙ ap flip (ap (λ (x : List ℕ). cmp_bytes (vals_bytes 0 ps ++ 0xFF ∷ []) x) (split_bytes k vs)
        ∙ bare_order 0 ps (firsts k vs) count wp w.0 (0xFF ∷ []) (vals_bytes 0 (rests k vs)) low_end (rw append-nil at (low_vals 0 (rests k vs) w.1 [] low_nil))
        ∙ ap (λ (o : Ordering). then (cmp_vals ps (firsts k vs)) o) (rest_low (rests k vs) w.1))

    there : (o : Ordering) → cmp_vals ps (firsts k vs) ≡ o → Between (vals_bytes 0 ps) (above_field (vals_bytes 0 ps)) (vals_bytes 0 vs) → ps ≡ firsts k vs
    there Ordering.lt e b = cc (b.below_high, right)
    there Ordering.eq e b = cmp_vals_eq ps (firsts k vs) wp w.0 e
    there Ordering.gt e b = absurd (b.from_low (rw e at left))

    back : cmp_vals ps (firsts k vs) ≡ Ordering.eq → Between (vals_bytes 0 ps) (above_field (vals_bytes 0 ps)) (vals_bytes 0 vs)
    back e = record { from_low = λ g. nil_first (vals_bytes 0 (rests k vs)) (sym (rw e at left) ∙ g); below_high = rw e at right }

pub same_count : (k : ℕ) (vs us : Vals) → val_count vs ≡ val_count us → val_count (firsts k vs) ≡ val_count (firsts k us)
unfolding firsts val_count
same_count zero vs us e = refl
same_count (suc k) Vals.NoVal Vals.NoVal e = refl
same_count (suc k) Vals.NoVal (Vals.AddVal u us) e = absurd (omega arith)
same_count (suc k) (Vals.AddVal v vs) Vals.NoVal e = absurd (omega arith)
same_count (suc k) (Vals.AddVal v vs) (Vals.AddVal u us) e = ap suc (same_count k vs us (omega arith))

-- a key y lies within the bounds of x's first k fields exactly if it agrees with x in these
pub key_bounds : (ts : Tys) (k : ℕ) (a b : Val) (x y : List ℕ) → key_bytes (Ty.Record ts) a ≡ ok x → key_bytes (Ty.Record ts) b ≡ ok y
    → Sound a → Sound b → Between (first_bytes k (fields_in a)) (above_field (first_bytes k (fields_in a))) y ↔ (firsts k (fields_in a) ≡ firsts k (fields_in b))
key_bounds ts k a b x y ea eb sa sb =
    let p = key_parts ts a x ea in
    let q = key_parts ts b y eb in
    let c : val_count (fields_in a) ≡ val_count (fields_in b) = sym (fits_count ts 0 (fields_in a) p.1) ∙ fits_count ts 0 (fields_in b) q.1 in
    rw (← q.2) (bounds k (firsts k (fields_in a)) (fields_in b) (same_count k (fields_in a) (fields_in b) c) (split_sound k (fields_in a) (subst Sound p.0 sa)).0 (subst Sound q.0 sb))

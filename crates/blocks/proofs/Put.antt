-- Bytes put over a buffer, one after another, and a buffer that is written by a loop.
use mathlib.Core.Path.{◌≡◌, refl, sym, ap, ◌∙◌}
use mathlib.Core.List.{List, [], ◌∷◌, ◌++◌, append_assoc}
use Prim.Native.Nat.{ℕ, suc, ◌+◌, ◌-◌, ◌≤◌, ◌<◌}
use native.Mathlib.Nat.{add-zero, add_assoc}
use native.Mathlib.Numerals.{add-one}
use native.Mathlib.Omega.{arith}
use lib.ListN.{length, get_or, set, take, drop, take-append-drop, length-append, length-take, length-drop, length-set}
use lib.Seq.{slice, length-slice, length-take-le, take_at, drop_at, drop-drop, set_split, take-set-le, take-suc}
use Rattle.format.specs.Fields.{put}
use Rattle.blocks.proofs.Spans.{slice_join}

-- what stands from a place on, after a store there
drop_set_here : (d : List ℕ) (n b : ℕ) → n < length d → drop n (set d n b) ≡ b ∷ drop (suc n) d
drop_set_here d n b h = rw (set_split d n b h, drop_at (take n d) (b ∷ drop (suc n) d) n (length-take-le n d (omega arith)))

module _ (d : List ℕ) (at : ℕ) where
  pub put_none : put d at [] ≡ d
  put_none = rw add-zero (take-append-drop at d)

  pub length_put : (s : List ℕ) → at + length s ≤ length d → length (put d at s) ≡ length d
  length_put s h = simp (length-append, length-take, length-drop) (omega arith)

  -- a store behind what is to be put
  pub put_snoc : (s : List ℕ) (b : ℕ) → at + length s < length d → put (set d (at + length s) b) at s ≡ put d at (s ++ (b ∷ []))
  put_snoc s b h =
      let le : at ≤ at + length s = omega arith in
      rw (take-set-le at d (at + length s) b le, drop_set_here d (at + length s) b h, length-append, ← add_assoc, add-one, append_assoc)

  -- a put behind a put
  pub put_put : (s t : List ℕ) → at + length s + length t ≤ length d → put (put d at s) (at + length s) t ≡ put d at (s ++ t)
  put_put s t h =
      let seam : take at d ++ (s ++ drop (at + length s) d) ≡ (take at d ++ s) ++ drop (at + length s) d = sym (append_assoc (take at d) s _) in
      let n : length (take at d ++ s) ≡ at + length s = simp (length-append, length-take) (omega arith) in
      rw (← drop-drop (length t) (at + length s), seam, take_at _ _ _ n, drop_at _ _ _ n, drop-drop, append_assoc (take at d) s, append_assoc s t, length-append, add_assoc)

-- a store is a put
pub set_put : (d : List ℕ) (i b : ℕ) → i < length d → set d i b ≡ put d i (b ∷ [])
set_put d i b h = rw add-one (set_split d i b h)

-- what was put in front stands in front
pub put_begins : (d s : List ℕ) {m : List ℕ} {n : ℕ} → m ≡ put d 0 s → length s ≡ n → slice 0 n m ≡ s
put_begins d s {n = n} e h = ap (slice 0 n) e ∙ take_at s (drop (0 + length s) d) n h

-- the next byte of a list, stored behind those that were put
pub put_next : (d : List ℕ) (at : ℕ) (s : List ℕ) (k : ℕ) {d₁ : List ℕ} → k < length s → at + length s ≤ length d → d₁ ≡ put d at (take k s) → set d₁ (at + k) (get_or s k 0) ≡ put d at (take (k + 1) s)
put_next d at s k {d₁} h l e =
    let n : length (take k s) ≡ k = length-take-le k s (omega arith) in
    let b = get_or s k 0 in
    let m : at + k < length (put d at (take k s)) = rw (length_put d at (take k s) (omega arith)) (omega arith) in
    let g : take (k + 1) s ≡ take k s ++ (b ∷ []) = rw add-one (take-suc s k 0 h) in
    let q : put (put d at (take k s)) (at + k) (b ∷ []) ≡ put d at (take k s ++ (b ∷ [])) =
    ap (λ (m : ℕ). put (put d at (take k s)) (at + m) (b ∷ [])) (sym n) ∙ put_put d at (take k s) (b ∷ []) (omega arith) in
    rw (e, g) (set_put (put d at (take k s)) (at + k) b m ∙ q)

-- a put behind a put
pub put_then : (l : List ℕ) (at : ℕ) (xs ys : List ℕ) {m l' : List ℕ} {a : ℕ} → at + length xs + length ys ≤ length l → a ≡ at + length xs → m ≡ put l at xs → l' ≡ put m a ys
    → l' ≡ put l at (xs ++ ys)
put_then l at xs ys {a = a} h q e f = f ∙ ap (λ (d : List ℕ). put d a ys) e ∙ ap (λ (k : ℕ). put (put l at xs) k ys) q ∙ put_put l at xs ys h

-- a store, and a put behind it
pub set_put_cons : (d : List ℕ) (i b : ℕ) (t : List ℕ) → i + 1 + length t ≤ length d → put (set d i b) (i + 1) t ≡ put d i (b ∷ t)
set_put_cons d i b t h = rw (set_put d i b (omega arith)) (put_put d i (b ∷ []) t h)

-- the next part of a list, put behind the part before it
pub put_slices : (d s : List ℕ) (o i j e : ℕ) → i ≤ j → j ≤ e → e ≤ length s → o + (e - i) ≤ length d → put (put d o (slice i j s)) (o + (j - i)) (slice j e s) ≡ put d o (slice i e s)
put_slices d s o i j e h k l r =
    let a = length-slice i j s (omega arith) in
    let b = length-slice j e s l in
    rw (slice_join s i j e h k l, ← a) (put_put d o (slice i j s) (slice j e s) (omega arith))

-- the next of the parts that a list begins with, as the step of a loop
pub put_front : (d s : List ℕ) (o i e : ℕ) {d₁ d₂ : List ℕ} → i ≤ e → e ≤ length s → o + e ≤ length d → d₁ ≡ put d o (slice 0 i s) → d₂ ≡ put d₁ (o + i) (slice i e s)
    → (length d₂ ≡ length d) × (d₂ ≡ put d o (slice 0 e s))
put_front d s o i e {d₁} {d₂} h l r a b =
    let n = length-slice 0 e s l in
    let q : o + (i - 0) ≡ o + i = omega arith in
    let w : d₂ ≡ put d o (slice 0 e s) = b ∙ ap (λ (x : List ℕ). put x (o + i) (slice i e s)) a ∙ (rw q at (put_slices d s o 0 i e (omega arith) h l (omega arith))) in
    (ap length w ∙ length_put d o (slice 0 e s) (omega arith), w)

-- ---- a buffer that is written from the front, as a loop's invariant says it: what is left to be put makes the whole

-- with t put from o on, the buffer d is d₀ with s put from at on
pub record Left (d₀ : List ℕ) (at : ℕ) (s d : List ℕ) (o : ℕ) (t : List ℕ) : Type 0 where
  pub long : length d ≡ length d₀
  pub ends : o + length t ≡ at + length s
  pub whole : put d o t ≡ put d₀ at s

pub left_all : (d : List ℕ) (at : ℕ) (s : List ℕ) → Left d at s d at s
left_all d at s = record { long = refl; ends = refl; whole = refl }

pub left_store : {d₀ : List ℕ} {at : ℕ} {s d : List ℕ} {o b : ℕ} {t : List ℕ} → at + length s ≤ length d₀ → Left d₀ at s d o (b ∷ t) → Left d₀ at s (set d o b) (o + 1) t
left_store {d = d} {o = o} {b = b} {t = t} h l =
    record { long = simp length-set l.long; ends = omega arith; whole = set_put_cons d o b t (omega arith) ∙ l.whole }

-- a chunk that is put, before what is left
pub left_chunk : {d₀ : List ℕ} {at : ℕ} {s d d' : List ℕ} {o m : ℕ} (c : List ℕ) {t : List ℕ} → at + length s ≤ length d₀ → Left d₀ at s d o (c ++ t) → d' ≡ put d o c → length c ≡ m
    → Left d₀ at s d' (o + m) t
left_chunk {d₀} {at} {s} {d} {d'} {o} {m} c {t} h l p q =
    let a = length-append c t in
    let e = l.ends in
    let g = l.long in
    record {
      long = rw (p, length_put d o c (omega arith)) l.long;
      ends = omega arith;
      whole = rw (p, ← q) (put_put d o c t (omega arith) ∙ l.whole);
    }

pub left_none : {d₀ : List ℕ} {at : ℕ} {s d : List ℕ} {o : ℕ} → Left d₀ at s d o [] → d ≡ put d₀ at s
left_none {d = d} {o = o} l = sym (put_none d o) ∙ l.whole

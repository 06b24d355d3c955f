-- Bytes moved within a buffer in two halves: the half to go first must not lie where the other is read. must-fail edits of `move_within` turn their order.
use mathlib.Core.Path.{◌≡◌, sym, ap, ◌∙◌}
use mathlib.Core.List.{List, ◌++◌, append_assoc}
use Prim.Native.Nat.{ℕ, ◌+◌, ◌-◌, ◌≤◌}
use native.Mathlib.Nat.{add_assoc}
use native.Mathlib.Omega.{arith}
use lib.ListN.{length, take, drop, length-append, length-take, length-drop}
use lib.Seq.{drop_at, drop-drop, length-take-le, take-take, take-add}
use Rattle.std.proofs.Common.{◌/◌}
use Rattle.std.specs.List.{copy_within}
use Rattle.std.proofs.lemmas.List.{take-append-le, drop-take}
use Rattle.format.specs.Fields.{put}
use Rattle.blocks.proofs.Put.{put_put, length_put}

-- the buffer with its n bytes from f on put over it from t on
abbrev pub moved : List ℕ → ℕ → ℕ → ℕ → List ℕ
moved d f t n = put d t (take n (drop f d))

-- what `copy_within` leaves
moved_is : (d : List ℕ) (f t n : ℕ) → f + n ≤ length d → copy_within d f (f + n) t ≡ moved d f t n
moved_is d f t n h =
    let e : f + n - f ≡ n = omega arith in
    let l : length (take n (drop f d)) ≡ n = simp (length-take, length-drop) (omega arith) in
    rw (e, append_assoc (take t d), l)

-- and of the part behind the first h
moved_back : (d : List ℕ) (f t n h : ℕ) → h ≤ n → f + n ≤ length d → copy_within d (f + h) (f + n) (t + h) ≡ moved d (f + h) (t + h) (n - h)
moved_back d f t n h l a =
    let m : f + h + (n - h) ≡ f + n = omega arith in
    ap (λ k. copy_within d (f + h) k (t + h)) (sym m) ∙ moved_is d (f + h) (t + h) (n - h) (omega arith)

-- a put before a put
put_before : (d : List ℕ) (t : ℕ) (x y : List ℕ) → t + length x + length y ≤ length d → put (put d (t + length x) y) t x ≡ put d t (x ++ y)
put_before d t x y h =
    let n : length (take (t + length x) d) ≡ t + length x = length-take-le (t + length x) d (omega arith) in
    rw (take-append-le t (take (t + length x) d) _ (omega arith), take-take t (t + length x) d (omega arith), drop_at _ _ _ n, append_assoc x y, length-append, add_assoc)

module _ (d : List ℕ) (f t n h : ℕ) (l : h ≤ n) (a : f + n ≤ length d) (b : t + n ≤ length d) where
  abbrev front : List ℕ
  front = take h (drop f d)

  abbrev back : List ℕ
  back = take (n - h) (drop (f + h) d)

  parts : front ++ back ≡ take n (drop f d)
  parts =
      let e : h + (n - h) ≡ n = omega arith in
      sym (take-add h (n - h) (drop f d) ∙ ap (λ s. front ++ take (n - h) s) (drop-drop h f d)) ∙ ap (λ k. take k (drop f d)) e

  long_front : length front ≡ h
  long_front = simp (length-take, length-drop) (omega arith)

  long_back : length back ≡ n - h
  long_back = simp (length-take, length-drop) (omega arith)

  back_first : f ≤ t → copy_within (copy_within d (f + h) (f + n) (t + h)) f (f + h) t ≡ moved d f t n
  back_first g =
      let z = long_front in
      let w = long_back in
      let e = copy_within d (f + h) (f + n) (t + h) in
      let r : e ≡ put d (t + h) back = moved_back d f t n h l a in
      let k : length e ≡ length d = ap length r ∙ length_put d (t + h) back (omega arith) in
      let m : f + h ≤ length (take (t + h) d) = rw (length-take-le (t + h) d (omega arith)) (omega arith) in
      let u : take (f + h) e ≡ take (f + h) d = ap (take (f + h)) r ∙ take-append-le (f + h) (take (t + h) d) _ m ∙ take-take (f + h) (t + h) d (omega arith) in
      let v : take h (drop f e) ≡ front = sym (drop-take f h e) ∙ ap (drop f) u ∙ drop-take f h d in
      moved_is e f t h (omega arith) ∙ ap (put e t) v ∙ ap (λ s. put s t front) r ∙ ap (λ i. put (put d (t + i) back) t front) (sym z)
      ∙ put_before d t front back (omega arith) ∙ ap (put d t) parts

  front_first : t ≤ f → copy_within (copy_within d f (f + h) t) (f + h) (f + n) (t + h) ≡ moved d f t n
  front_first g =
      let z = long_front in
      let w = long_back in
      let e = copy_within d f (f + h) t in
      let r : e ≡ put d t front = moved_is d f t h (omega arith) in
      let k : length e ≡ length d = ap length r ∙ length_put d t front (omega arith) in
      let m : length (take t d ++ front) ≡ t + h = simp (length-append, length-take, length-drop) (omega arith) in
      let o : t + h + (f - t) ≡ f + h = omega arith in
      let x : drop (t + h) e ≡ drop (t + h) d = ap (drop (t + h)) (r ∙ sym (append_assoc (take t d) front _)) ∙ drop_at (take t d ++ front) _ (t + h) m ∙ ap (λ i. drop (t + i) d) z in
      let v : drop (f + h) e ≡ drop (f + h) d = ap (λ i. drop i e) (sym o) ∙ sym (drop-drop (f - t) (t + h) e) ∙ ap (drop (f - t)) x ∙ drop-drop (f - t) (t + h) d ∙ ap (λ i. drop i d) o in
      moved_back e f t n h l (omega arith) ∙ ap (λ s. put e (t + h) (take (n - h) s)) v ∙ ap (λ s. put s (t + h) back) r ∙ ap (λ i. put (put d t front) (t + i) back) (sym z)
      ∙ put_put d t front back (omega arith) ∙ ap (put d t) parts

-- the back half first, where the new place is not before the old
pub move_up : (d : List ℕ) (f t n : ℕ) → f ≤ t → f + n ≤ length d → t + n ≤ length d
    → moved d f t n ≡ copy_within (copy_within d (f + n / 2) (f + n) (t + n / 2)) f (f + n / 2) t
move_up d f t n g a b = let l : n / 2 ≤ n = omega arith in sym (back_first d f t n (n / 2) l a b g)

-- the front half first, where the new place is not behind the old
pub move_down : (d : List ℕ) (f t n : ℕ) → t ≤ f → f + n ≤ length d → t + n ≤ length d
    → moved d f t n ≡ copy_within (copy_within d f (f + n / 2) t) (f + n / 2) (f + n) (t + n / 2)
move_down d f t n g a b = let l : n / 2 ≤ n = omega arith in sym (front_first d f t n (n / 2) l a b g)

-- Bytes moved within a buffer and bytes written before them give the key with a part spliced in.
use mathlib.Core.Path.{◌≡◌, refl, sym, ap, ap₂, ◌∙◌}
use mathlib.Core.List.{List, [], ◌∷◌, ◌++◌, append_assoc}
use Prim.Native.Nat.{ℕ, zero, suc, ◌+◌, ◌-◌, ◌≤◌}
use native.Mathlib.Omega.{arith}
use lib.ListN.{length, take, drop, length-append, length-take, length-drop}
use lib.Seq.{take-take, take-append-le, drop_at}
use Rattle.format.specs.Calls.{over}
use Rattle.format.specs.Fields.{put}
use Rattle.format.specs.Encode.{val_bytes}
use Rattle.write.specs.declared.Put.{Put}
use Rattle.write.specs.Write.{standing, WroteValue}
use Rattle.key.specs.Keys.{Puts, Splices}

drop_part : (e u : ℕ) (b : List ℕ) → drop e (take u b) ≡ take (u - e) (drop e b)
drop_part zero u b = let n : u ≡ u - 0 = omega arith in ap (λ (n : ℕ). take n b) n
drop_part (suc e) zero b = let n : 0 ≡ 0 - suc e = omega arith in ap (λ (n : ℕ). take n (drop (suc e) b)) n
drop_part (suc e) (suc u) [] = sym (nothing (suc u - suc e))
  where
    nothing : (n : ℕ) → take {A = ℕ} n [] ≡ []
    nothing zero = refl
    nothing (suc n) = refl
drop_part (suc e) (suc u) (x ∷ b) = let n : u - e ≡ suc u - suc e = omega arith in drop_part e u b ∙ ap (λ (n : ℕ). take n (drop e b)) n

module _ (b x : List ℕ) (p e u : ℕ) (pe : p ≤ e) (eu : e ≤ u) (ub : u ≤ length b) where
  -- what stands behind the part
  abbrev tail : List ℕ
  tail = take (u - e) (drop e b)

  tail_long : length tail ≡ u - e
  tail_long = simp (length-take, length-drop) (omega arith)

  abbrev whole : List ℕ
  whole = take p (take u b) ++ (x ++ drop e (take u b))

  whole_is : whole ≡ take p b ++ (x ++ tail)
  whole_is = ap₂ (λ (l m : List ℕ). l ++ (x ++ m)) (take-take p u b (omega arith)) (drop_part e u b)

  pub whole_long : length whole ≡ p + length x + (u - e)
  whole_long =
      ap length whole_is ∙ length-append (take p b) (x ++ tail)
      ∙ omega (arith, length-take p b, length-append x tail, tail_long)

  module _ (room : p + length x + (u - e) ≤ length b) where
    -- the buffer with the tail moved to follow x
    abbrev moved : List ℕ
    moved = put b (p + length x) tail

    front_long : length (take (p + length x) b) ≡ p + length x
    front_long = simp length-take (omega arith)

    keep_front : take p moved ≡ take p b
    keep_front =
        take-append-le p (take (p + length x) b) (tail ++ drop (p + length x + length tail) b) (omega (arith, front_long))
        ∙ take-take p (p + length x) b (omega arith)

    keep_back : drop (p + length x) moved ≡ tail ++ drop (p + length x + length tail) b
    keep_back = drop_at (take (p + length x) b) (tail ++ drop (p + length x + length tail) b) (p + length x) front_long

    pub splice : put moved p x ≡ over whole b
    splice =
        let n : p + length x + length tail ≡ length whole = omega (arith, whole_long, tail_long) in
        ap₂ (λ (l m : List ℕ). l ++ (x ++ m)) keep_front keep_back
        ∙ sym (append_assoc (take p b) x (tail ++ drop (p + length x + length tail) b))
        ∙ sym (append_assoc (take p b ++ x) tail (drop (p + length x + length tail) b))
        ∙ ap₂ (λ (l : List ℕ) (n : ℕ). l ++ drop n b) (append_assoc (take p b) x tail ∙ sym whole_is) n

-- ---- the steps

-- bytes behind the part moved, and the value of a sheet written in its place
pub spliced_by : {buffer : List ℕ} {used start end n : ℕ} {words pool m out : List ℕ} {r : Put} → Puts buffer used start end n
    → m ≡ put buffer (start + n) (take (used - end) (drop end buffer)) → WroteValue words pool (standing 0 0 start 0) 0 m r out
    → Splices buffer used start end n words pool out
spliced_by {buffer} {used} {start} {end} {n} {words} {pool} {m} p e w = record {
  splices = λ t v s pr f l.
      let x = val_bytes 0 v in
      let room : start + length x + (used - end) ≤ length buffer = omega (arith, p.room) in
      let em : m ≡ put buffer (start + length x) (take (used - end) (drop end buffer)) =
      e ∙ ap (λ (k : ℕ). put buffer (start + k) (take (used - end) (drop end buffer))) l in
      let lm : length m ≡ length buffer =
      ap length em ∙ put_long buffer (start + length x) (take (used - end) (drop end buffer)) (omega (arith, length-take (used - end) (drop end buffer), length-drop end buffer)) in
      let d = w.says.one t v (length words) (length pool) f pr s (omega arith) in
      d.wrote ∙ ap (λ (l : List ℕ). put l start x) em ∙ splice buffer x start end used p.part p.within p.inside room;
}
  where
    put_long : (b : List ℕ) (i : ℕ) (y : List ℕ) → i + length y ≤ length b → length (put b i y) ≡ length b
    put_long b i y h = length-append (take i b) (y ++ drop (i + length y) b) ∙ omega (arith, length-take i b, length-append y (drop (i + length y) b), length-drop (i + length y) b)

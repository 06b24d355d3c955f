-- What stands at a place of a key, by its first byte, and words put before others.
use Rattle.std.proofs.Common.{◌≡◌, ℕ, ◌+◌, ◌<◌, ◌≤◌, Bool, true, false, ltb, List, [], ◌∷◌, ◌++◌, length, get_or}
use Rattle.std.proofs.Common.{take, drop, set, sym, ap, ◌∙◌, append_assoc, add_assoc, arith, length-append, length-drop, length-set, length-take-le, take-take, get_or-append-add, drop_at}
use lib.Seq.{take-append-le}
use Rattle.format.specs.Answer.{if}
use Rattle.format.specs.Tree.{Val, val_kind}
use Rattle.format.specs.Encode.{val_bytes}
use Rattle.format.specs.Fields.{put}
use Rattle.format.proofs.SheetPlaces.{front}
use Rattle.format.proofs.Sound.{Sound}
use Rattle.format.proofs.KindLaws.{is_null}
use Rattle.format.proofs.MarkLaws.{mark_kind, first}
use Rattle.blocks.proofs.Put.{set_put, set_put_cons}

-- the byte at a place, and the bytes behind it
pub head_at : (bs : List ℕ) (i : ℕ) {m : ℕ} {t : List ℕ} → drop i bs ≡ m ∷ t → (i < length bs) × (get_or bs i 0 ≡ m) × (drop (i + 1) bs ≡ t)
head_at bs i {m} {t} e =
    let h : i < length bs = omega (arith, ap length e, length-drop i bs) in
    let f : get_or bs i 0 ∷ drop (i + 1) bs ≡ m ∷ t = sym (front bs i h) ∙ e in
    (h, cc, cc)

-- it tells the kind of the value that stands there
pub kind_at : (bs : List ℕ) (i depth : ℕ) (v : Val) (rest : List ℕ) → Sound v → drop i bs ≡ val_bytes depth v ++ rest → val_kind v ≡ mark_kind (get_or bs i 0)
kind_at bs i depth v rest s e =
    let f = first depth v s in
    let h = head_at bs i (e ∙ ap (λ (l : List ℕ). l ++ rest) f.bytes) in
    f.kind_is ∙ ap mark_kind (sym h.1)

-- and a blank's is 00
pub null_at_lem : (bs : List ℕ) (i depth : ℕ) (v : Val) (rest : List ℕ) → drop i bs ≡ val_bytes depth v ++ rest → val_kind v ≡ 0 → get_or bs i 0 ≡ 0
unfolding val_bytes
null_at_lem bs i depth v rest e z = go (ltb 0 depth) (rw (is_null v z) at e)
  where
    go : (b : Bool) → drop i bs ≡ if b (0 ∷ 0xFF ∷ []) (0 ∷ []) ++ rest → get_or bs i 0 ≡ 0
    go true h = (head_at bs i h).1
    go false h = (head_at bs i h).1

-- ---- puts

-- a put before a put
pub put_before : (d : List ℕ) (at : ℕ) (s t : List ℕ) → at + length s + length t ≤ length d → put (put d (at + length s) t) at s ≡ put d at (s ++ t)
put_before d at s t h =
    let n : length (take (at + length s) d) ≡ at + length s = length-take-le (at + length s) d (omega arith) in
    let tail : List ℕ = t ++ drop (at + length s + length t) d in
    let a : take at (take (at + length s) d ++ tail) ≡ take at d = take-append-le at (take (at + length s) d) tail (omega arith) ∙ take-take at (at + length s) d (omega arith) in
    let b : drop (at + length s) (take (at + length s) d ++ tail) ≡ tail = drop_at (take (at + length s) d) tail (at + length s) n in
    rw (a, b, append_assoc s t, length-append, add_assoc)

pub pair_put : (d : List ℕ) (at x y : ℕ) → at + 2 ≤ length d → set (set d at x) (at + 1) y ≡ put d at (x ∷ y ∷ [])
pair_put d at x y h =
    let n : at + 1 < length (set d at x) = simp length-set (omega arith) in
    set_put (set d at x) (at + 1) y n ∙ set_put_cons d at x (y ∷ []) (omega arith)

-- the second of two words
pub second_put : (d : List ℕ) (at x y : ℕ) → at + 2 ≤ length d → get_or (put d at (x ∷ y ∷ [])) (at + 1) 0 ≡ y
second_put d at x y h =
    let n : length (take at d) ≡ at = length-take-le at d (omega arith) in
    let e : length (take at d) + 1 ≡ at + 1 = omega arith in
    ap (λ (k : ℕ). get_or (put d at (x ∷ y ∷ [])) k 0) (sym e) ∙ get_or-append-add (take at d) (x ∷ y ∷ drop (at + 2) d) 1 0

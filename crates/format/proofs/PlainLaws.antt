-- A value that is neither Null nor a group, by the numbers on its sheet: its kind, its second word, its bytes of the pool.
use mathlib.Core.Path.{◌≡◌, refl, sym, ap, ◌∙◌}
use mathlib.Core.Bool.{Bool, true, false}
use mathlib.Core.List.{List}
use Prim.Native.Nat.{ℕ, ◌+◌, ◌≤◌, ◌<◌}
use native.Mathlib.Omega.{arith}
use lib.Dec.{eqb}
use lib.ListN.{length, take, drop}
use lib.Seq.{slice, take-add, drop_at, length-take-le}
use Rattle.format.specs.Answer.{if}
use Rattle.format.specs.Tree.{Val, val_kind}
use Rattle.format.specs.Sheet.{val_words, val_pool}
use Rattle.format.specs.Scalar.{int_bytes, ref_bytes, str_bytes, bytes_bytes, escaped}
use Rattle.format.specs.Encode.{val_bytes}
use Rattle.format.proofs.Tests.{eqb_yes, eqb_no}
use Rattle.format.proofs.SheetPlaces.{Span, taken}
use Rattle.format.proofs.ValuePlaces.{ValueIn, word_of}

-- how many bytes of the pool a plain value takes: a run's length
unfoldable pub plain_pool : ℕ → ℕ → ℕ
plain_pool k x = if (eqb k 1) 0 (if (eqb k 4) 0 x)

-- its encoding
unfoldable pub plain_bytes : ℕ → ℕ → List ℕ → List ℕ
plain_bytes k x s = if (eqb k 1) (int_bytes x) (if (eqb k 4) (ref_bytes x) (if (eqb k 2) (str_bytes s) (bytes_bytes s)))

-- the two by the kind
module _ (k x : ℕ) where
  pub pool_int : k ≡ 1 → 0 ≡ plain_pool k x
  unfolding plain_pool
  pool_int h = rw (eqb_yes k 1 h)

  pub pool_ref : (k ≡ 1 → ⊥) → k ≡ 4 → 0 ≡ plain_pool k x
  unfolding plain_pool
  pool_ref n h = rw (eqb_no k 1 n, eqb_yes k 4 h)

  pub pool_run : (k ≡ 1 → ⊥) → (k ≡ 4 → ⊥) → x ≡ plain_pool k x
  unfolding plain_pool
  pool_run n h = rw (eqb_no k 1 n, eqb_no k 4 h)

  module _ (s : List ℕ) where
    pub bytes_int : k ≡ 1 → int_bytes x ≡ plain_bytes k x s
    unfolding plain_bytes
    bytes_int h = rw (eqb_yes k 1 h)

    pub bytes_ref : (k ≡ 1 → ⊥) → k ≡ 4 → ref_bytes x ≡ plain_bytes k x s
    unfolding plain_bytes
    bytes_ref n h = rw (eqb_no k 1 n, eqb_yes k 4 h)

    pub bytes_str : (k ≡ 1 → ⊥) → (k ≡ 4 → ⊥) → k ≡ 2 → str_bytes s ≡ plain_bytes k x s
    unfolding plain_bytes
    bytes_str n m h = rw (eqb_no k 1 n, eqb_no k 4 m, eqb_yes k 2 h)

    pub bytes_raw : (k ≡ 1 → ⊥) → (k ≡ 4 → ⊥) → (k ≡ 2 → ⊥) → bytes_bytes s ≡ plain_bytes k x s
    unfolding plain_bytes
    bytes_raw n m h = rw (eqb_no k 1 n, eqb_no k 4 m, eqb_no k 2 h)

    -- a mark and a run
    pub run_length : (k ≡ 1 → ⊥) → (k ≡ 4 → ⊥) → 1 + length (escaped s) ≡ length (plain_bytes k x s)
    unfolding plain_bytes
    run_length n m = rw (eqb_no k 1 n, eqb_no k 4 m) (go (eqb k 2))
      where
        go : (b : Bool) → 1 + length (escaped s) ≡ length (if b (str_bytes s) (bytes_bytes s))
        go true = omega arith
        go false = omega arith

-- the part of a list that a run of words fills
pub part_is : (b : List ℕ) (q : ℕ) (l : List ℕ) (f : ℕ) → Span b q l f → slice q f b ≡ l
part_is b q l f s =
    let t = taken b q f l s in
    let n : length (take q b) ≡ q = length-take-le q b (omega (arith, s.long, s.within)) in
    ap (λ (i : ℕ). drop q (take i b)) (sym t.1) ∙ ap (drop q) (take-add q (length l) b) ∙ drop_at (take q b) (take (length l) (drop q b)) q n ∙ t.0

-- what a plain value is, by its numbers k and x
pub record Plain (pool : List ℕ) (w p e f k x depth : ℕ) (v : Val) : Type 0 where
  pub ends : e ≡ w + 2
  pub pool_ends : f ≡ p + plain_pool k x
  pub pool_in : f ≤ length pool
  pub bytes : val_bytes depth v ≡ plain_bytes k x (slice p (p + plain_pool k x) pool)

numbers : (depth : ℕ) (v : Val) → 0 < val_kind v → val_kind v < 5 → (length (val_words v) ≡ 2) × (length (val_pool v) ≡ plain_pool (val_kind v) (word_of v)) × (val_bytes depth v ≡ plain_bytes (val_kind v) (word_of v) (val_pool v))
unfolding val_words val_pool val_bytes plain_pool plain_bytes
numbers depth Val.Null h g = absurd (omega arith)
numbers depth (Val.Int x) h g = (refl, refl, refl)
numbers depth (Val.Str s) h g = (refl, refl, refl)
numbers depth (Val.Bytes s) h g = (refl, refl, refl)
numbers depth (Val.Ref r) h g = (refl, refl, refl)
numbers depth (Val.Record vs) h g = absurd (omega arith)
numbers depth (Val.Union d v) h g = absurd (omega arith)

pub plain : (words pool : List ℕ) (w p e f k x depth : ℕ) (v : Val) → val_kind v ≡ k → word_of v ≡ x → 0 < k → k < 5 → ValueIn words pool w p v e f → Plain pool w p e f k x depth v
plain words pool w p e f k x depth v kk kx h g i =
    let n = numbers depth v (rw kk h) (rw kk g) in
    let m : length (val_pool v) ≡ plain_pool k x = n.1 ∙ ap (λ (j : ℕ). plain_pool j (word_of v)) kk ∙ ap (plain_pool k) kx in
    let q : f ≡ p + plain_pool k x = i.pool.long ∙ ap (λ (j : ℕ). p + j) m in
    record {
      ends = i.words.long ∙ ap (λ (j : ℕ). w + j) n.0;
      pool_ends = q;
      pool_in = i.pool.within;
      bytes = n.2 ∙ ap (λ (j : ℕ). plain_bytes j (word_of v) (val_pool v)) kk ∙ ap (λ (y : ℕ). plain_bytes k y (val_pool v)) kx ∙ ap (plain_bytes k x) (sym (part_is pool p (val_pool v) f i.pool) ∙ ap (λ (j : ℕ). slice p j pool) q);
    }

-- The trees of a value sheet by their places: what a walk over an admitted sheet goes by.
use Prim.Native.Nat.{ℕ, ◌+◌, ◌<◌}
use mathlib.Core.List.{List, [], ◌∷◌}
use mathlib.Core.Path.{◌≡◌, refl}
use lib.ListN.{length, get_or}
use Rattle.format.specs.Tree.{Val, Vals, val_kind}
use Rattle.format.specs.Sheet.{val_words, vals_words, val_pool, vals_pool, val_count}
use Rattle.format.specs.ValueSheet.{Admitted}
use Rattle.format.proofs.SheetPlaces.{Span, all_words, parts, first, first2}

-- the value v stands in the words w from p up to e, with its bytes in the pool b from q up to f
pub record ValueIn (w b : List ℕ) (p q : ℕ) (v : Val) (e f : ℕ) : Type 0 where
  pub words : Span w p (val_words v) e
  pub pool : Span b q (val_pool v) f

pub record ValuesIn (w b : List ℕ) (p q : ℕ) (vs : Vals) (e f : ℕ) : Type 0 where
  pub words : Span w p (vals_words vs) e
  pub pool : Span b q (vals_pool vs) f

pub top : (w b : List ℕ) (v : Val) → Admitted w b v → ValueIn w b 0 0 v (length w) (length b)
top w b v a = record { words = all_words w (val_words v) a.words; pool = all_words b (val_pool v) a.pool }

-- the second word of a value
abbrev pub word_of : Val → ℕ
word_of Val.Null = 0
word_of (Val.Int x) = x
word_of (Val.Str l) = length l
word_of (Val.Bytes l) = length l
word_of (Val.Ref x) = x
word_of (Val.Record vs) = val_count vs
word_of (Val.Union d v) = d

module _ (w b : List ℕ) (p q e f : ℕ) where
  pub kind_is : (v : Val) → ValueIn w b p q v e f → (p < length w) × (get_or w p 0 ≡ val_kind v)
  unfolding val_words
  kind_is Val.Null i = let k = first w p e 0 [] i.words in (k.0, k.1)
  kind_is (Val.Int x) i = let k = first w p e 1 (x ∷ []) i.words in (k.0, k.1)
  kind_is (Val.Str l) i = let k = first w p e 2 (length l ∷ []) i.words in (k.0, k.1)
  kind_is (Val.Bytes l) i = let k = first w p e 3 (length l ∷ []) i.words in (k.0, k.1)
  kind_is (Val.Ref x) i = let k = first w p e 4 (x ∷ []) i.words in (k.0, k.1)
  kind_is (Val.Record vs) i = let k = first w p e 5 (val_count vs ∷ vals_words vs) i.words in (k.0, k.1)
  kind_is (Val.Union d v) i = let k = first w p e 6 (d ∷ val_words v) i.words in (k.0, k.1)

  pub word_is_lem : (v : Val) → ValueIn w b p q v e f → (val_kind v ≡ 0 → ⊥) → (p + 1 < length w) × (get_or w (p + 1) 0 ≡ word_of v)
  unfolding val_words
  word_is_lem Val.Null i z = absurd (z refl)
  word_is_lem (Val.Int x) i z = let k = first2 w p e 1 x [] i.words in (k.0, k.1)
  word_is_lem (Val.Str l) i z = let k = first2 w p e 2 (length l) [] i.words in (k.0, k.1)
  word_is_lem (Val.Bytes l) i z = let k = first2 w p e 3 (length l) [] i.words in (k.0, k.1)
  word_is_lem (Val.Ref x) i z = let k = first2 w p e 4 x [] i.words in (k.0, k.1)
  word_is_lem (Val.Record vs) i z = let k = first2 w p e 5 (val_count vs) (vals_words vs) i.words in (k.0, k.1)
  word_is_lem (Val.Union d v) i z = let k = first2 w p e 6 d (val_words v) i.words in (k.0, k.1)

  -- a record's fields, and a union's payload
  pub record_in : (vs : Vals) → ValueIn w b p q (Val.Record vs) e f → ValuesIn w b (p + 2) q vs e f
  unfolding val_words val_pool
  record_in vs i =
      record {
        words = (first2 w p e 5 (val_count vs) (vals_words vs) i.words).2;
        pool = i.pool;
      }

  pub union_in : (d : ℕ) (v : Val) → ValueIn w b p q (Val.Union d v) e f → ValueIn w b (p + 2) q v e f
  unfolding val_words val_pool
  union_in d v i =
      record {
        words = (first2 w p e 6 d (val_words v) i.words).2;
        pool = i.pool;
      }

  -- the next field
  pub field_in : (v : Val) (vs : Vals) → ValuesIn w b p q (Vals.AddVal v vs) e f → ValueIn w b p q v (p + length (val_words v)) (q + length (val_pool v)) × ValuesIn w b (p + length (val_words v)) (q + length (val_pool v)) vs e f
  unfolding val_words val_pool
  field_in v vs i =
      let x = parts w p e (val_words v) (vals_words vs) i.words in
      let y = parts b q f (val_pool v) (vals_pool vs) i.pool in
      (record { words = x.0; pool = y.0 }, record { words = x.1; pool = y.1 })

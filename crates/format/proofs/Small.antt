-- The numbers of a sheet are those of its words and bytes, so they are as small: words of types below 2^32, of values below 2^64, bytes below 256.
use Prim.Native.Nat.{ℕ, ◌+◌, ◌≤◌, ◌<◌, ◌^◌}
use mathlib.Core.List.{List}
use mathlib.Core.Path.{ap, sym, ◌∙◌, subst}
use native.Mathlib.Omega.{arith}
use native.Mathlib.Decide.{dec_lt}
use lib.ListN.{length, drop, get_or, get_or-append, get_or-eq_default}
use lib.Seq.{get_or-drop}
use Rattle.format.specs.Tree.{Ty, Tys, Alts, Val, Vals}
use Rattle.format.specs.Sheet.{ty_words, val_words, val_pool}
use Rattle.format.specs.Bounds.{Below}
use Rattle.format.proofs.SheetPlaces.{Span}
use Rattle.format.proofs.TypePlaces.{TypeIn, TypesIn, AltsIn, record_in, union_in, optional_in, ref_in_lem, field_in, alt_in}
use Rattle.format.proofs.ValuePlaces as values

unfoldable mutual
  pub Small : Ty → Type 0
  Small Ty.Int = Unit {0}
  Small Ty.Str = Unit {0}
  Small Ty.Bytes = Unit {0}
  Small (Ty.Ref p) = p < 2 ^ 32
  Small (Ty.Record ts) = Smalls ts
  Small (Ty.Union us) = SmallAlts us
  Small (Ty.Optional t) = Small t

  pub Smalls : Tys → Type 0
  Smalls Tys.NoTy = Unit {0}
  Smalls (Tys.AddTy t ts) = Small t × Smalls ts

  pub SmallAlts : Alts → Type 0
  SmallAlts Alts.NoAlt = Unit {0}
  SmallAlts (Alts.AddAlt d t us) = (d < 2 ^ 32) × Small t × SmallAlts us

mutual
  unfolding Small

  pub small_type : (t : Ty) (w : List ℕ) (p e : ℕ) → Below (2 ^ 32) w → TypeIn w p t e → Small t
  small_type Ty.Int w p e b s = tt
  small_type Ty.Str w p e b s = tt
  small_type Ty.Bytes w p e b s = tt
  small_type (Ty.Ref x) w p e b s = subst (λ (n : ℕ). n < 2 ^ 32) (ref_in_lem w p e x s).1 (b (p + 1))
  small_type (Ty.Record ts) w p e b s = small_types ts w (p + 2) e b (record_in w p e ts s).2
  small_type (Ty.Union us) w p e b s = small_alts us w (p + 2) e b (union_in w p e us s).2
  small_type (Ty.Optional t) w p e b s = small_type t w (p + 1) e b (optional_in w p e t s).0

  small_types : (ts : Tys) (w : List ℕ) (p e : ℕ) → Below (2 ^ 32) w → TypesIn w p ts e → Smalls ts
  small_types Tys.NoTy w p e b s = tt
  small_types (Tys.AddTy t ts) w p e b s =
      let f = field_in w p e t ts s in
      (small_type t w p (p + length (ty_words t)) b f.0, small_types ts w (p + length (ty_words t)) e b f.1)

  small_alts : (us : Alts) (w : List ℕ) (p e : ℕ) → Below (2 ^ 32) w → AltsIn w p us e → SmallAlts us
  small_alts Alts.NoAlt w p e b s = tt
  small_alts (Alts.AddAlt d t us) w p e b s =
      let f = alt_in w p e d t us s in
      (subst (λ (n : ℕ). n < 2 ^ 32) f.1 (b p), small_type t w (p + 1) (p + 1 + length (ty_words t)) b f.2, small_alts us w (p + 1 + length (ty_words t)) e b f.3)

unfoldable mutual
  pub SmallVal : Val → Type 0
  SmallVal Val.Null = Unit {0}
  SmallVal (Val.Int x) = x < 2 ^ 64
  SmallVal (Val.Str l) = Below 256 l
  SmallVal (Val.Bytes l) = Below 256 l
  SmallVal (Val.Ref x) = x < 2 ^ 64
  SmallVal (Val.Record vs) = SmallVals vs
  SmallVal (Val.Union d v) = SmallVal v

  pub SmallVals : Vals → Type 0
  SmallVals Vals.NoVal = Unit {0}
  SmallVals (Vals.AddVal v vs) = SmallVal v × SmallVals vs

-- a part of a list is as small as the list
part_below : (n : ℕ) (b l : List ℕ) (q f : ℕ) → 0 < n → Below n b → Span b q l f → Below n l
part_below n b l q f z h s i = go (dec_lt i (length l))
  where
    go : Dec (i < length l) → get_or l i 0 < n
    go (yes k) = subst (λ (x : ℕ). x < n) (sym (get_or-drop q b i 0) ∙ ap (λ (m : List ℕ). get_or m i 0) s.is ∙ get_or-append l (drop f b) 0 i k) (h (q + i))
    go (no k) = let e : length l ≤ i = omega arith in rw (get_or-eq_default l 0 e) z

mutual
  unfolding SmallVal val_pool

  pub small_value : (v : Val) (w b : List ℕ) (p q e f : ℕ) → Below (2 ^ 64) w → Below 256 b → values.ValueIn w b p q v e f → SmallVal v
  small_value Val.Null w b p q e f hw hb i = tt
  small_value (Val.Int x) w b p q e f hw hb i = let k = values.word_is_lem w b p q e f (Val.Int x) i (λ z. omega arith) in subst (λ (n : ℕ). n < 2 ^ 64) k.1 (hw (p + 1))
  small_value (Val.Str l) w b p q e f hw hb i = part_below 256 b l q f (omega arith) hb i.pool
  small_value (Val.Bytes l) w b p q e f hw hb i = part_below 256 b l q f (omega arith) hb i.pool
  small_value (Val.Ref x) w b p q e f hw hb i = let k = values.word_is_lem w b p q e f (Val.Ref x) i (λ z. omega arith) in subst (λ (n : ℕ). n < 2 ^ 64) k.1 (hw (p + 1))
  small_value (Val.Record vs) w b p q e f hw hb i = small_values vs w b (p + 2) q e f hw hb (values.record_in w b p q e f vs i)
  small_value (Val.Union d v) w b p q e f hw hb i = small_value v w b (p + 2) q e f hw hb (values.union_in w b p q e f d v i)

  small_values : (vs : Vals) (w b : List ℕ) (p q e f : ℕ) → Below (2 ^ 64) w → Below 256 b → values.ValuesIn w b p q vs e f → SmallVals vs
  small_values Vals.NoVal w b p q e f hw hb i = tt
  small_values (Vals.AddVal v vs) w b p q e f hw hb i =
      let k = values.field_in w b p q e f v vs i in
      (small_value v w b p q (p + length (val_words v)) (q + length (val_pool v)) hw hb k.0, small_values vs w b (p + length (val_words v)) (q + length (val_pool v)) e f hw hb k.1)

-- Sheets (document 01's word): the words that write a type down, and the words and the pool that write a value down.
use Rattle.std.specs.Prelude.{ℕ, suc, List, [], ◌∷◌, ◌++◌, length}
use Rattle.format.specs.Tree.{Ty, Tys, Alts, Val, Vals}

unfoldable pub field_count : Tys → ℕ
field_count Tys.NoTy = 0
field_count (Tys.AddTy t ts) = suc (field_count ts)

unfoldable pub alt_count : Alts → ℕ
alt_count Alts.NoAlt = 0
alt_count (Alts.AddAlt d t alts) = suc (alt_count alts)

unfoldable mutual
  pub ty_words : Ty → List ℕ
  ty_words Ty.Int = 1 ∷ []
  ty_words Ty.Str = 2 ∷ []
  ty_words Ty.Bytes = 3 ∷ []
  ty_words (Ty.Ref p) = 4 ∷ p ∷ []
  ty_words (Ty.Record ts) = 5 ∷ field_count ts ∷ tys_words ts
  ty_words (Ty.Union alts) = 6 ∷ alt_count alts ∷ alts_words alts
  ty_words (Ty.Optional t) = 7 ∷ ty_words t

  pub tys_words : Tys → List ℕ
  tys_words Tys.NoTy = []
  tys_words (Tys.AddTy t ts) = ty_words t ++ tys_words ts

  pub alts_words : Alts → List ℕ
  alts_words Alts.NoAlt = []
  alts_words (Alts.AddAlt d t alts) = d ∷ ty_words t ++ alts_words alts

unfoldable pub val_count : Vals → ℕ
val_count Vals.NoVal = 0
val_count (Vals.AddVal v vs) = suc (val_count vs)

unfoldable mutual
  pub val_words : Val → List ℕ
  val_words Val.Null = 0 ∷ []
  val_words (Val.Int w) = 1 ∷ w ∷ []
  val_words (Val.Str s) = 2 ∷ length s ∷ []
  val_words (Val.Bytes s) = 3 ∷ length s ∷ []
  val_words (Val.Ref r) = 4 ∷ r ∷ []
  val_words (Val.Record vs) = 5 ∷ val_count vs ∷ vals_words vs
  val_words (Val.Union d v) = 6 ∷ d ∷ val_words v

  pub vals_words : Vals → List ℕ
  vals_words Vals.NoVal = []
  vals_words (Vals.AddVal v vs) = val_words v ++ vals_words vs

unfoldable mutual
  pub val_pool : Val → List ℕ
  val_pool Val.Null = []
  val_pool (Val.Int w) = []
  val_pool (Val.Str s) = s
  val_pool (Val.Bytes s) = s
  val_pool (Val.Ref r) = []
  val_pool (Val.Record vs) = vals_pool vs
  val_pool (Val.Union d v) = val_pool v

  pub vals_pool : Vals → List ℕ
  vals_pool Vals.NoVal = []
  vals_pool (Vals.AddVal v vs) = val_pool v ++ vals_pool vs

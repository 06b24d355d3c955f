-- A type sheet: the tree that its words write down, if they are admitted. Words are u32: that each is below 2^32 is the code's type.
use Rattle.std.specs.Prelude.{ℕ, zero, suc, ◌≤◌, max, List, [], ◌∷◌, Bool, true, false, ◌≡◌, leb, eqb, length}
use Rattle.std.proofs.Math.Option.{Option, some, none}
use Rattle.format.specs.Answer.{if}
use Rattle.format.specs.Tree.{Ty, Tys, Alts}
use Rattle.format.specs.Sheet.{ty_words}

-- a type has at most 4,096 words
abbrev pub max_type_words : ℕ
max_type_words = 4096

-- a sheet nests at most 320 groups, Record or Union, the empty ones included
abbrev pub max_groups : ℕ
max_groups = 320

-- what was read of the words, and the words behind it; or nothing
pub data Part (A : Type 0) : Type 0 where
  got : A → List ℕ → Part A
  no : Part A

abbrev pub map : {A B : Type 0} → (A → B) → Part A → Part B
map f (got a r) = got (f a) r
map f no = no

abbrev pub after : {A B : Type 0} → Part A → (A → List ℕ → Part B) → Part B
after (got a r) f = f a r
after no f = no

-- one type that is not optional, where f reads n fields and h reads n alternatives
unfoldable pub one_type : (ℕ → List ℕ → Part Tys) → (ℕ → List ℕ → Part Alts) → List ℕ → Part Ty
one_type f h [] = no
one_type f h (zero ∷ r) = no
one_type f h (suc zero ∷ r) = got Ty.Int r
one_type f h (suc (suc zero) ∷ r) = got Ty.Str r
one_type f h (suc (suc (suc zero)) ∷ r) = got Ty.Bytes r
one_type f h (suc (suc (suc (suc zero))) ∷ []) = no
one_type f h (suc (suc (suc (suc zero))) ∷ p ∷ r) = got (Ty.Ref p) r
one_type f h (suc (suc (suc (suc (suc zero)))) ∷ []) = no
one_type f h (suc (suc (suc (suc (suc zero)))) ∷ n ∷ r) = map Ty.Record (f n r)
one_type f h (suc (suc (suc (suc (suc (suc zero))))) ∷ []) = no
one_type f h (suc (suc (suc (suc (suc (suc zero))))) ∷ n ∷ r) = map Ty.Union (h n r)
one_type f h (suc (suc (suc (suc (suc (suc (suc k)))))) ∷ r) = no

-- one type, optional where word 7 stands before it; straight behind that no other 7 may stand
unfoldable pub any_type : (ℕ → List ℕ → Part Tys) → (ℕ → List ℕ → Part Alts) → List ℕ → Part Ty
any_type f h [] = no
any_type f h (k ∷ r) = if (eqb k 7) (map Ty.Optional (one_type f h r)) (one_type f h (k ∷ r))

-- n types, one after the other, each read by p
unfoldable pub types : (List ℕ → Part Ty) → ℕ → List ℕ → Part Tys
types p zero r = got Tys.NoTy r
types p (suc n) r = after (p r) (λ t s. map (Tys.AddTy t) (types p n s))

-- n pairs of a discriminant and a type
unfoldable pub alts : (List ℕ → Part Ty) → ℕ → List ℕ → Part Alts
alts p zero r = got Alts.NoAlt r
alts p (suc n) [] = no
alts p (suc n) (d ∷ r) = after (p r) (λ t s. map (Alts.AddAlt d t) (alts p n s))

-- the type at the front of the words, of at most g groups in one another, and the words behind it
unfoldable pub type_at : ℕ → List ℕ → Part Ty
type_at zero w = any_type (λ n r. no) (λ n r. no) w
type_at (suc g) w = any_type (types (type_at g)) (alts (type_at g)) w

-- how many groups stand in one another
unfoldable mutual
  pub nesting : Ty → ℕ
  nesting Ty.Int = 0
  nesting Ty.Str = 0
  nesting Ty.Bytes = 0
  nesting (Ty.Ref p) = 0
  nesting (Ty.Record ts) = suc (nestings ts)
  nesting (Ty.Union us) = suc (alt_nestings us)
  nesting (Ty.Optional t) = nesting t

  pub nestings : Tys → ℕ
  nestings Tys.NoTy = 0
  nestings (Tys.AddTy t ts) = max (nesting t) (nestings ts)

  pub alt_nestings : Alts → ℕ
  alt_nestings Alts.NoAlt = 0
  alt_nestings (Alts.AddAlt d t us) = max (nesting t) (alt_nestings us)

-- a type that is not optional
abbrev pub NotOptional : Ty → Type 0
NotOptional Ty.Int = Unit {0}
NotOptional Ty.Str = Unit {0}
NotOptional Ty.Bytes = Unit {0}
NotOptional (Ty.Ref p) = Unit {0}
NotOptional (Ty.Record ts) = Unit {0}
NotOptional (Ty.Union us) = Unit {0}
NotOptional (Ty.Optional t) = ⊥

-- no optional type straight inside another
unfoldable mutual
  pub Single : Ty → Type 0
  Single Ty.Int = Unit {0}
  Single Ty.Str = Unit {0}
  Single Ty.Bytes = Unit {0}
  Single (Ty.Ref p) = Unit {0}
  Single (Ty.Record ts) = Singles ts
  Single (Ty.Union us) = SingleAlts us
  Single (Ty.Optional t) = NotOptional t × Single t

  pub Singles : Tys → Type 0
  Singles Tys.NoTy = Unit {0}
  Singles (Tys.AddTy t ts) = Single t × Singles ts

  pub SingleAlts : Alts → Type 0
  SingleAlts Alts.NoAlt = Unit {0}
  SingleAlts (Alts.AddAlt d t us) = Single t × SingleAlts us

-- all of it, and nothing behind
abbrev pub whole : {A : Type 0} → Part A → Option A
whole (got a []) = some a
whole (got a (x ∷ r)) = none
whole no = none

abbrev pub keep : {A : Type 0} → Bool → Option A → Option A
keep true o = o
keep false o = none

abbrev pub is_some : {A : Type 0} → Option A → Bool
is_some (some a) = true
is_some none = false

-- the type of an admitted sheet: used up exactly, of known kinds, within both limits
unfoldable pub type_of : List ℕ → Option Ty
type_of w = keep (leb (length w) max_type_words) (whole (type_at max_groups w))

-- w is the admitted sheet of t
pub record Admitted (w : List ℕ) (t : Ty) : Type 0 where
  pub words : ty_words t ≡ w
  pub single : Single t
  pub deep : nesting t ≤ max_groups
  pub long : length w ≤ max_type_words

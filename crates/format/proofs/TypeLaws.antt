-- A sheet is admitted exactly where it writes a tree down that is not too deep and not too long, and it writes one tree only.
use Prim.Native.Nat.{ℕ, zero, suc, ◌≤◌, max}
use mathlib.Core.List.{List, [], ◌∷◌, ◌++◌, append_assoc, append-nil}
use mathlib.Core.Path.{◌≡◌, refl, ap, sym, ◌∙◌, subst}
use mathlib.Core.Logic.{◌↔◌, ◌≢◌}
use mathlib.Core.Bool.{Bool, true, false}
use mathlib.Core.Option.{Option, some, none}
use lib.Dec.{leb, eqb}
use borrow.Author.Tests.{leb-true, le-leb}
use native.Mathlib.Omega.{arith}
use lib.ListN.{length}
use Rattle.format.specs.Answer.{if}
use Rattle.format.specs.Tree.{Ty, Tys, Alts}
use Rattle.format.specs.Sheet.{ty_words, tys_words, alts_words, field_count, alt_count}
use Rattle.format.specs.TypeSheet.{max_type_words, max_groups, Part, got, no, map, after, one_type, types, alts, any_type, type_at, NotOptional, Single, Singles, SingleAlts, nesting, nestings, alt_nestings, whole, keep, is_some, type_of, Admitted}
use Rattle.format.proofs.Tests.{Test, holds, fails, eqb_test}

-- a type that is not optional opens with no 7
plain_any : (f : ℕ → List ℕ → Part Tys) (h : ℕ → List ℕ → Part Alts) (t : Ty) (r : List ℕ) → NotOptional t → any_type f h (ty_words t ++ r) ≡ one_type f h (ty_words t ++ r)
unfolding any_type ty_words
plain_any f h Ty.Int r o = refl
plain_any f h Ty.Str r o = refl
plain_any f h Ty.Bytes r o = refl
plain_any f h (Ty.Ref p) r o = refl
plain_any f h (Ty.Record ts) r o = refl
plain_any f h (Ty.Union us) r o = refl
plain_any f h (Ty.Optional t) r o = absurd o

-- A tree that is not too deep, and has no optional type straight inside another, is read back, whatever stands behind it.
mutual
  unfolding type_at any_type one_type types alts ty_words field_count alt_count nesting Single

  pub reads_back : (t : Ty) (g : ℕ) (r : List ℕ) → nesting t ≤ g → Single t → type_at g (ty_words t ++ r) ≡ got t r
  reads_back Ty.Int zero r h o = refl
  reads_back Ty.Int (suc g) r h o = refl
  reads_back Ty.Str zero r h o = refl
  reads_back Ty.Str (suc g) r h o = refl
  reads_back Ty.Bytes zero r h o = refl
  reads_back Ty.Bytes (suc g) r h o = refl
  reads_back (Ty.Ref p) zero r h o = refl
  reads_back (Ty.Ref p) (suc g) r h o = refl
  reads_back (Ty.Record ts) zero r h o = absurd (omega arith)
  reads_back (Ty.Record ts) (suc g) r h o = ap (map Ty.Record) (all_back ts g r (omega arith) o)
  reads_back (Ty.Union us) zero r h o = absurd (omega arith)
  reads_back (Ty.Union us) (suc g) r h o = ap (map Ty.Union) (alts_back us g r (omega arith) o)
  reads_back (Ty.Optional t) zero r h o = ap (map Ty.Optional) (sym (plain_any (λ n s. no) (λ n s. no) t r o.0) ∙ reads_back t zero r h o.1)
  reads_back (Ty.Optional t) (suc g) r h o = ap (map Ty.Optional) (sym (plain_any (types (type_at g)) (alts (type_at g)) t r o.0) ∙ reads_back t (suc g) r h o.1)

  pub all_back : (ts : Tys) (g : ℕ) (r : List ℕ) → nestings ts ≤ g → Singles ts → types (type_at g) (field_count ts) (tys_words ts ++ r) ≡ got ts r
  all_back Tys.NoTy g r h o = refl
  all_back (Tys.AddTy t ts) g r h o = rw (append_assoc, reads_back t g (tys_words ts ++ r) (omega arith) o.0) (ap (map (Tys.AddTy t)) (all_back ts g r (omega arith) o.1))

  pub alts_back : (us : Alts) (g : ℕ) (r : List ℕ) → alt_nestings us ≤ g → SingleAlts us → alts (type_at g) (alt_count us) (alts_words us ++ r) ≡ got us r
  alts_back Alts.NoAlt g r h o = refl
  alts_back (Alts.AddAlt d t us) g r h o = rw (append_assoc (ty_words t) (alts_words us) r, reads_back t g (alts_words us ++ r) (omega arith) o.0) (ap (map (Alts.AddAlt d t)) (alts_back us g r (omega arith) o.1))

-- What is read is written down by the words that were read, and is not too deep.
abbrev pub Reads : ℕ → List ℕ → Part Ty → Type 0
Reads g w (got t r) = (w ≡ ty_words t ++ r) × (nesting t ≤ g) × Single t
Reads g w no = Unit {0}

abbrev ReadsAll : ℕ → ℕ → List ℕ → Part Tys → Type 0
ReadsAll g n w (got ts r) = (w ≡ tys_words ts ++ r) × (nestings ts ≤ g) × (field_count ts ≡ n) × Singles ts
ReadsAll g n w no = Unit {0}

abbrev ReadsAlts : ℕ → ℕ → List ℕ → Part Alts → Type 0
ReadsAlts g n w (got us r) = (w ≡ alts_words us ++ r) × (alt_nestings us ≤ g) × (alt_count us ≡ n) × SingleAlts us
ReadsAlts g n w no = Unit {0}

types_read : (g : ℕ) (p : List ℕ → Part Ty) → ((w : List ℕ) → Reads g w (p w)) → (n : ℕ) (w : List ℕ) → ReadsAll g n w (types p n w)
unfolding types tys_words field_count nestings Singles
types_read g p ih zero w = (refl, omega arith, refl, tt)
types_read g p ih (suc n) w = go (p w) (ih w) (λ s. types_read g p ih n s)
  where
    end : (t : Ty) (s : List ℕ) (q : Part Tys) → w ≡ ty_words t ++ s → nesting t ≤ g → Single t → ReadsAll g n s q → ReadsAll g (suc n) w (map (Tys.AddTy t) q)
    end t s (got ts r) e d o h = (cc (append_assoc (ty_words t) (tys_words ts) r), omega (arith, h.1), ap suc h.2, (o, h.3))
    end t s no e d o h = tt

    go : (q : Part Ty) → Reads g w q → ((s : List ℕ) → ReadsAll g n s (types p n s)) → ReadsAll g (suc n) w (after q (λ t s. map (Tys.AddTy t) (types p n s)))
    go (got t s) h k = end t s (types p n s) h.0 h.1 h.2 (k s)
    go no h k = tt

alts_read : (g : ℕ) (p : List ℕ → Part Ty) → ((w : List ℕ) → Reads g w (p w)) → (n : ℕ) (w : List ℕ) → ReadsAlts g n w (alts p n w)
unfolding alts alts_words alt_count alt_nestings SingleAlts
alts_read g p ih zero w = (refl, omega arith, refl, tt)
alts_read g p ih (suc n) [] = tt
alts_read g p ih (suc n) (x ∷ w) = go (p w) (ih w) (λ s. alts_read g p ih n s)
  where
    end : (t : Ty) (s : List ℕ) (q : Part Alts) → w ≡ ty_words t ++ s → nesting t ≤ g → Single t → ReadsAlts g n s q → ReadsAlts g (suc n) (x ∷ w) (map (Alts.AddAlt x t) q)
    end t s (got us r) e d o h = (ap (λ l. x ∷ l) (cc (append_assoc (ty_words t) (alts_words us) r)), omega (arith, h.1), ap suc h.2, (o, h.3))
    end t s no e d o h = tt

    go : (q : Part Ty) → Reads g w q → ((s : List ℕ) → ReadsAlts g n s (alts p n s)) → ReadsAlts g (suc n) (x ∷ w) (after q (λ t s. map (Alts.AddAlt x t) (alts p n s)))
    go (got t s) h k = end t s (alts p n s) h.0 h.1 h.2 (k s)
    go no h k = tt

record_reads : (g n : ℕ) (w : List ℕ) (q : Part Tys) → ReadsAll g n w q → Reads (suc g) (5 ∷ n ∷ w) (map Ty.Record q)
unfolding ty_words nesting Single
record_reads g n w (got ts r) h = (cc (h.0, h.2), omega (arith, h.1), h.3)
record_reads g n w no h = tt

union_reads : (g n : ℕ) (w : List ℕ) (q : Part Alts) → ReadsAlts g n w q → Reads (suc g) (6 ∷ n ∷ w) (map Ty.Union q)
unfolding ty_words nesting Single
union_reads g n w (got us r) h = (cc (h.0, h.2), omega (arith, h.1), h.3)
union_reads g n w no h = tt

-- what is asked of the two readers of groups
abbrev GroupsRead : ℕ → (ℕ → List ℕ → Part Tys) → (ℕ → List ℕ → Part Alts) → Type 0
GroupsRead g f h = ((n : ℕ) (r : List ℕ) → Reads g (5 ∷ n ∷ r) (map Ty.Record (f n r))) × ((n : ℕ) (r : List ℕ) → Reads g (6 ∷ n ∷ r) (map Ty.Union (h n r)))

-- a scalar, or what a group is
one_reads : (g : ℕ) (f : ℕ → List ℕ → Part Tys) (h : ℕ → List ℕ → Part Alts) → GroupsRead g f h → (w : List ℕ) → Reads g w (one_type f h w)
unfolding one_type ty_words nesting Single
one_reads g f h k [] = tt
one_reads g f h k (zero ∷ r) = tt
one_reads g f h k (suc zero ∷ r) = (refl, omega arith, tt)
one_reads g f h k (suc (suc zero) ∷ r) = (refl, omega arith, tt)
one_reads g f h k (suc (suc (suc zero)) ∷ r) = (refl, omega arith, tt)
one_reads g f h k (suc (suc (suc (suc zero))) ∷ []) = tt
one_reads g f h k (suc (suc (suc (suc zero))) ∷ p ∷ r) = (refl, omega arith, tt)
one_reads g f h k (suc (suc (suc (suc (suc zero)))) ∷ []) = tt
one_reads g f h k (suc (suc (suc (suc (suc zero)))) ∷ n ∷ r) = k.0 n r
one_reads g f h k (suc (suc (suc (suc (suc (suc zero))))) ∷ []) = tt
one_reads g f h k (suc (suc (suc (suc (suc (suc zero))))) ∷ n ∷ r) = k.1 n r
one_reads g f h k (suc (suc (suc (suc (suc (suc (suc l)))))) ∷ r) = tt

-- one_type reads no optional type
abbrev PlainPart : Part Ty → Type 0
PlainPart (got t r) = NotOptional t
PlainPart no = Unit {0}

one_plain : (f : ℕ → List ℕ → Part Tys) (h : ℕ → List ℕ → Part Alts) (w : List ℕ) → PlainPart (one_type f h w)
unfolding one_type
one_plain f h [] = tt
one_plain f h (zero ∷ r) = tt
one_plain f h (suc zero ∷ r) = tt
one_plain f h (suc (suc zero) ∷ r) = tt
one_plain f h (suc (suc (suc zero)) ∷ r) = tt
one_plain f h (suc (suc (suc (suc zero))) ∷ []) = tt
one_plain f h (suc (suc (suc (suc zero))) ∷ p ∷ r) = tt
one_plain f h (suc (suc (suc (suc (suc zero)))) ∷ []) = tt
one_plain f h (suc (suc (suc (suc (suc zero)))) ∷ n ∷ r) = group (f n r)
  where
    group : (q : Part Tys) → PlainPart (map Ty.Record q)
    group (got ts s) = tt
    group no = tt
one_plain f h (suc (suc (suc (suc (suc (suc zero))))) ∷ []) = tt
one_plain f h (suc (suc (suc (suc (suc (suc zero))))) ∷ n ∷ r) = group (h n r)
  where
    group : (q : Part Alts) → PlainPart (map Ty.Union q)
    group (got us s) = tt
    group no = tt
one_plain f h (suc (suc (suc (suc (suc (suc (suc k)))))) ∷ r) = tt

optional_reads : (g : ℕ) (w : List ℕ) (q : Part Ty) → PlainPart q → Reads g w q → Reads g (7 ∷ w) (map Ty.Optional q)
unfolding ty_words nesting Single
optional_reads g w (got t r) o h = (ap (λ (l : List ℕ). 7 ∷ l) h.0, h.1, (o, h.2))
optional_reads g w no o h = tt

any_reads : (g : ℕ) (f : ℕ → List ℕ → Part Tys) (h : ℕ → List ℕ → Part Alts) → GroupsRead g f h → (w : List ℕ) → Reads g w (any_type f h w)
unfolding any_type
any_reads g f h k [] = tt
any_reads g f h k (x ∷ r) = go (eqb x 7) (eqb_test x 7)
  where
    go : (b : Bool) → Test (x ≡ 7) (x ≢ 7) b → Reads g (x ∷ r) (if b (map Ty.Optional (one_type f h r)) (one_type f h (x ∷ r)))
    go _ (holds e) = rw e (optional_reads g r (one_type f h r) (one_plain f h r) (one_reads g f h k r))
    go _ (fails e) = one_reads g f h k (x ∷ r)

pub type_reads : (g : ℕ) (w : List ℕ) → Reads g w (type_at g w)
unfolding type_at
type_reads zero w = any_reads zero (λ n r. no) (λ n r. no) (λ n r. tt, λ n r. tt) w
type_reads (suc g) w =
    any_reads (suc g) (types (type_at g)) (alts (type_at g)) (
      λ n r. record_reads g n r (types (type_at g) n r) (types_read g (type_at g) (λ v. type_reads g v) n r),
      λ n r. union_reads g n r (alts (type_at g) n r) (alts_read g (type_at g) (λ v. type_reads g v) n r),
    )
    w

pub read_words : (g : ℕ) (w : List ℕ) {t : Ty} {r : List ℕ} → type_at g w ≡ got t r → (w ≡ ty_words t ++ r) × (nesting t ≤ g) × Single t
read_words g w e = subst (Reads g w) e (type_reads g w)

-- The words of one tree are never the beginning of another's.
pub one_tree : (t t' : Ty) (r r' : List ℕ) → Single t → Single t' → ty_words t ++ r ≡ ty_words t' ++ r' → (t ≡ t') × (r ≡ r')
one_tree t t' r r' o o' e =
    let a = reads_back t (max (nesting t) (nesting t')) r (omega arith) o in
    let b = reads_back t' (max (nesting t) (nesting t')) r' (omega arith) o' in
    let same : got t r ≡ got t' r' = cc in
    (cc, cc)

whole_is : (g : ℕ) (w : List ℕ) {t : Ty} (q : Part Ty) → type_at g w ≡ q → whole q ≡ some t → type_at g w ≡ got t []
whole_is g w (got a []) e h = cc
whole_is g w (got a (x ∷ r)) e h = let z : ◌≡◌ {A = ℕ} 0 1 = cc in absurd (omega arith)
whole_is g w no e h = let z : ◌≡◌ {A = ℕ} 0 1 = cc in absurd (omega arith)

pub admitted : (w : List ℕ) (t : Ty) → (type_of w ≡ some t) ↔ Admitted w t
unfolding type_of
admitted w t = (λ h. fits (leb (length w) max_type_words) refl h, λ a. back a)
  where
    fits : (b : Bool) → leb (length w) max_type_words ≡ b → keep b (whole (type_at max_groups w)) ≡ some t → Admitted w t
    fits true e h =
        let f = read_words max_groups w (whole_is max_groups w (type_at max_groups w) refl h) in
        record { words = sym (f.0 ∙ append-nil (ty_words t)); single = f.2; deep = f.1; long = leb-true _ _ e }
    fits false e h = let z : ◌≡◌ {A = ℕ} 0 1 = cc in absurd (omega arith)

    back : Admitted w t → keep (leb (length w) max_type_words) (whole (type_at max_groups w)) ≡ some t
    back a =
        rw (le-leb (length w) max_type_words a.long)
        (ap whole (subst (λ (l : List ℕ). type_at max_groups l ≡ got t []) (append-nil (ty_words t) ∙ a.words) (reads_back t max_groups [] a.deep a.single)))

-- what an answer of admission says
pub some_of : {A : Type 0} (o : Option A) → is_some o ≡ true → (a : A) × (o ≡ some a)
some_of (some a) e = (a, refl)
some_of none e = let z : ◌≡◌ {A = ℕ} 0 1 = cc in absurd (omega arith)

pub its_tree : (w : List ℕ) → is_some (type_of w) ≡ true → (t : Ty) × Admitted w t
its_tree w h = let o = some_of (type_of w) h in (o.0, (admitted w o.0).0 o.1)

pub no_tree : (w : List ℕ) → is_some (type_of w) ≡ false → (t : Ty) → Admitted w t → ⊥
no_tree w h t a =
    let e = (admitted w t).1 a in
    let k : is_some (type_of w) ≡ true = ap is_some e in
    let z : ◌≡◌ {A = ℕ} 0 1 = cc in
    omega arith

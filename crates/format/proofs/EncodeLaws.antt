-- What an accepted encoding says: its bytes are the value's. So encodings and keys of one type compare as bytes as their values do, and are equal
-- exactly if their values are.
use mathlib.Core.Path.{◌≡◌, refl, sym, ap, ◌∙◌, subst, ap₂}
use mathlib.Core.List.{List, [], ◌++◌, append-nil}
use Prim.Native.Nat.{ℕ, suc, ◌≤◌}
use native.Mathlib.Omega.{arith}
use lib.Dec.{leb, eqb}
use lib.ListN.{length}
use Rattle.format.specs.Answer.{Answer, ok, refused, and_then, if, BadRecord, KeyTooLong}
use Rattle.format.specs.Tree.{Ty, Tys, Val, Vals, val_kind, fields_in}
use Rattle.format.specs.Sheet.{field_count, val_count}
use Rattle.format.specs.Encode.{vals_bytes, encode, encode_typed, key_bytes, encode_key, max_key_bytes, fits, fits_all, of_kind, fine}
use Rattle.format.specs.Order.{then, cmp_bytes, cmp_val}
use Rattle.format.proofs.CompareLaws.{then_eq}
use Rattle.format.proofs.Tests.{leb_test, eqb_test, leb_yes, eqb_yes, passed}
use Rattle.format.proofs.ScalarLaws.{Low, low_nil}
use Rattle.format.proofs.Sound.{Sound}
use Rattle.format.proofs.KindLaws.{built, built_is}
use Rattle.format.proofs.OrderLaws.{order}
use Rattle.format.proofs.KeyLaws.{fields_order}

-- ---- answers taken apart

pub no_answer : {A : Type 0} {n d : ℕ} {a : A} → refused n d ≡ ok a → ⊥
no_answer e = let z : ◌≡◌ {A = ℕ} 0 1 = cc in omega arith

pub then_ok : {A B : Type 0} (g : Answer A) (f : A → Answer B) {b : B} → and_then g f ≡ ok b → (a : A) × (g ≡ ok a) × (f a ≡ ok b)
then_ok (ok a) f e = (a, refl, e)
then_ok (refused n d) f e = absurd (no_answer e)

pub and_fine : (g h : Answer Unit) → and_then g (λ u. h) ≡ fine → (g ≡ fine) × (h ≡ fine)
and_fine (ok u) h e = (refl, e)
and_fine (refused n d) h e = (e, cc)

-- nothing refused, and this is the answer
pub accepted : {A : Type 0} (g : Answer Unit) {z x : A} → and_then g (λ u. ok z) ≡ ok x → (g ≡ fine) × (z ≡ x)
accepted (ok u) e = (refl, cc)
accepted (refused n d) {z} {x} e = (cc, cc)

-- a value whose kind was accepted
pub of_kind_lem : (k : ℕ) (v : Val) (next : Answer Unit) → of_kind k v next ≡ fine → (v ≡ built k v) × (next ≡ fine)
of_kind_lem k v next e = let h = passed _ _ (eqb_test (val_kind v) k) no_answer e in (built_is v ∙ ap (λ (n : ℕ). built n v) h.0, h.1)

-- as many fields as types
pub fits_count : (ts : Tys) (depth : ℕ) (vs : Vals) → fits_all ts depth vs ≡ fine → field_count ts ≡ val_count vs
unfolding fits_all field_count val_count
fits_count Tys.NoTy depth Vals.NoVal f = refl
fits_count Tys.NoTy depth (Vals.AddVal v vs) f = cc
fits_count (Tys.AddTy t ts) depth Vals.NoVal f = cc
fits_count (Tys.AddTy t ts) depth (Vals.AddVal v vs) f = ap suc (fits_count ts depth vs (and_fine (fits t depth v) (fits_all ts depth vs) f).1)

-- ---- fields and whole values

pub encode_order : (t : Ty) (depth : ℕ) (a b : Val) (x y : List ℕ) → encode t depth a ≡ ok x → encode t depth b ≡ ok y → Sound a → Sound b
    → (r s : List ℕ) → Low r → Low s → cmp_bytes (x ++ r) (y ++ s) ≡ then (cmp_val a b) (cmp_bytes r s)
unfolding encode
encode_order t depth a b x y ea eb wa wb r s lr ls =
    rw (← (accepted (fits t depth a) ea).1, ← (accepted (fits t depth b) eb).1) (order depth a b wa wb r s lr ls)

pub typed_order : (t : Ty) (a b : Val) (x y : List ℕ) → encode_typed t a ≡ ok x → encode_typed t b ≡ ok y → Sound a → Sound b
    → cmp_bytes x y ≡ cmp_val a b
unfolding cmp_bytes
typed_order t a b x y ea eb wa wb = simp (append-nil, then_eq) at (encode_order t 0 a b x y ea eb wa wb [] [] low_nil low_nil)

-- ---- keys

-- a key of a record type is the bytes of its fields
pub key_parts : (ts : Tys) (v : Val) (x : List ℕ) → key_bytes (Ty.Record ts) v ≡ ok x
    → (v ≡ Val.Record (fields_in v)) × (fits_all ts 0 (fields_in v) ≡ fine) × (vals_bytes 0 (fields_in v) ≡ x)
unfolding key_bytes built
key_parts ts v x e =
    let p = accepted (of_kind 5 v (if (eqb (field_count ts) (val_count (fields_in v))) (fits_all ts 0 (fields_in v)) (refused BadRecord 0))) e in
    let k = of_kind_lem 5 v _ p.0 in
    (k.0, (passed _ _ (eqb_test (field_count ts) (val_count (fields_in v))) no_answer k.1).1, p.1)

-- and those of fields that fit are a key
pub key_made : (ts : Tys) (vs : Vals) → fits_all ts 0 vs ≡ fine → key_bytes (Ty.Record ts) (Val.Record vs) ≡ ok (vals_bytes 0 vs)
unfolding key_bytes
key_made ts vs f = rw (eqb_yes (field_count ts) (val_count vs) (fits_count ts 0 vs f), f)

-- encode_key gives the key's bytes where they are within the limit
pub key_within : (t : Ty) (v : Val) (x : List ℕ) → encode_key t v ≡ ok x → (key_bytes t v ≡ ok x) × (length x ≤ max_key_bytes)
unfolding encode_key
key_within t v x e =
    let h = then_ok (key_bytes t v) (λ bs. if (leb (length bs) max_key_bytes) (ok bs) (refused KeyTooLong (length bs))) e in
    let p = passed _ _ (leb_test (length h.0) max_key_bytes) no_answer h.2 in
    let same : h.0 ≡ x = cc p.1 in
    (h.1 ∙ ap ok same, rw same at p.0)

pub key_short : (t : Ty) (v : Val) (x : List ℕ) → key_bytes t v ≡ ok x → length x ≤ max_key_bytes → encode_key t v ≡ ok x
unfolding encode_key
key_short t v x e l = rw (e, leb_yes (length x) max_key_bytes l)

-- an accepted key of a record is its fields' bytes
pub key_ok : (ts : Tys) (vs : Vals) (x : List ℕ) → encode_key (Ty.Record ts) (Val.Record vs) ≡ ok x
    → (fits_all ts 0 vs ≡ fine) × (vals_bytes 0 vs ≡ x) × (length x ≤ max_key_bytes)
key_ok ts vs x e =
    let w = key_within (Ty.Record ts) (Val.Record vs) x e in
    let p = key_parts ts (Val.Record vs) x w.0 in
    (p.1, p.2, w.1)

-- keys of one type compare as bytes as their values do
pub key_order : (t : Ty) (a b : Val) (x y : List ℕ) → key_bytes t a ≡ ok x → key_bytes t b ≡ ok y → Sound a → Sound b → cmp_bytes x y ≡ cmp_val a b
unfolding key_bytes cmp_val
key_order Ty.Int a b x y ea eb wa wb = typed_order Ty.Int a b x y ea eb wa wb
key_order Ty.Str a b x y ea eb wa wb = typed_order Ty.Str a b x y ea eb wa wb
key_order Ty.Bytes a b x y ea eb wa wb = typed_order Ty.Bytes a b x y ea eb wa wb
key_order (Ty.Ref p) a b x y ea eb wa wb = typed_order (Ty.Ref p) a b x y ea eb wa wb
key_order (Ty.Union alts) a b x y ea eb wa wb = typed_order (Ty.Union alts) a b x y ea eb wa wb
key_order (Ty.Optional t) a b x y ea eb wa wb = typed_order (Ty.Optional t) a b x y ea eb wa wb
key_order (Ty.Record ts) a b x y ea eb wa wb =
    let p = key_parts ts a x ea in
    let q = key_parts ts b y eb in
    rw (← p.2, ← q.2, fields_order 0 (fields_in a) (fields_in b) (subst Sound p.0 wa) (subst Sound q.0 wb)) (sym (ap₂ cmp_val p.0 q.0))

-- Two ends that are written from values: a span on the field behind the first k (U1), and the beginning of a run in that field (U13).
use Prim.Native.Nat.{Ordering}
use Rattle.std.specs.Prelude.{ℕ, zero, suc, List, ◌∷◌, ◌++◌, ◌≡◌, ◌≢◌, ltb, eqb}
use Rattle.std.proofs.Math.Option.{Option, some, none}
use Rattle.format.specs.Answer.{if, Answer, ok, refused, and_then, BadValue, NoField}
use Rattle.format.specs.Tree.{Ty, Tys, Val, Vals, val_kind, fields_in}
use Rattle.format.specs.Sheet.{field_count, val_count}
use Rattle.format.specs.TypeSheet.{type_of}
use Rattle.format.specs.ValueSheet.{value_of}
use Rattle.format.specs.Scalar.{run_start}
use Rattle.format.specs.Encode.{val_bytes, vals_bytes, fits, fits_all}
use Rattle.format.specs.Order.{cmp_val}
use Rattle.format.specs.Bounds.{above_field}
use Rattle.format.specs.Bounds.{strinc}
use Rattle.format.specs.Calls.{with_type, with_value, with_fields, TwoEnds, both_ends, Bounded}

-- ---- the first k field values

-- with the fields of an admitted Record sheet; another kind is BadValue, as is a sheet that is not admitted
abbrev pub with_record : {A : Type 0} → Option Val → (Vals → Answer A) → Answer A
with_record none f = refused BadValue 0
with_record (some v) f = if (eqb (val_kind v) 5) (f (fields_in v)) (refused BadValue 0)

-- the types of the first k fields
unfoldable pub first_tys : ℕ → Tys → Tys
first_tys zero ts = Tys.NoTy
first_tys (suc k) Tys.NoTy = Tys.NoTy
first_tys (suc k) (Tys.AddTy t ts) = Tys.AddTy t (first_tys k ts)

-- the type of field k (Int past the last; the calls check the number first)
unfoldable pub field_type : ℕ → Tys → Ty
field_type k Tys.NoTy = Ty.Int
field_type zero (Tys.AddTy t ts) = t
field_type (suc k) (Tys.AddTy t ts) = field_type k ts

-- the types of the first k fields and of the one behind them; NoField where the type is no record or has none there
abbrev pub with_next : {A : Type 0} → Ty → ℕ → (Tys → Ty → Answer A) → Answer A
with_next t k f = with_fields t (λ ts. if (ltb k (field_count ts)) (f (first_tys k ts) (field_type k ts)) (refused NoField 0))

-- ---- a span on the next field

-- the k fields and the lowest; the k fields, the highest and FF
abbrev pub span_ends : Vals → Val → Val → TwoEnds
span_ends vs lo hi = record { low = vals_bytes 0 vs ++ val_bytes 0 lo; high = above_field (vals_bytes 0 vs ++ val_bytes 0 hi) }

-- what refuses the k values, the lowest and the highest under their types, bare at depth 0; else the ends
abbrev pub span_of : Vals → Val → Val → Tys → Ty → Answer TwoEnds
span_of vs lo hi ts u = and_then (fits_all ts 0 vs) (λ a. and_then (fits u 0 lo) (λ b. and_then (fits u 0 hi) (λ c. ok (span_ends vs lo hi))))

-- BadType; BadValue, the sheets in the order given; NoField; what refuses the values
unfoldable pub span_for : (ty words pool low_words low_pool high_words high_pool : List ℕ) → Answer TwoEnds
span_for ty words pool low_words low_pool high_words high_pool =
    with_type (type_of ty) (λ t. with_record (value_of words pool) (λ vs. with_value (value_of low_words low_pool) (λ lo. with_value (value_of high_words high_pool) (λ hi.
    with_next t (val_count vs) (span_of vs lo hi)))))

-- and then NoRoom
unfoldable pub span_call : (ty words pool low_words low_pool high_words high_pool lower upper : List ℕ) → Bounded
span_call ty words pool low_words low_pool high_words high_pool lower upper = both_ends lower upper (span_for ty words pool low_words low_pool high_words high_pool)

-- a value lies in a span, both ends included
pub record InSpan (lo hi v : Val) : Type 0 where
  pub from_lowest : cmp_val lo v ≢ Ordering.gt
  pub to_highest : cmp_val v hi ≢ Ordering.gt

-- ---- the beginning of a run in the next field

-- the mark of a Str or a Bytes, of an optional one too; 0 where the type is another
abbrev pub run_mark : Ty → ℕ
run_mark Ty.Int = 0
run_mark Ty.Str = 0x21
run_mark Ty.Bytes = 0x53
run_mark (Ty.Ref p) = 0
run_mark (Ty.Record ts) = 0
run_mark (Ty.Union us) = 0
run_mark (Ty.Optional t) = run_mark t

-- with that mark; a type of another kind is NoField
abbrev pub with_run : {A : Type 0} → Ty → (ℕ → Answer A) → Answer A
with_run u f = if (eqb (run_mark u) 0) (refused NoField 0) (f (run_mark u))

-- the mark and the bytes of s, each 00 as 00 FF, before the run's end
abbrev pub field_start : (mark : ℕ) → (s : List ℕ) → List ℕ
field_start mark s = mark ∷ run_start s

-- the k fields, and that
abbrev pub start_end : Vals → (mark : ℕ) → (s : List ℕ) → List ℕ
start_end vs mark s = vals_bytes 0 vs ++ field_start mark s

-- that, and strinc of it
abbrev pub start_ends : Vals → (mark : ℕ) → (s : List ℕ) → Answer TwoEnds
start_ends vs mark s = and_then (strinc (start_end vs mark s)) (λ high. ok (record { low = start_end vs mark s; high = high }))

-- NoField by the next field's kind, before what refuses the k values under their types; else the ends
abbrev pub prefix_of : Vals → (s : List ℕ) → Tys → Ty → Answer TwoEnds
prefix_of vs s ts u = with_run u (λ mark. and_then (fits_all ts 0 vs) (λ a. start_ends vs mark s))

-- BadType; BadValue; NoField; what refuses the k values
unfoldable pub prefix_for : (ty words pool s : List ℕ) → Answer TwoEnds
prefix_for ty words pool s = with_type (type_of ty) (λ t. with_record (value_of words pool) (λ vs. with_next t (val_count vs) (prefix_of vs s)))

-- and then NoRoom
unfoldable pub prefix_call : (ty words pool s lower upper : List ℕ) → Bounded
prefix_call ty words pool s lower upper = both_ends lower upper (prefix_for ty words pool s)

-- x begins with the bytes of s
abbrev pub Begins : (s x : List ℕ) → Type 0
Begins s x = (rest : List ℕ) × (x ≡ s ++ rest)

-- a Str or Bytes whose bytes begin with those of s; a blank never does
abbrev pub BeginsWith : List ℕ → Val → Type 0
BeginsWith s Val.Null = ⊥
BeginsWith s (Val.Int w) = ⊥
BeginsWith s (Val.Str x) = Begins s x
BeginsWith s (Val.Bytes x) = Begins s x
BeginsWith s (Val.Ref r) = ⊥
BeginsWith s (Val.Record vs) = ⊥
BeginsWith s (Val.Union d v) = ⊥

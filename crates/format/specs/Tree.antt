-- Types and values as trees: what a sheet says.
use Rattle.std.specs.Prelude.{ℕ, List, []}

mutual
  -- a declared type; Ref is a reference to a predicate
  pub data Ty : Type 0 where
    Int : Ty
    Str : Ty
    Bytes : Ty
    Ref : ℕ → Ty
    Record : Tys → Ty
    Union : Alts → Ty
    Optional : Ty → Ty

  -- the fields of a record type, in order
  pub data Tys : Type 0 where
    NoTy : Tys
    AddTy : Ty → Tys → Tys

  -- the alternatives of a union type, in order: discriminant and type
  pub data Alts : Type 0 where
    NoAlt : Alts
    AddAlt : ℕ → Ty → Alts → Alts

mutual
  -- a value: an integer is its 64-bit word, from 2^63 up meaning w - 2^64; a Ref is its raw 64 bits
  pub data Val : Type 0 where
    Null : Val
    Int : ℕ → Val
    Str : List ℕ → Val
    Bytes : List ℕ → Val
    Ref : ℕ → Val
    Record : Vals → Val
    Union : ℕ → Val → Val

  -- the fields of a record, in order
  pub data Vals : Type 0 where
    NoVal : Vals
    AddVal : Val → Vals → Vals

-- the kind's number on a value sheet
abbrev pub val_kind : Val → ℕ
val_kind Val.Null = 0
val_kind (Val.Int w) = 1
val_kind (Val.Str s) = 2
val_kind (Val.Bytes s) = 3
val_kind (Val.Ref r) = 4
val_kind (Val.Record vs) = 5
val_kind (Val.Union d v) = 6

-- the parts of a value (0, [], no field, Null where its kind has none)
abbrev pub number_in : Val → ℕ
number_in Val.Null = 0
number_in (Val.Int w) = w
number_in (Val.Str s) = 0
number_in (Val.Bytes s) = 0
number_in (Val.Ref r) = r
number_in (Val.Record vs) = 0
number_in (Val.Union d v) = d

abbrev pub run_in : Val → List ℕ
run_in Val.Null = []
run_in (Val.Int w) = []
run_in (Val.Str s) = s
run_in (Val.Bytes s) = s
run_in (Val.Ref r) = []
run_in (Val.Record vs) = []
run_in (Val.Union d v) = []

abbrev pub fields_in : Val → Vals
fields_in Val.Null = Vals.NoVal
fields_in (Val.Int w) = Vals.NoVal
fields_in (Val.Str s) = Vals.NoVal
fields_in (Val.Bytes s) = Vals.NoVal
fields_in (Val.Ref r) = Vals.NoVal
fields_in (Val.Record vs) = vs
fields_in (Val.Union d v) = Vals.NoVal

abbrev pub payload_in : Val → Val
payload_in Val.Null = Val.Null
payload_in (Val.Int w) = Val.Null
payload_in (Val.Str s) = Val.Null
payload_in (Val.Bytes s) = Val.Null
payload_in (Val.Ref r) = Val.Null
payload_in (Val.Record vs) = Val.Null
payload_in (Val.Union d v) = v

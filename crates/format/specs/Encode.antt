-- Encoding: a value's bytes, and what refuses a value under a type.
use Rattle.std.specs.Prelude.{ℕ, ◌+◌, ◌-◌, List, [], ◌∷◌, ◌++◌, ltb, leb, eqb, length}
use Rattle.format.specs.Answer.{if, Answer, ok, refused, and_then, BadRecord, KeyTooLong, FactRefPredicate, ReservedFactId, UnknownDiscriminant, TypeMismatch, BadUnion}
use Rattle.format.specs.Tree.{Ty, Tys, Alts, Val, Vals, val_kind, number_in, fields_in, payload_in}
use Rattle.format.specs.Sheet.{field_count, val_count}
use Rattle.format.specs.Scalar.{int_bytes, uint_bytes, str_bytes, bytes_bytes, ref_bytes, predicate_of, sequence_of}

-- a null: 00 FF inside a group, 00 at depth 0 (only an optional type takes it)
abbrev pub null_bytes : ℕ → List ℕ
null_bytes depth = if (ltb 0 depth) (0 ∷ 0xFF ∷ []) (0 ∷ [])

-- the bytes of a value at a depth: its type has no part in them. Record is 22, fields, 00; Union is 52, the discriminant, the payload, 00
unfoldable mutual
  pub val_bytes : ℕ → Val → List ℕ
  val_bytes depth Val.Null = null_bytes depth
  val_bytes depth (Val.Int w) = int_bytes w
  val_bytes depth (Val.Str s) = str_bytes s
  val_bytes depth (Val.Bytes s) = bytes_bytes s
  val_bytes depth (Val.Ref r) = ref_bytes r
  val_bytes depth (Val.Record vs) = 0x22 ∷ (vals_bytes (depth + 1) vs ++ 0 ∷ [])
  val_bytes depth (Val.Union d v) = 0x52 ∷ (uint_bytes d ++ (val_bytes (depth + 1) v ++ 0 ∷ []))

  pub vals_bytes : ℕ → Vals → List ℕ
  vals_bytes depth Vals.NoVal = []
  vals_bytes depth (Vals.AddVal v vs) = val_bytes depth v ++ vals_bytes depth vs

-- nothing refuses
abbrev pub fine : Answer Unit
fine = ok tt

-- a value of another kind is TypeMismatch with the type's kind
abbrev pub of_kind : ℕ → Val → Answer Unit → Answer Unit
of_kind k v next = if (eqb (val_kind v) k) next (refused TypeMismatch k)

-- any BadRecord or TypeMismatch from within a union becomes BadUnion with its tag; so the innermost such union's tag stays
unfoldable pub in_union : {A : Type 0} → ℕ → Answer A → Answer A
in_union tag (ok a) = ok a
in_union tag (refused n d) = if (eqb n BadRecord) (refused BadUnion tag) (if (eqb n TypeMismatch) (refused BadUnion tag) (refused n d))

-- a reference: sequence 0 is ReservedFactId, then another predicate FactRefPredicate with the one found
unfoldable pub fits_ref : ℕ → ℕ → Answer Unit
fits_ref p r = if (eqb (sequence_of r) 0) (refused ReservedFactId 0) (if (eqb (predicate_of r) p) fine (refused FactRefPredicate (predicate_of r)))

-- a group may open at depth 0 to 255, not at 256
abbrev pub max_depth : ℕ
max_depth = 256

abbrev pub group_at : {A : Type 0} → ℕ → Answer A → Answer A
group_at depth inside = if (ltb depth max_depth) inside (refused BadRecord 0)

-- what refuses a value under a type at a depth: a record by kind, count, depth, then fields in order; a union by kind, discriminant, depth, payload
unfoldable mutual
  pub fits : Ty → ℕ → Val → Answer Unit
  fits Ty.Int depth v = of_kind 1 v fine
  fits Ty.Str depth v = of_kind 2 v fine
  fits Ty.Bytes depth v = of_kind 3 v fine
  fits (Ty.Ref p) depth v = of_kind 4 v (fits_ref p (number_in v))
  fits (Ty.Record ts) depth v =
      of_kind 5 v (if (eqb (field_count ts) (val_count (fields_in v))) (group_at depth (fits_all ts (depth + 1) (fields_in v))) (refused BadRecord 0))
  fits (Ty.Union alts) depth v = of_kind 6 v (fits_union alts depth (number_in v) (payload_in v))
  fits (Ty.Optional t) depth v = if (eqb (val_kind v) 0) fine (fits t depth v)

  -- the fields of a record in order (unequal counts, which the record's own check excludes, are BadRecord)
  pub fits_all : Tys → ℕ → Vals → Answer Unit
  fits_all Tys.NoTy depth Vals.NoVal = fine
  fits_all Tys.NoTy depth (Vals.AddVal v vs) = refused BadRecord 0
  fits_all (Tys.AddTy t ts) depth Vals.NoVal = refused BadRecord 0
  fits_all (Tys.AddTy t ts) depth (Vals.AddVal v vs) = and_then (fits t depth v) (λ u. fits_all ts depth vs)

  -- a union's payload under the first alternative with its discriminant
  pub fits_union : Alts → ℕ → ℕ → Val → Answer Unit
  fits_union Alts.NoAlt depth disc v = refused UnknownDiscriminant disc
  fits_union (Alts.AddAlt e t alts) depth disc v =
      if (eqb e disc) (in_union disc (group_at depth (fits t (depth + 1) v))) (fits_union alts depth disc v)

-- a value under a type at a depth
unfoldable pub encode : Ty → ℕ → Val → Answer (List ℕ)
encode t depth v = and_then (fits t depth v) (λ u. ok (val_bytes depth v))

-- a whole value: a top record is a group
abbrev pub encode_typed : Ty → Val → Answer (List ℕ)
encode_typed t v = encode t 0 v

-- the bytes of a key: a record's fields bare at depth 0, any other type as encode_typed
unfoldable pub key_bytes : Ty → Val → Answer (List ℕ)
key_bytes Ty.Int v = encode_typed Ty.Int v
key_bytes Ty.Str v = encode_typed Ty.Str v
key_bytes Ty.Bytes v = encode_typed Ty.Bytes v
key_bytes (Ty.Ref p) v = encode_typed (Ty.Ref p) v
key_bytes (Ty.Record ts) v =
    and_then (of_kind 5 v (if (eqb (field_count ts) (val_count (fields_in v))) (fits_all ts 0 (fields_in v)) (refused BadRecord 0))) (λ u. ok (vals_bytes 0 (fields_in v)))
key_bytes (Ty.Union alts) v = encode_typed (Ty.Union alts) v
key_bytes (Ty.Optional t) v = encode_typed (Ty.Optional t) v

-- a key has at most 65,535 bytes less those of a predicate's id
abbrev pub predicate_id_size : ℕ
predicate_id_size = 4

abbrev pub max_key_bytes : ℕ
max_key_bytes = 65535 - predicate_id_size

-- a key within the limit, or KeyTooLong with its length
unfoldable pub encode_key : Ty → Val → Answer (List ℕ)
encode_key t v = and_then (key_bytes t v) (λ bs. if (leb (length bs) max_key_bytes) (ok bs) (refused KeyTooLong (length bs)))

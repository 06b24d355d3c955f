-- Decoding: the value that bytes hold under a type, what is left of the bytes, and how many values were begun; or the refusal, with that count.
use Rattle.std.specs.Prelude.{ℕ, ◌+◌, List, [], ◌∷◌, ltb, eqb}
use Rattle.format.specs.Answer.{if, UnexpectedEof, UnexpectedMark, BadRecord, UnknownDiscriminant}
use Rattle.format.specs.Tree.{Ty, Tys, Alts, Val, Vals}
use Rattle.format.specs.Encode.{max_depth}
use Rattle.format.specs.Read.{Read, get_int, get_str, get_bytes, get_ref, get_uint, ends_here, null_at}

-- a decoded value, the bytes behind it and the values begun; or a refusal and the values begun
pub data Decoded (A : Type 0) : Type 0 where
  got : A → List ℕ → ℕ → Decoded A
  bad : ℕ → ℕ → ℕ → Decoded A

-- a scalar is one value begun
abbrev pub scalar : {A : Type 0} → (A → Val) → Read A → Decoded Val
scalar f (Read.got a rest) = Decoded.got (f a) rest 1
scalar f (Read.bad n d) = Decoded.bad n d 1

-- k values were begun before, and what was read is part of more
abbrev pub after : {A B : Type 0} → ℕ → (A → B) → Decoded A → Decoded B
after k f (Decoded.got a rest j) = Decoded.got (f a) rest (k + j)
after k f (Decoded.bad n d j) = Decoded.bad n d (k + j)

-- one thing and then another
abbrev pub both : {A B C : Type 0} → Decoded A → (List ℕ → Decoded B) → (A → B → C) → Decoded C
both (Decoded.got a rest k) f g = after k (g a) (f rest)
both (Decoded.bad n d k) f g = Decoded.bad n d k

-- the end of a union: 00 not followed by FF; else UnexpectedMark with the byte met, or UnexpectedEof
unfoldable pub union_end : {A : Type 0} → Decoded A → Decoded A
union_end (Decoded.got a [] k) = Decoded.bad UnexpectedEof 0 k
union_end (Decoded.got a (b ∷ bs) k) = if (ends_here (b ∷ bs)) (Decoded.got a bs k) (Decoded.bad UnexpectedMark b k)
union_end (Decoded.bad n d k) = Decoded.bad n d k

-- a group's mark
abbrev pub opened : {A : Type 0} → ℕ → (List ℕ → Decoded A) → List ℕ → Decoded A
opened mark f [] = Decoded.bad UnexpectedEof 0 1
opened mark f (m ∷ bs) = if (eqb m mark) (f bs) (Decoded.bad UnexpectedMark m 1)

-- what follows a tag that was read, where the depth allows a group
abbrev pub with_tag : {A : Type 0} → ℕ → Read ℕ → (ℕ → List ℕ → Decoded A) → Decoded A
with_tag depth (Read.bad n d) f = Decoded.bad n d 1
with_tag depth (Read.got tag rest) f = if (ltb depth max_depth) (f tag rest) (Decoded.bad BadRecord 0 1)

-- a null, which is one value begun, where one stands; else what is read there
abbrev pub blank_or : Read Unit → Decoded Val → Decoded Val
blank_or (Read.got u rest) filled = Decoded.got Val.Null rest 1
blank_or (Read.bad n d) filled = filled

unfoldable mutual
  -- a value of a type, at a depth
  pub decode : Ty → ℕ → List ℕ → Decoded Val
  decode Ty.Int depth bs = scalar Val.Int (get_int bs)
  decode Ty.Str depth bs = scalar Val.Str (get_str bs)
  decode Ty.Bytes depth bs = scalar Val.Bytes (get_bytes bs)
  decode (Ty.Ref p) depth bs = scalar Val.Ref (get_ref p bs)
  decode (Ty.Record ts) depth bs =
      opened 0x22 (λ rest. if (ltb depth max_depth) (after 1 Val.Record (decode_group ts (depth + 1) rest)) (Decoded.bad BadRecord 0 1)) bs
  decode (Ty.Union alts) depth bs = opened 0x52 (λ rest. with_tag depth (get_uint rest) (λ tag more. decode_union alts depth tag more)) bs
  decode (Ty.Optional t) depth bs = blank_or (null_at depth bs) (decode t depth bs)

  -- a group's fields and its end: an early or a late end is BadRecord
  pub decode_group : Tys → ℕ → List ℕ → Decoded Vals
  decode_group Tys.NoTy depth [] = Decoded.bad UnexpectedEof 0 0
  decode_group Tys.NoTy depth (b ∷ bs) = if (ends_here (b ∷ bs)) (Decoded.got Vals.NoVal bs 0) (Decoded.bad BadRecord 0 0)
  decode_group (Tys.AddTy t ts) depth [] = Decoded.bad UnexpectedEof 0 0
  decode_group (Tys.AddTy t ts) depth (b ∷ bs) =
      if (ends_here (b ∷ bs)) (Decoded.bad BadRecord 0 0) (both (decode t depth (b ∷ bs)) (λ rest. decode_group ts depth rest) Vals.AddVal)

  -- the payload under the first alternative with the tag
  pub decode_union : Alts → ℕ → ℕ → List ℕ → Decoded Val
  decode_union Alts.NoAlt depth tag bs = Decoded.bad UnknownDiscriminant tag 1
  decode_union (Alts.AddAlt e t alts) depth tag bs =
      if (eqb e tag) (after 1 (Val.Union tag) (union_end (decode t (depth + 1) bs))) (decode_union alts depth tag bs)

-- a bare record's fields
unfoldable pub decode_bare : Tys → List ℕ → Decoded Vals
decode_bare Tys.NoTy bs = Decoded.got Vals.NoVal bs 0
decode_bare (Tys.AddTy t ts) bs = both (decode t 0 bs) (λ rest. decode_bare ts rest) Vals.AddVal

-- nothing may be left: UnexpectedMark with the first byte left
unfoldable pub whole : {A : Type 0} → Decoded A → Decoded A
whole (Decoded.got a [] k) = Decoded.got a [] k
whole (Decoded.got a (b ∷ bs) k) = Decoded.bad UnexpectedMark b k
whole (Decoded.bad n d k) = Decoded.bad n d k

-- a whole value: a top record is a group
abbrev pub decode_typed : Ty → List ℕ → Decoded Val
decode_typed t bs = whole (decode t 0 bs)

-- a key: a record's fields bare, which counts none for the record; any other type as a field
unfoldable pub decode_key : Ty → List ℕ → Decoded Val
decode_key Ty.Int bs = decode_typed Ty.Int bs
decode_key Ty.Str bs = decode_typed Ty.Str bs
decode_key Ty.Bytes bs = decode_typed Ty.Bytes bs
decode_key (Ty.Ref p) bs = decode_typed (Ty.Ref p) bs
decode_key (Ty.Record ts) bs = whole (after 0 Val.Record (decode_bare ts bs))
decode_key (Ty.Union alts) bs = decode_typed (Ty.Union alts) bs
decode_key (Ty.Optional t) bs = decode_typed (Ty.Optional t) bs

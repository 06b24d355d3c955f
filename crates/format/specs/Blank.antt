-- Blank fields (U2): what is claimed of optional types, of every type behind word 7 (proofs/Blank has the proofs). Order, replacement and bounds with optional
-- fields are demand 3, which speaks of every type that a sheet writes down.
use Prim.Native.Nat.{Ordering}
use Rattle.std.specs.Prelude.{ℕ, suc, ◌<◌, List, [], ◌∷◌, ◌≡◌, ◌≢◌, length}
use Rattle.std.proofs.Math.Option.{some, none}
use Rattle.format.specs.Answer.{Answer, ok, refused, NoField}
use Rattle.format.specs.Tree.{Ty, Tys, Val}
use Rattle.format.specs.Sheet.{val_words}
use Rattle.format.specs.TypeSheet.{max_type_words, nesting, NotOptional, Single, type_of}
use Rattle.format.specs.Encode.{encode, key_bytes, encode_typed}
use Rattle.format.specs.Read.{Read, null_at}
use Rattle.format.specs.Decode.{Decoded, decode, decode_key, decode_typed}
use Rattle.format.specs.Order.{cmp_val}
use Rattle.format.specs.Calls.{with_fields, written, filled, encode_typed_call, encode_key_call, decode_typed_call, decode_key_call, bounds_call, replace_call}

pub record Blank (t : Ty) : Type 0 where
  -- Null fits: 00 bare at depth 0, 00 FF inside a group
  pub bare : encode (Ty.Optional t) 0 Val.Null ≡ ok (0 ∷ [])
  pub inside : (depth : ℕ) → encode (Ty.Optional t) (suc depth) Val.Null ≡ ok (0 ∷ 0xFF ∷ [])
  -- with one word on the sheet
  pub word : val_words Val.Null ≡ 0 ∷ []
  -- and is read so, as one value begun, whatever follows
  pub read_bare : (rest : List ℕ) → decode (Ty.Optional t) 0 (0 ∷ rest) ≡ Decoded.got Val.Null rest 1
  pub read_inside : (depth : ℕ) (rest : List ℕ) → decode (Ty.Optional t) (suc depth) (0 ∷ 0xFF ∷ rest) ≡ Decoded.got Val.Null rest 1
  -- a value other than Null is encoded as the type behind word 7, with its refusals
  pub other : (depth : ℕ) (v : Val) → v ≢ Val.Null → encode (Ty.Optional t) depth v ≡ encode t depth v
  -- and so are bytes read that are no null at their depth, with its refusals and its count
  pub read_other : (depth : ℕ) (bytes : List ℕ) (n d : ℕ) → null_at depth bytes ≡ Read.bad n d → decode (Ty.Optional t) depth bytes ≡ decode t depth bytes
  -- no record type, but as other top types
  pub key : (v : Val) → key_bytes (Ty.Optional t) v ≡ encode_typed (Ty.Optional t) v
  pub read_key : (bytes : List ℕ) → decode_key (Ty.Optional t) bytes ≡ decode_typed (Ty.Optional t) bytes
  pub no_record : (f : Tys → Answer (List ℕ)) → with_fields (Ty.Optional t) f ≡ refused NoField 0
  -- no group
  pub no_group : nesting (Ty.Optional t) ≡ nesting t

-- Null sorts before every other value
abbrev pub NullFirst : Type 0
NullFirst = (v : Val) → v ≢ Val.Null → cmp_val Val.Null v ≡ Ordering.lt

-- Word 7 on a sheet: before a type it makes that optional; straight before another 7, or before nothing, it is BadType, and so no sheet that is admitted has an
-- optional type straight inside another, at whatever depth.
pub record OneSeven : Type 0 where
  pub before : (words : List ℕ) (t : Ty) → type_of words ≡ some t → NotOptional t → length words < max_type_words → type_of (7 ∷ words) ≡ some (Ty.Optional t)
  pub twice : (words : List ℕ) → type_of (7 ∷ 7 ∷ words) ≡ none
  pub alone : type_of (7 ∷ []) ≡ none
  pub anywhere : (words : List ℕ) (t : Ty) → type_of words ≡ some t → Single t

-- A top type that opens with word 7, in the whole calls that the contracts cite: a blank is 00, read back as one value begun, and no field is bounded or replaced.
pub record TopCalls (words : List ℕ) : Type 0 where
  pub key : (out : List ℕ) → encode_key_call (7 ∷ words) (0 ∷ []) [] out ≡ written out (ok (0 ∷ []))
  pub typed : (out : List ℕ) → encode_typed_call (7 ∷ words) (0 ∷ []) [] out ≡ written out (ok (0 ∷ []))
  pub read_key : (w p : List ℕ) → decode_key_call (7 ∷ words) (0 ∷ []) w p ≡ filled w p (Decoded.got Val.Null [] 1)
  pub read_typed : (w p : List ℕ) → decode_typed_call (7 ∷ words) (0 ∷ []) w p ≡ filled w p (Decoded.got Val.Null [] 1)
  pub no_bounds : (bytes : List ℕ) (k : ℕ) (lower upper : List ℕ) → bounds_call (7 ∷ words) bytes k lower upper ≡ record { answer = refused NoField 0; lower = lower; upper = upper }
  pub no_replacement : (buffer : List ℕ) (used field : ℕ) (w p : List ℕ) → replace_call (7 ∷ words) buffer used field w p ≡ record { answer = refused NoField 0; buffer = buffer }

abbrev pub OptionalTop : Type 0
OptionalTop = (words : List ℕ) (t : Ty) → type_of words ≡ some t → NotOptional t → length words < max_type_words → TopCalls words

-- What passing over the bare fields of a key answers, by the definition of decoding.
use Rattle.std.specs.Prelude.{◌≡◌, List, ℕ, ◌+◌, ◌≤◌, ◌<◌, length, drop, take, Result, Ok, Err}
use Rattle.format.specs.Tree.{Ty, Tys, Val, Vals, fields_in}
use Rattle.format.specs.Sheet.{field_count, val_count}
use Rattle.format.specs.TypeSheet.{max_groups, nesting, nestings}
use Rattle.format.specs.Encode.{val_bytes, vals_bytes, fits_all, fine}
use Rattle.format.specs.Decode.{Decoded, decode, decode_bare, decode_key, whole}
use Rattle.format.specs.Bounds.{first_bytes}
use Rattle.format.specs.Replace.{field_at}
use Rattle.format.specs.Spans.{field_type}
use Rattle.format.proofs.Bytes.{AllBytes}
use Rattle.format.proofs.TypePlaces.{TypeIn, TypesIn}
use Rattle.format.specs.declared.refusal.Refusal.{Refusal}
use Rattle.format.specs.Refusals.{number_of, detail_of, answered}
use Rattle.format.specs.Answer.{refused}
use Rattle.key.specs.declared.passing.Passed.{Passed}
use Rattle.key.specs.declared.passing.Field.{Field}

-- the places behind what is read, or its refusal
pub data Says {A : Type 0} (bytes : List ℕ) (end : ℕ) : Result Passed Refusal → Decoded A → Type 0 where
  to : {p : Passed} {a : A} {k : ℕ} → p.at ≡ end → p.next ≤ length bytes → Says bytes end (Ok p) (Decoded.got a (drop p.next bytes) k)
  not : {e : Refusal} {k : ℕ} → Says bytes end (Err e) (Decoded.bad (number_of e) (detail_of e) k)

-- of any type that stands at the place
pub record PassesValue (ty : List ℕ) (at : ℕ) (bytes : List ℕ) (i : ℕ) (r : Result Passed Refusal) : Type 0 where
  pub pass : (t : Ty) (e : ℕ) → TypeIn ty at t e → nesting t ≤ max_groups → Says bytes e r (decode t 0 (drop i bytes))

-- of any n field types that stand there
pub record PassesFields (ty : List ℕ) (at n : ℕ) (bytes : List ℕ) (i : ℕ) (r : Result Passed Refusal) : Type 0 where
  pub pass : (ts : Tys) (e : ℕ) → TypesIn ty at ts e → n ≡ field_count ts → nestings ts ≤ max_groups → Says bytes e r (decode_bare ts (drop i bytes))

-- with nothing left over
abbrev pub EndSays : {A : Type 0} → Result Unit Refusal → Decoded A → Type 0
EndSays r (Decoded.got a left k) = r ≡ Ok tt
EndSays r (Decoded.bad n d k) = answered r ≡ refused n d

pub record Ends (ty : List ℕ) (at n : ℕ) (bytes : List ℕ) (i : ℕ) (r : Result Unit Refusal) : Type 0 where
  pub end : (ts : Tys) (e : ℕ) → TypesIn ty at ts e → n ≡ field_count ts → nestings ts ≤ max_groups → EndSays r (whole (decode_bare ts (drop i bytes)))

-- where the first k fields of a key end
abbrev pub SplitSays : (key : List ℕ) (k : ℕ) → Result ℕ Refusal → Decoded Val → Type 0
SplitSays key k r (Decoded.got v left j) =
    (p : ℕ) × (r ≡ Ok p) × (p ≤ length key) × (first_bytes k (fields_in v) ≡ take p key)
SplitSays key k r (Decoded.bad n d j) = answered r ≡ refused n d

pub record Splits (ty : List ℕ) (n : ℕ) (key : List ℕ) (k : ℕ) (r : Result ℕ Refusal) : Type 0 where
  pub splits : (ts : Tys) (e : ℕ) → TypesIn ty 2 ts e → n ≡ field_count ts → nestings ts ≤ max_groups → AllBytes key → SplitSays key k r (decode_key (Ty.Record ts) key)

-- a field of a key: the place of its type, and where it starts and ends
pub record FieldIn (ty : List ℕ) (ts : Tys) (key : List ℕ) (k : ℕ) (vs : Vals) (at start end : ℕ) : Type 0 where
  pub behind : ℕ
  pub typed : TypeIn ty at (field_type k ts) behind
  pub deep : nesting (field_type k ts) ≤ max_groups
  pub starts : start ≡ length (first_bytes k vs)
  pub ends : end ≡ length (first_bytes k vs) + length (val_bytes 0 (field_at k vs))
  pub within : end ≤ length key
  pub bytes : key ≡ vals_bytes 0 vs
  pub fit : fits_all ts 0 vs ≡ fine
  pub inside : k < val_count vs

abbrev pub FindSays : (ty : List ℕ) → Tys → (key : List ℕ) (k : ℕ) → Result Field Refusal → Decoded Val → Type 0
FindSays ty ts key k r (Decoded.got v left j) = (f : Field) × (r ≡ Ok f) × FieldIn ty ts key k (fields_in v) f.at f.start f.end
FindSays ty ts key k r (Decoded.bad n d j) = answered r ≡ refused n d

pub record Finds (ty : List ℕ) (n : ℕ) (key : List ℕ) (k : ℕ) (r : Result Field Refusal) : Type 0 where
  pub finds : (ts : Tys) (e : ℕ) → TypesIn ty 2 ts e → n ≡ field_count ts → nestings ts ≤ max_groups → AllBytes key → FindSays ty ts key k r (decode_key (Ty.Record ts) key)

-- What the walkers' contracts say: a walk over the type and the key that stand at places does what the definition says of them.
use Rattle.std.specs.Prelude.{◌≡◌, Bool, true, false, ℕ, ◌+◌, ◌*◌, ◌^◌, ◌≤◌, ◌<◌, List, eqb, length, drop, Result, Ok, Err}
use Rattle.format.specs.Answer.{if, ok, refused}
use Rattle.format.specs.Tree.{Ty, Tys, Val, Vals}
use Rattle.format.specs.Sheet.{ty_words, tys_words, field_count, val_words, vals_words, val_pool, vals_pool}
use Rattle.format.specs.TypeSheet.{max_groups, nesting, nestings}
use Rattle.format.specs.Decode.{Decoded, decode, decode_group, decode_bare, both, after}
use Rattle.format.specs.Skip.{end_of}
use Rattle.format.specs.Cursor.{group_end}
use Rattle.format.specs.Calls.{Sizes}
use Rattle.format.specs.Refusals.{number_of, detail_of}
use Rattle.format.specs.declared.refusal.Refusal.{Refusal}
use Rattle.format.proofs.TypePlaces.{TypeIn, TypesIn}
use Rattle.format.proofs.FitLaws.{types_in}
use Rattle.sheet.specs.Places.{SkipsAlts}
use Rattle.read.specs.declared.Walked.{Walked}
use Rattle.read.specs.declared.Refused.{Refused}

-- a type, or n field types, stand at a place of a sheet, up to an end
pub record TypeAt (ty : List ℕ) (at : ℕ) : Type 0 where
  pub t : Ty
  pub end : ℕ
  pub here : TypeIn ty at t end
  pub deep : nesting t ≤ max_groups

pub record FieldsAt (ty : List ℕ) (at n : ℕ) : Type 0 where
  pub ts : Tys
  pub end : ℕ
  pub here : TypesIn ty at ts end
  pub count : n ≡ field_count ts
  pub deep : nestings ts ≤ max_groups

-- the words and the pool bytes of a value's sheet, and of those of fields
abbrev pub val_sizes : Val → Sizes
val_sizes v = record { words = length (val_words v); pool = length (val_pool v) }

abbrev pub vals_sizes : Vals → Sizes
vals_sizes vs = record { words = length (vals_words vs); pool = length (vals_pool vs) }

-- the two answers by their parts
abbrev pub good : (at next words pool begun : ℕ) → Walked
good at next words pool begun = record { at = at; next = next; words = words; pool = pool; begun = begun }

abbrev pub bad : Refusal → (begun : ℕ) → Refused
bad e begun = record { why = e; begun = begun }

-- a walk from the place i on that ended well: what was read has the sizes s and k values begun, and `rest` is left of the key. A type of `most` words begins no more
-- values than these, of at most two words each, so no sum is too large. The place in the type is the end where it is asked for.
pub record Well (bytes : List ℕ) (i : ℕ) (asked : Bool) (end most : ℕ) (s : Sizes) (rest : List ℕ) (w : Walked) : Type 0 where
  pub behind : asked ≡ true → w.at ≡ end
  pub left : drop w.next bytes ≡ rest
  pub words_are : w.words ≡ s.words
  pub pool_is : w.pool ≡ s.pool
  pub place : w.next ≤ length bytes
  pub short : i + w.pool ≤ w.next
  pub few : w.begun ≤ most
  pub small : w.words ≤ 2 * most

-- the walk answers what the definition says, where g gives the sizes of what is read
pub data Walks {A : Type 0} (g : A → Sizes) (bytes : List ℕ) (i : ℕ) (asked : Bool) (end most : ℕ) : Result Walked Refused → Decoded A → Type 0 where
  well : {w : Walked} {a : A} {rest : List ℕ} → Well bytes i asked end most (g a) rest w → Walks g bytes i asked end most (Ok w) (Decoded.got a rest w.begun)
  ill : {f : Refused} → f.begun ≤ most → Walks g bytes i asked end most (Err f) (Decoded.bad (number_of f.why) (detail_of f.why) f.begun)

-- the value walker: of any type that stands at the place
pub record ValueWalk (ty : List ℕ) (at : ℕ) (bytes : List ℕ) (i depth : ℕ) (asked : Bool) (r : Result Walked Refused) : Type 0 where
  pub walk : (t : Ty) (e : ℕ) → TypeIn ty at t e → nesting t ≤ max_groups → Walks val_sizes bytes i asked e (length (ty_words t)) r (decode t depth (drop i bytes))

-- fields at a depth: at 0 bare, else those of a group, with its end
abbrev pub fields_at : ℕ → Tys → List ℕ → Decoded Vals
fields_at depth ts bs = if (eqb depth 0) (decode_bare ts bs) (decode_group ts depth bs)

-- the field-list walker: of any n field types that stand at the place; of none, they need to only where the place behind them is asked for
pub record FieldWalk (ty : List ℕ) (at n : ℕ) (bytes : List ℕ) (i depth : ℕ) (asked : Bool) (r : Result Walked Refused) : Type 0 where
  pub walk : (ts : Tys) (e : ℕ) → (asked ≡ true → TypesIn ty at ts e) → (0 < n → TypesIn ty at ts e) → n ≡ field_count ts → nestings ts ≤ max_groups
      → Walks vals_sizes bytes i asked e (length (tys_words ts)) r (fields_at depth ts (drop i bytes))

-- a record's fields bare, with what is left over; none is begun for the record
abbrev pub read_bare : Ty → List ℕ → Decoded Val
read_bare t bs = after 0 Val.Record (decode_bare (types_in t) bs)

pub record BareWalk (ty bytes : List ℕ) (r : Result Walked Refused) : Type 0 where
  pub walk : (t : Ty) (e : ℕ) → TypeIn ty 0 t e → nesting t ≤ max_groups → Walks val_sizes bytes 0 false e (length (ty_words t)) r (read_bare t bytes)

-- ---- the steps

-- a scalar's walk over what is left of a key from the place i on, of its type
pub record LeafWalk (t : Ty) (rest : List ℕ) (i end : ℕ) (r : Result Walked Refused) : Type 0 where
  pub walk : (bytes : List ℕ) → drop i bytes ≡ rest → i ≤ length bytes → (depth : ℕ) (asked : Bool) (most : ℕ) → 0 < most
      → Walks val_sizes bytes i asked end most r (decode t depth rest)

-- the same of whatever scalar type stands at a place
pub record ScalarWalk (ty : List ℕ) (at : ℕ) (rest : List ℕ) (i : ℕ) (r : Result Walked Refused) : Type 0 where
  pub walk : (t : Ty) (e : ℕ) → TypeIn ty at t e → (bytes : List ℕ) → drop i bytes ≡ rest → i ≤ length bytes → (depth : ℕ) (asked : Bool)
      → Walks val_sizes bytes i asked e (length (ty_words t)) r (decode t depth rest)

-- an answer with so many words, pool bytes and values begun before it
abbrev pub plus : (words pool begun : ℕ) → Result Walked Refused → Result Walked Refused
plus w p b (Ok x) = Ok (good x.at x.next (w + x.words) (p + x.pool) (b + x.begun))
plus w p b (Err f) = Err (bad f.why (b + f.begun))

-- two words and a value begun more are not too many
abbrev pub Small : Result Walked Refused → Type 0
Small (Ok x) = (2 + x.words < 2 ^ 64) × (1 + x.begun < 2 ^ 64)
Small (Err f) = 1 + f.begun < 2 ^ 64

-- the place that an answer gives is within the key
abbrev pub InKey : List ℕ → Result Walked Refused → Type 0
InKey bytes (Ok x) = x.next ≤ length bytes
InKey bytes (Err f) = Unit

-- a union's answer from its payload's, with so many alternatives left: the payload's refusal, that of an end, or the places behind its end and its type
pub data ClosesUnion (ty bytes : List ℕ) (left : ℕ) (asked : Bool) : Result Walked Refused → Result Walked Refused → Type 0 where
  kept : {f : Refused} → ClosesUnion ty bytes left asked (Err f) (Err f)
  unended : {x : Walked} {e : Refusal} → refused (number_of e) (detail_of e) ≡ end_of (drop x.next bytes) (group_end (drop x.next bytes)) → ClosesUnion ty bytes left asked (Ok x) (Err (bad e x.begun))
  ended : {x : Walked} {used end : ℕ} → ok used ≡ end_of (drop x.next bytes) (group_end (drop x.next bytes)) → (asked ≡ true → SkipsAlts ty x.at left end)
      → ClosesUnion ty bytes left asked (Ok x) (Ok (good end (x.next + used) x.words x.pool x.begun))

-- may a field begin here? It may, or what refuses one
pub record Begins (depth : ℕ) (bs : List ℕ) (r : Result Unit Refusal) : Type 0 where
  pub yes : r ≡ Ok tt → (t : Ty) (ts : Tys) → fields_at depth (Tys.AddTy t ts) bs ≡ both (decode t depth bs) (fields_at depth ts) Vals.AddVal
  pub not : {e : Refusal} → r ≡ Err e → (t : Ty) (ts : Tys) → fields_at depth (Tys.AddTy t ts) bs ≡ Decoded.bad (number_of e) (detail_of e) 0

-- the place behind fields that are at their end, or what refuses an end here
abbrev pub Finishes : (depth : ℕ) (bytes : List ℕ) (i : ℕ) → Result ℕ Refusal → Type 0
Finishes depth bytes i (Ok next) = (i ≤ next) × (next ≤ length bytes) × (fields_at depth Tys.NoTy (drop i bytes) ≡ Decoded.got Vals.NoVal (drop next bytes) 0)
Finishes depth bytes i (Err e) = fields_at depth Tys.NoTy (drop i bytes) ≡ Decoded.bad (number_of e) (detail_of e) 0

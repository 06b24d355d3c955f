-- What each answer means, with the buffers as a call leaves them.
use Rattle.std.specs.Prelude.{Bool, true, false, ◌≡◌, List, [], ℕ, ◌+◌, ◌≤◌, eqb, length, get_or, Result, Ok, Err}
use Rattle.format.specs.Answer.{if, ok, refused}
use Rattle.format.specs.Tree.{Ty, Tys, Val}
use Rattle.format.specs.Sheet.{ty_words, val_words, val_pool}
use Rattle.format.specs.TypeSheet.{max_groups, nesting, type_of}
use Rattle.format.specs.Decode as format
use Rattle.format.specs.Calls.{Sizes, Filled, Checked, filled, decoded_by, over}
use Rattle.format.proofs.TypePlaces.{TypeIn, ty_kind}
use Rattle.read.specs.Walk.{TypeAt, Walks, val_sizes, read_bare}
use Rattle.format.specs.Refusals.{number_of, detail_of}
use Rattle.read.specs.declared.Walked.{Walked}
use Rattle.read.specs.declared.Refused.{Refused}
use Rattle.decode.specs.declared.Decoded.{Decoded}

-- a decoding call's answer, the values begun and both buffers afterwards
abbrev pub decoded_of : Result Decoded Refused → (words pool : List ℕ) → Filled
decoded_of (Ok d) words pool = record { answer = ok (record { words = d.words; pool = d.pool }); begun = d.begun; words = words; pool = pool }
decoded_of (Err f) words pool = record { answer = refused (number_of f.why) (detail_of f.why); begun = f.begun; words = words; pool = pool }

-- the same of a call that keeps no value
abbrev pub checked_of : Result ℕ Refused → Checked
checked_of (Ok k) = record { answer = ok tt; begun = k }
checked_of (Err f) = record { answer = refused (number_of f.why) (detail_of f.why); begun = f.begun }

-- the call's answer, count and buffers are those of a definition's call, and at most one value more is begun than there are bytes
pub record Decodes (c : Filled) (bytes : List ℕ) (r : Result Decoded Refused) (words pool : List ℕ) : Type 0 where
  pub is : decoded_of r words pool ≡ c
  pub few : (decoded_of r words pool).begun ≤ length bytes + 1

pub record ChecksKey (c : Checked) (bytes : List ℕ) (r : Result ℕ Refused) : Type 0 where
  pub is : checked_of r ≡ c
  pub few : (checked_of r).begun ≤ length bytes + 1

-- ---- within the crate

-- are the fields of the top bare? Those of a key are, where its type is a record
abbrev pub is_bare : Bool → Ty → Bool
is_bare key t = if key (eqb (ty_kind t) (ty_kind (Ty.Record Tys.NoTy))) false

-- a value with what is left over: a record's fields bare, or as any field
abbrev pub read_top : Bool → Ty → List ℕ → format.Decoded Val
read_top true t bs = read_bare t bs
read_top false t bs = format.decode t 0 bs

-- nothing left over, under the type of an admitted sheet
abbrev pub decoded_top : Bool → (ty bytes : List ℕ) → format.Decoded Val
decoded_top key ty bytes = decoded_by (type_of ty) (λ t. format.whole (read_top (is_bare key t) t bytes))

-- how much room a value takes, or the refusal
abbrev pub measured_by : format.Decoded Val → format.Decoded Sizes
measured_by (format.Decoded.got v rest k) = format.Decoded.got (val_sizes v) [] k
measured_by (format.Decoded.bad n d k) = format.Decoded.bad n d k

-- an answer that says so
abbrev pub measure_of : Result Decoded Refused → format.Decoded Sizes
measure_of (Ok d) = format.Decoded.got (record { words = d.words; pool = d.pool }) [] d.begun
measure_of (Err f) = format.Decoded.bad (number_of f.why) (detail_of f.why) f.begun

-- whatever type stands at the top, its fields are bare or not
pub record TopIs (key : Bool) (ty : List ℕ) (bare : Bool) : Type 0 where
  pub is : (t : Ty) (e : ℕ) → TypeIn ty 0 t e → is_bare key t ≡ bare

-- a type stands at the top, and it is a record where its fields are bare
pub record Top (ty : List ℕ) (bare : Bool) : Type 0 where
  pub type : TypeAt ty 0
  pub kind : bare ≡ true → get_or ty 0 0 ≡ 5

-- the walk from the start, of any type that stands there
pub record TopWalk (bare : Bool) (ty bytes : List ℕ) (r : Result Walked Refused) : Type 0 where
  pub walk : (t : Ty) (e : ℕ) → TypeIn ty 0 t e → nesting t ≤ max_groups → Walks val_sizes bytes 0 false e (length (ty_words t)) r (read_top bare t bytes)

pub record Measures (bare : Bool) (ty bytes : List ℕ) (r : Result Decoded Refused) : Type 0 where
  pub is : (t : Ty) (e : ℕ) → TypeIn ty 0 t e → nesting t ≤ max_groups → measure_of r ≡ measured_by (format.whole (read_top bare t bytes))

-- the sheet of what is read whole, over the beginnings of both buffers, where they have room
pub record TopFilled (bare : Bool) (bytes win pin wout pout : List ℕ) : Type 0 where
  pub fills : (t : Ty) (v : Val) (k : ℕ) → read_top bare t bytes ≡ format.Decoded.got v [] k → length (val_words v) ≤ length win → length (val_pool v) ≤ length pin
      → (wout ≡ over (val_words v) win) × (pout ≡ over (val_pool v) pin)

-- the answer and both buffers are those of the definition, a top record's fields bare or as a group
pub record Fills (key : Bool) (ty bytes win pin : List ℕ) (r : Result Decoded Refused) (wout pout : List ℕ) : Type 0 where
  pub is : decoded_of r wout pout ≡ filled win pin (decoded_top key ty bytes)

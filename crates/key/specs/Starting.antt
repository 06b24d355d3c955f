-- What the steps of the prefix call promise: its checks with the next field's mark, the lengths of its ends, and their bytes, by format's definitions.
use Rattle.std.specs.Prelude.{◌≡◌, ◌≢◌, List, ℕ, ◌<◌, ◌^◌, eqb, length, Option, Some, None, Result, Ok, Err}
use Rattle.std.proofs.Math.Option.{some}
use Rattle.format.specs.Answer.{if, refused}
use Rattle.format.specs.Refusals.{number_of, detail_of}
use Rattle.format.specs.Tree.{Ty, Tys, Val, Vals}
use Rattle.format.specs.Sheet.{val_count}
use Rattle.format.specs.ValueSheet.{value_of}
use Rattle.format.specs.Encode.{vals_bytes, fits_all, fine}
use Rattle.format.specs.Calls.{both_ends}
use Rattle.format.specs.Fields.{put}
use Rattle.format.specs.Spans.{field_type, run_mark, start_end, start_ends, prefix_for}
use Rattle.format.proofs.TypePlaces.{TypeIn}
use Rattle.format.specs.declared.refusal.Refusal.{Refusal}
use Rattle.key.specs.declared.bounding.Ends.{Ends}
use Rattle.key.specs.Keys.{BoundsLeft}
use Rattle.key.specs.Firsts.{Firsts}

-- ---- the checks

-- the mark by a kind's number on a type sheet
abbrev pub kind_mark : ℕ → ℕ
kind_mark k = if (eqb k 2) 0x21 (if (eqb k 3) 0x53 0)

-- a mark, of which the definitions write none as 0
abbrev pub mark_in : ℕ → Option ℕ
mark_in m = if (eqb m 0) None (Some m)

-- r is the mark of whatever type stands at a place
pub record MarksRun (ty : List ℕ) (at : ℕ) (r : Option ℕ) : Type 0 where
  pub mark : (t : Ty) (e : ℕ) → TypeIn ty at t e → r ≡ mark_in (run_mark t)

-- the sheets of a call that passed its checks, and the next field's mark
pub record AskedStart (ty words pool : List ℕ) (mark : ℕ) : Type 0 where
  pub firsts : Firsts ty words pool
  pub marked : mark ≡ run_mark (field_type (val_count firsts.vs) firsts.ts)
  pub run : mark ≢ 0

-- that mark, or the refusal of the first check that does not pass
abbrev pub NextSays : (ty words pool : List ℕ) → Result ℕ Refusal → Type 0
NextSays ty words pool (Ok mark) = AskedStart ty words pool mark
NextSays ty words pool (Err e) = (s : List ℕ) → prefix_for ty words pool s ≡ refused (number_of e) (detail_of e)

-- ---- the ends

-- the k fields of a record sheet fit some types, and have n bytes
pub record FirstFit (words pool : List ℕ) (n : ℕ) : Type 0 where
  pub ts : Tys
  pub vs : Vals
  pub first_is : value_of words pool ≡ some (Val.Record vs)
  pub fit : fits_all ts 0 vs ≡ fine
  pub long : n ≡ length (vals_bytes 0 vs)
  pub short : n < 2 ^ 32

-- the lower end stands at the buffer's beginning
pub record PutsStart (words pool : List ℕ) (n mark : ℕ) (s out out' : List ℕ) : Type 0 where
  pub puts : (f : FirstFit words pool n) → out' ≡ put out 0 (start_end f.vs mark s)

-- both ends stand at their buffers' beginnings, or neither does
pub record PutsStarts (words pool : List ℕ) (n mark : ℕ) (s lower upper : List ℕ) (r : Result Ends Refusal) (lower' upper' : List ℕ) : Type 0 where
  pub left : (f : FirstFit words pool n) → BoundsLeft (both_ends lower upper (start_ends f.vs mark s)) r lower' upper'

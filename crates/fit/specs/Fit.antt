-- What the measuring walk answers: where type and value end and how long the encoding is, or the refusal.
use Rattle.std.specs.Prelude.{◌≡◌, Bool, true, List, ℕ, ◌+◌, ◌*◌, ◌≤◌, eqb, length, get_or, Result, Ok, Err}
use Rattle.std.proofs.Math.Seq.{slice}
use Rattle.format.specs.Answer.{if, Answer, ok, refused, and_then}
use Rattle.format.specs.Refusals.{number_of, detail_of}
use Rattle.format.specs.Tree.{Ty, Tys, Alts, Val, Vals}
use Rattle.format.specs.Sheet.{field_count, alt_count, val_count}
use Rattle.format.specs.TypeSheet.{nesting, nestings, alt_nestings, max_groups}
use Rattle.format.specs.ValueSheet.{max_value_words}
use Rattle.format.specs.Scalar.{uint_bytes}
use Rattle.format.specs.Encode.{val_bytes, vals_bytes, fits, fits_all, in_union, fine}
use Rattle.format.proofs.PlainLaws.{plain_pool, plain_bytes}
use Rattle.format.proofs.TypePlaces.{TypeIn, TypesIn, AltsIn}
use Rattle.format.proofs.ValuePlaces.{ValueIn, ValuesIn}
use Rattle.format.specs.declared.refusal.Refusal.{Refusal}
use Rattle.fit.specs.declared.Fitted.{Fitted}

-- ---- what stands at the places

-- a type and a value, up to the places e, f and g
pub record Pair (ty words pool : List ℕ) (t w p : ℕ) (T : Ty) (v : Val) (e f g : ℕ) : Type 0 where
  pub type : TypeIn ty t T e
  pub deep : nesting T ≤ max_groups
  pub value : ValueIn words pool w p v f g

-- n types and n values in a row
pub record Row (ty words pool : List ℕ) (t w p n : ℕ) (ts : Tys) (vs : Vals) (e f g : ℕ) : Type 0 where
  pub types : TypesIn ty t ts e
  pub deep : nestings ts ≤ max_groups
  pub values : ValuesIn words pool w p vs f g
  pub count : field_count ts ≡ n
  pub same : val_count vs ≡ n

-- some type and some value, in sheets of admitted size
pub record Standing (ty words pool : List ℕ) (t w p : ℕ) : Type 0 where
  pub T : Ty
  pub v : Val
  pub e : ℕ
  pub f : ℕ
  pub g : ℕ
  pub here : Pair ty words pool t w p T v e f g
  pub few : length words ≤ max_value_words
  pub small : length pool ≤ max_value_words

pub record StandingRow (ty words pool : List ℕ) (t w p n : ℕ) : Type 0 where
  pub ts : Tys
  pub vs : Vals
  pub e : ℕ
  pub f : ℕ
  pub g : ℕ
  pub here : Row ty words pool t w p n ts vs e f g
  pub few : length words ≤ max_value_words
  pub small : length pool ≤ max_value_words

-- the place of a type itself: behind word 7, where that stands before it
abbrev pub plain_place : List ℕ → ℕ → ℕ
plain_place ty t = if (eqb (get_or ty t 0) 7) (t + 1) t

-- ---- answers

-- what the walk returns
abbrev pub Outcome : Type 0
Outcome = Result Fitted Refusal

abbrev pub answer_of : Outcome → Answer Unit
answer_of (Ok x) = fine
answer_of (Err e) = refused (number_of e) (detail_of e)

-- the places behind what fits, and its length
abbrev pub placed : (at word pool len : ℕ) → Fitted
placed at word pool len = record { at = at; word = word; pool = pool; len = len }

-- the Int, Str or Bytes with the kind k and the second word x, and a reference that was judged
abbrev pub leaf_in : (pool : List ℕ) (k x t w p : ℕ) → Fitted
leaf_in pool k x t w p = placed (t + 1) (w + 2) (p + plain_pool k x) (length (plain_bytes k x (slice p (p + plain_pool k x) pool)))

abbrev pub ref_in : Answer Unit → (t w p : ℕ) → Answer Fitted
ref_in a t w p = and_then a (λ u. ok (placed (t + 2) (w + 2) p 9))

abbrev pub len_of : Outcome → ℕ
len_of (Ok x) = x.len
len_of (Err e) = 0

abbrev pub longer : ℕ → Outcome → Outcome
longer k (Ok x) = Ok (placed x.at x.word x.pool (x.len + k))
longer k (Err e) = Err e

-- where it fits, these are the ends of words and pool and the length; the place in the type is its end where that is asked for
abbrev pub EndsAt : Bool → (e f g n : ℕ) → Outcome → Type 0
EndsAt asked e f g n (Ok x) = (asked ≡ true → x.at ≡ e) × (x.word ≡ f) × (x.pool ≡ g) × (x.len ≡ n)
EndsAt asked e f g n (Err d) = Unit {0}

-- what the walk says of what stands there: a of the refusal, and of the ends and the length
pub record Says (a : Answer Unit) (asked : Bool) (e f g n : ℕ) (r : Outcome) : Type 0 where
  pub answer : answer_of r ≡ a
  pub ends : EndsAt asked e f g n r

-- where it fits, the length is at most 6 for each word that was passed, and 2 for each byte: so no sum is too large
abbrev pub Brief : (words pool : List ℕ) (w p : ℕ) → Outcome → Type 0
Brief words pool w p (Ok x) = (w ≤ x.word) × (x.word ≤ length words) × (p ≤ x.pool) × (x.pool ≤ length pool) × (x.len + (6 * w + 2 * p) ≤ 6 * x.word + 2 * x.pool)
Brief words pool w p (Err e) = Unit {0}

-- ---- what each walk promises

-- whatever type and value stand at the places
pub record FitValue (ty words pool : List ℕ) (t w p depth : ℕ) (asked : Bool) (r : Outcome) : Type 0 where
  pub brief : Brief words pool w p r
  pub says : (T : Ty) (v : Val) (e f g : ℕ) → Pair ty words pool t w p T v e f g → Says (fits T depth v) asked e f g (length (val_bytes depth v)) r

-- whatever n types and n values in a row
pub record FitFields (ty words pool : List ℕ) (t w p n depth : ℕ) (asked : Bool) (r : Outcome) : Type 0 where
  pub brief : Brief words pool w p r
  pub says : (ts : Tys) (vs : Vals) (e f g : ℕ) → Row ty words pool t w p n ts vs e f g → Says (fits_all ts depth vs) asked e f g (length (vals_bytes depth vs)) r

-- what a union with a tag makes of its payload's answer r, with `left` alternatives behind the payload's type
pub record Closed (ty : List ℕ) (tag left : ℕ) (asked : Bool) (r s : Outcome) : Type 0 where
  pub brief : (words pool : List ℕ) (w p : ℕ) → Brief words pool (w + 2) p r → Brief words pool w p s
  pub says : (a : Answer Unit) (m f g n : ℕ) (us : Alts) (e : ℕ) → Says a asked m f g n r → AltsIn ty m us e → alt_count us ≡ left → alt_nestings us ≤ max_groups
      → Says (in_union tag a) asked e f g (n + (2 + length (uint_bytes tag))) s

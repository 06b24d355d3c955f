-- The type at the top, and measuring a whole value under it.
use mathlib.Core.Path.{◌≡◌, refl, sym, ap, ◌∙◌}
use mathlib.Core.Bool.{Bool, true, false}
use mathlib.Core.Option.{some}
use mathlib.Core.List.{List, []}
use Prim.Native.Nat.{ℕ, ◌≤◌, ◌<◌}
use native.Mathlib.Omega.{arith}
use borrow.Author.Tests.{eqb-true}
use lib.Dec.{eqb}
use lib.ListN.{length, get_or}
use Rattle.std.specs.Prelude.{Result, Ok, Err}
use Rattle.format.specs.declared.refusal.Refusal.TheVariants as made
use Rattle.format.specs.Tree.{Ty}
use Rattle.format.specs.Sheet.{ty_words}
use Rattle.format.specs.TypeSheet.{max_groups, nesting, type_of, is_some}
use Rattle.format.specs.Decode as format
use Rattle.format.proofs.SheetPlaces.{front}
use Rattle.format.proofs.TypeLaws.{its_tree, admitted}
use Rattle.format.proofs.TypePlaces.{TypeIn, top, ty_kind, kind_is}
use Rattle.format.proofs.TypeKinds.{of_type, kind_here, no_record}
use Rattle.format.proofs.FitLaws.{typed}
use Rattle.format.proofs.Tests.{Test, holds, fails, eqb_test}
use Rattle.read.specs.Walk.{TypeAt, val_sizes, ValueWalk, BareWalk, read_bare, bad}
use Rattle.read.specs.declared.Walked.{Walked}
use Rattle.read.specs.declared.Refused.{Refused}
use Rattle.read.proofs.AnswerLaws.{Says, good_says, bad_says}
use Rattle.read.proofs.FieldLaws.{gone}
use Rattle.decode.specs.Answers.{is_bare, read_top, Top, TopIs, TopWalk, Measures}

-- ---- bare or not

pub top_in : {ty : List ℕ} → TypeAt ty 0 → 0 < length ty
top_in g = (kind_here g.t g.here).0

pub typed_top : {key : Bool} {ty : List ℕ} → key ≡ false → TopIs key ty false
typed_top e = record { is = λ t l s. rw e }

-- a key's type has its kind as the first word
pub key_top : {key : Bool} {ty : List ℕ} → key ≡ true → TopIs key ty (eqb (get_or ty 0 0) 5)
key_top {ty = ty} k = record { is = λ t l s. rw k (ap (λ (x : ℕ). eqb x 5) (sym (kind_is ty 0 l t s).1)) }

-- where the fields are bare the type is a record
bare_kind : (key : Bool) (t : Ty) → is_bare key t ≡ true → ty_kind t ≡ 5
bare_kind true t e = eqb-true (ty_kind t) 5 e
bare_kind false t e = let z : ◌≡◌ {A = ℕ} 0 1 = cc in absurd (omega arith)

pub at_top : {key : Bool} {ty : List ℕ} {bare : Bool} → TypeAt ty 0 → TopIs key ty bare → Top ty bare
at_top {key} {ty} g i =
    record { type = g; kind = λ b. (kind_is ty 0 g.end g.t g.here).1 ∙ bare_kind key g.t (i.is g.t g.end g.here ∙ b) }

-- a key is read bare where its type is a record
pub key_is_lem : (t : Ty) (bs : List ℕ) → format.whole (read_top (is_bare true t) t bs) ≡ format.decode_key t bs
unfolding format.decode_key typed
key_is_lem t bs = go (eqb (ty_kind t) 5) (eqb_test (ty_kind t) 5)
  where
    go : (b : Bool) → Test (ty_kind t ≡ 5) (ty_kind t ≡ 5 → ⊥) b → format.whole (read_top b t bs) ≡ format.decode_key t bs
    go _ (holds q) = of_type (λ (u : Ty). format.whole (read_bare u bs) ≡ format.decode_key u bs) 5 t q refl
    go _ (fails q) = sym ((no_record t q).value bs)

-- ---- admission

-- the type of an admitted sheet
pub record ItsType (ty : List ℕ) : Type 0 where
  pub t : Ty
  pub typed : type_of ty ≡ some t
  pub here : TypeIn ty 0 t (length ty)
  pub deep : nesting t ≤ max_groups

pub its_type : (ty : List ℕ) → is_some (type_of ty) ≡ true → ItsType ty
its_type ty h = let s = its_tree ty h in record { t = s.0; typed = (admitted ty s.0).1 s.1; here = top ty s.0 s.1; deep = s.1.deep }

pub type_at : (ty : List ℕ) → is_some (type_of ty) ≡ true → TypeAt ty 0
type_at ty h = let s = its_type ty h in record { t = s.t; end = length ty; here = s.here; deep = s.deep }

-- ---- walking and measuring

module _ {ty bytes : List ℕ} {bare : Bool} {r : Result Walked Refused} where
  pub walked_bare : bare ≡ true → BareWalk ty bytes r → TopWalk bare ty bytes r
  walked_bare e w = rw e (record { walk = w.walk })

  pub walked_value : bare ≡ false → ValueWalk ty 0 bytes 0 0 false r → TopWalk bare ty bytes r
  walked_value e w = rw e (record { walk = w.walk })

module _ {ty bytes : List ℕ} {bare : Bool} where
  pub m_bad : {f : Refused} → TopWalk bare ty bytes (Err f) → Measures bare ty bytes (Err f)
  unfolding format.whole
  m_bad w = record { is = λ t l h deep. rw (bad_says (w.walk t l h deep)).0 }

  module _ {x : Walked} (w : TopWalk bare ty bytes (Ok x)) where
    said : (t : Ty) (l : ℕ) → TypeIn ty 0 t l → nesting t ≤ max_groups → Says val_sizes bytes 0 false l (length (ty_words t)) (read_top bare t bytes) x
    said t l h deep = good_says (w.walk t l h deep)

    pub m_left : x.next < length bytes → Measures bare ty bytes (Err (bad (made.UnexpectedMark (get_or bytes x.next 0)) x.begun))
    unfolding format.whole
    m_left inl = record { is = λ t l h deep. rw ((said t l h deep).is, front bytes x.next inl) }

    pub m_done : length bytes ≤ x.next → Measures bare ty bytes (Ok (record { words = x.words; pool = x.pool; begun = x.begun }))
    unfolding format.whole
    m_done all = record {
      is = λ t l h deep.
          let f = said t l h deep in
          rw (f.is, gone bytes x.next all) (λ j. format.Decoded.got (record { words = f.so.words_are j; pool = f.so.pool_is j }) [] x.begun);
    }

-- The value at a place of a sheet, by the number there: of which kind it is, and its parts. What goes by kinds is cited from here, so that a new constructor is met
-- in KindLaws and in the recursive definitions.
use mathlib.Core.Path.{◌≡◌, refl, sym, ap, ◌∙◌, subst}
use mathlib.Core.List.{List}
use Prim.Native.Nat.{ℕ, ◌+◌, ◌<◌}
use native.Mathlib.Omega.{arith}
use lib.ListN.{length, get_or}
use Rattle.format.specs.Tree.{Val, Vals, number_in, fields_in, payload_in}
use Rattle.format.specs.Sheet.{val_words, val_pool, val_count}
use Rattle.format.proofs.KindLaws.{built}
use Rattle.format.proofs.FitLaws.{of_value}
use Rattle.format.proofs.ValuePlaces.{ValueIn, ValuesIn, kind_is, word_is_lem, record_in, union_in}

-- a reference, a record or a union at a place: what it is, the word behind its kind, and what follows
pub record RefHere (w : List ℕ) (p q : ℕ) (v : Val) (e f : ℕ) : Type 0 where
  pub is : v ≡ Val.Ref (get_or w (p + 1) 0)
  pub end : e ≡ p + 2
  pub pool : f ≡ q

pub record RecordHere (w b : List ℕ) (p q : ℕ) (v : Val) (e f : ℕ) : Type 0 where
  pub vs : Vals
  pub is : v ≡ Val.Record vs
  pub count : get_or w (p + 1) 0 ≡ val_count vs
  pub fields : ValuesIn w b (p + 2) q vs e f

pub record UnionHere (w b : List ℕ) (p q : ℕ) (v : Val) (e f : ℕ) : Type 0 where
  pub inner : Val
  pub is : v ≡ Val.Union (get_or w (p + 1) 0) inner
  pub payload : ValueIn w b (p + 2) q inner e f

module _ {w b : List ℕ} {p q e f : ℕ} (v : Val) (i : ValueIn w b p q v e f) where
  -- any value but Null has a word behind its kind
  pub second : (get_or w p 0 ≡ 0 → ⊥) → p + 1 < length w
  second n = (word_is_lem w b p q e f v i (λ z. n ((kind_is w b p q e f v i).1 ∙ z))).0

  here : (k : ℕ) → get_or w p 0 ≡ k → v ≡ built k v
  here k n = of_value (λ (u : Val). u ≡ built k v) k v (sym (kind_is w b p q e f v i).1 ∙ n) refl

  at_kind : (k : ℕ) → get_or w p 0 ≡ k → ValueIn w b p q (built k v) e f
  at_kind k n = subst (λ (u : Val). ValueIn w b p q u e f) (here k n) i

  pub ref_here : get_or w p 0 ≡ 4 → RefHere w p q v e f
  unfolding built val_words val_pool
  ref_here n =
      let j = at_kind 4 n in
      let x = word_is_lem w b p q e f (Val.Ref (number_in v)) j (λ z. omega arith) in
      record { is = here 4 n ∙ ap Val.Ref (sym x.1); end = j.words.long; pool = omega (arith, j.pool.long) }

  pub record_here : get_or w p 0 ≡ 5 → RecordHere w b p q v e f
  unfolding built
  record_here n =
      let j = at_kind 5 n in
      record {
        vs = fields_in v;
        is = here 5 n;
        count = (word_is_lem w b p q e f (Val.Record (fields_in v)) j (λ z. omega arith)).1;
        fields = record_in w b p q e f (fields_in v) j;
      }

  pub union_here : get_or w p 0 ≡ 6 → UnionHere w b p q v e f
  unfolding built
  union_here n =
      let j = at_kind 6 n in
      let x = word_is_lem w b p q e f (Val.Union (number_in v) (payload_in v)) j (λ z. omega arith) in
      record { inner = payload_in v; is = here 6 n ∙ ap (λ (d : ℕ). Val.Union d (payload_in v)) (sym x.1); payload = union_in w b p q e f (number_in v) (payload_in v) j }

-- Laws of keys of record types: the fields, with the record's two words before them.
use mathlib.Core.Path.{◌≡◌, sym, ap, subst}
use mathlib.Core.Bool.{false}
use mathlib.Core.List.{List}
use Prim.Native.Nat.{ℕ, ◌^◌, ◌≤◌, ◌<◌}
use native.Mathlib.Nat.{zero-add}
use native.Mathlib.Omega.{arith}
use lib.ListN.{length, get_or}
use Rattle.std.specs.Prelude.{Result}
use Rattle.format.specs.Tree.{Ty, Val}
use Rattle.format.specs.Sheet.{ty_words, tys_words, val_words, val_pool}
use Rattle.format.specs.TypeSheet.{max_groups, nesting}
use Rattle.format.specs.Decode.{decode_bare, after}
use Rattle.format.proofs.TypePlaces.{TypeIn}
use Rattle.format.proofs.TypeKinds.{record_here}
use Rattle.read.specs.Walk.{TypeAt, FieldsAt, Walks, FieldWalk, BareWalk, Small, read_bare, val_sizes, vals_sizes, plus}
use Rattle.read.specs.declared.Walked.{Walked}
use Rattle.read.specs.declared.Refused.{Refused}
use Rattle.read.proofs.AnswerLaws.{plus_law, is_small}

module _ {ty : List ℕ} (g : TypeAt ty 0) (k : get_or ty 0 0 ≡ 5) where
  -- what the walk over a top record's fields asks
  pub k_next : (1 < length ty) × FieldsAt ty 2 (get_or ty 1 0)
  k_next =
      let z = record_here g.t g.here k in
      (z.second, record { ts = z.ts; end = g.end; here = z.fields; count = z.count; deep = omega (arith, z.deep, g.deep) })

module _ {ty bytes : List ℕ} (k : get_or ty 0 0 ≡ 5) {r : Result Walked Refused} (f : FieldWalk ty 2 (get_or ty 1 0) bytes 0 0 false r) where
  fields : (t : Ty) (e : ℕ) (s : TypeIn ty 0 t e) → nesting t ≤ max_groups
      → Walks vals_sizes bytes 0 false e (length (tys_words (record_here t s k).ts)) r (decode_bare (record_here t s k).ts bytes)
  fields t e s deep = let z = record_here t s k in f.walk z.ts e (λ y. z.fields) (λ y. z.fields) z.count (omega (arith, z.deep))

  pub k_small : TypeAt ty 0 → length ty < 2 ^ 61 → Small r
  k_small g small =
      let z = record_here g.t g.here k in
      is_small (fields g.t g.end g.here g.deep) (omega (arith, z.fields.span.long, z.fields.span.within))

  pub k_record : BareWalk ty bytes (plus 2 0 0 r)
  unfolding val_pool val_words
  k_record = record {
    walk = λ t e s deep.
        let z = record_here t s k in
        let meant : read_bare t bytes ≡ after 0 Val.Record (decode_bare z.ts bytes) = ap (λ (u : Ty). read_bare u bytes) z.is in
        subst (Walks val_sizes bytes 0 false e (length (ty_words t)) (plus 2 0 0 r)) (sym meant)
        (plus_law Val.Record 2 0 0 (λ vs. (omega arith, sym (zero-add _))) (omega arith) (omega (arith, s.span.long, z.fields.span.long)) (omega (arith, s.span.long, z.fields.span.long)) (fields t e s deep));
  }

-- Laws of the walker under types that are not optional: one for each way out of it.
use mathlib.Core.Path.{◌≡◌, refl, sym, ap, subst, ◌∙◌}
use mathlib.Core.Bool.{Bool, true}
use mathlib.Core.List.{List}
use Prim.Native.Nat.{ℕ, ◌+◌, ◌-◌, ◌*◌, ◌^◌, ◌≤◌, ◌<◌}
use native.Mathlib.Nat.{zero-add}
use native.Mathlib.Omega.{arith}
use lib.ListN.{length, get_or, take, drop, length-drop}
use lib.Seq.{drop-drop}
use Rattle.std.specs.Prelude.{Result, Ok, Err, Option, Some, None}
use Rattle.format.specs.Tree.{Ty, Alts, Val}
use Rattle.format.specs.Sheet.{ty_words, tys_words, val_words, val_pool}
use Rattle.format.specs.TypeSheet.{max_groups, nesting}
use Rattle.format.specs.Decode.{Decoded, decode, decode_group, after, union_end}
use Rattle.format.specs.Skip.{end_of}
use Rattle.format.specs.Fields.{taken_from}
use Rattle.format.specs.Cursor.{record_mark, union_mark, group_end}
use Rattle.format.specs.Refusals.{answered}
use Rattle.format.specs.declared.refusal.Refusal.{Refusal}
use Rattle.format.specs.declared.refusal.Refusal.TheVariants as made
use Rattle.format.proofs.TypePlaces.{TypeIn, AltsIn}
use Rattle.format.proofs.TypeKinds.{kind_here, record_here, union_here}
use Rattle.sheet.specs.Places.{Picks, SkipsAlts}
use Rattle.scalar.specs.Answers.{got_int}
use Rattle.scalar.specs.declared.taken.Taken.{Taken}
use Rattle.scalar.proofs.Parts.{part_rest}
use Rattle.scalar.proofs.GroupLaws.{RecordOpens, record_opens, record_refused, UnionOpens, union_opens, union_refused, union_closes, close_refused}
use Rattle.read.specs.Walk.{TypeAt, FieldsAt, Walks, well, ill, ValueWalk, FieldWalk, ScalarWalk, ClosesUnion, kept, unended, ended, Small, InKey, val_sizes, vals_sizes, good, bad, plus}
use Rattle.read.specs.declared.Walked.{Walked}
use Rattle.read.specs.declared.Refused.{Refused}
use Rattle.read.proofs.AnswerLaws.{refuse, accept, plus_law, is_small, in_key_lem}
use Rattle.read.proofs.FieldLaws.{in_group}
use Rattle.read.proofs.PlaceLaws.{missing, Picked, picked}

-- ---- what stands at a place is within the sheet

module _ {ty : List ℕ} {at : ℕ} (g : TypeAt ty at) where
  pub at_in : at < length ty
  at_in = (kind_here g.t g.here).0

  pub second_in : get_or ty at 0 ≡ 5 → at + 1 < length ty
  second_in k = (record_here g.t g.here k).second

-- ---- a union's end

-- the end of a union whose payload was read, and of its type
module _ {ty : List ℕ} {at tag place left : ℕ} {us : Alts} {e : ℕ} (z : Picked ty at tag place left us e) {bytes : List ℕ} {i : ℕ} {asked : Bool} {most : ℕ} where
  closed : {r s : Result Walked Refused} {D : Decoded Val} → Walks val_sizes bytes i asked z.end most r D → ClosesUnion ty bytes left asked r s → Walks val_sizes bytes i asked e most s (union_end D)
  unfolding union_end
  closed (ill h) kept = ill h
  closed (well {w = x} {a = v} h) (unended q) = rw (← h.left) (refuse (close_refused (drop x.next bytes) q v x.begun) h.few)
  closed (well {w = x} {a = v} h) (ended {used = used} q skips) =
      let y = union_closes (drop x.next bytes) q in
      rw (← h.left)
      (accept
      (record {
        a = v;
        is = y.reads v x.begun ∙ ap (λ (l : List ℕ). Decoded.got v l x.begun) (drop-drop used x.next bytes);
        so =
            record {
              behind = λ t. (skips t).skips z.more e (subst (λ (a : ℕ). AltsIn ty a z.more e) (sym (h.behind t)) z.behind) z.count z.deeps;
              left = refl;
              words_are = h.words_are;
              pool_is = h.pool_is;
              place = omega (arith, y.within, length-drop x.next bytes, h.place);
              short = omega (arith, h.short);
              few = h.few;
              small = h.small;
            };
      }))

-- the ways out of closing one, whose payload was read
module _ {ty bytes : List ℕ} {left : ℕ} {asked : Bool} {r : Result Walked Refused} {x : Walked} (e : r ≡ Ok x) {o : Result ℕ Refusal}
    (h : answered o ≡ end_of (take (length bytes - x.next) (drop x.next bytes)) (group_end (take (length bytes - x.next) (drop x.next bytes)))) where
  pub c_not : {f : Refusal} → o ≡ Err f → ClosesUnion ty bytes left asked r (Err (bad f x.begun))
  c_not f = rw e (unended (rw (part_rest x.next bytes, f) at h))

  pub c_done : {used end : ℕ} → o ≡ Ok used → (asked ≡ true → SkipsAlts ty x.at left end) → ClosesUnion ty bytes left asked r (Ok (good end (x.next + used) x.words x.pool x.begun))
  c_done f y = rw e (ended (rw (part_rest x.next bytes, f) at h) y)

pub c_room : (bytes : List ℕ) (next : ℕ) {o : Result ℕ Refusal} {used : ℕ} → answered o ≡ end_of (take (length bytes - next) (drop next bytes)) (group_end (take (length bytes - next) (drop next bytes)))
    → next ≤ length bytes → o ≡ Ok used → next + used ≤ length bytes
c_room bytes next h inl f = omega (arith, (union_closes (drop next bytes) (rw (part_rest next bytes, f) at h)).within, length-drop next bytes)

-- ---- values

-- what is left of the key ends where the key does
pub rest_room : (bytes : List ℕ) (i : ℕ) → i ≤ length bytes → i + length (take (length bytes - i) (drop i bytes)) ≡ length bytes
rest_room bytes i h = rw (part_rest i bytes, length-drop i bytes) (omega arith)

pub v_scalar : {ty : List ℕ} {at : ℕ} {bytes : List ℕ} {i depth : ℕ} {asked : Bool} {r : Result Walked Refused} → i ≤ length bytes → ScalarWalk ty at (take (length bytes - i) (drop i bytes)) i r
    → ValueWalk ty at bytes i depth asked r
v_scalar {bytes = bytes} {i = i} {depth = depth} {asked = asked} {r = r} inl h = record {
  walk = λ t e s deep.
      subst (λ (l : List ℕ). Walks val_sizes bytes i asked e (length (ty_words t)) r (decode t depth l)) (part_rest i bytes)
      (h.walk t e s bytes (sym (part_rest i bytes)) inl depth asked);
}

-- a type stands at a place, few enough words, and what is left of the key from a place on
pub record At (ty : List ℕ) (at : ℕ) (bytes : List ℕ) (i : ℕ) : Type 0 where
  pub type : TypeAt ty at
  pub small : length ty < 2 ^ 61
  pub place : i ≤ length bytes

-- what opening a group answered there
pub record OpenedRecord (ty : List ℕ) (at : ℕ) (bytes : List ℕ) (i depth : ℕ) (o : Result ℕ Refusal) : Type 0 where
  pub start : At ty at bytes i
  pub kind : get_or ty at 0 ≡ 5
  pub opening : answered o ≡ end_of (take (length bytes - i) (drop i bytes)) (record_mark depth (take (length bytes - i) (drop i bytes)))

pub record OpenedUnion (ty : List ℕ) (at : ℕ) (bytes : List ℕ) (i depth : ℕ) (o : Result (Taken ℕ) Refusal) : Type 0 where
  pub start : At ty at bytes i
  pub kind : get_or ty at 0 ≡ 6
  pub opening : got_int o ≡ taken_from (take (length bytes - i) (drop i bytes)) (union_mark depth (take (length bytes - i) (drop i bytes)))

module _ {ty : List ℕ} {at : ℕ} (bytes : List ℕ) (i depth : ℕ) (g : TypeAt ty at × ((i ≤ length bytes) × (get_or ty at 0 < 7))) (few : length ty * 4 < 2 ^ 63) where
  begun : At ty at bytes i
  begun = record { type = g.0; small = omega arith; place = g.1.0 }

  pub record_opened : get_or ty at 0 ≡ 5 → {o : Result ℕ Refusal} → answered o ≡ end_of (take (length bytes - i) (drop i bytes)) (record_mark depth (take (length bytes - i) (drop i bytes)))
      → OpenedRecord ty at bytes i depth o
  record_opened k h = record { start = begun; kind = k; opening = h }

  -- what is neither scalar nor record is a union
  pub union_opened : 5 ≤ get_or ty at 0 → (get_or ty at 0 ≡ 5 → ⊥) → {o : Result (Taken ℕ) Refusal} → got_int o ≡ taken_from (take (length bytes - i) (drop i bytes)) (union_mark depth (take (length bytes - i) (drop i bytes)))
      → OpenedUnion ty at bytes i depth o
  union_opened k l h = record { start = begun; kind = omega (arith, g.1.1); opening = h }

module _ {ty : List ℕ} {at : ℕ} {bytes : List ℕ} {i depth : ℕ} {o : Result ℕ Refusal} (G : OpenedRecord ty at bytes i depth o) where
  pub v_record_bad : {asked : Bool} {x : Refusal} → o ≡ Err x → ValueWalk ty at bytes i depth asked (Err (bad x 1))
  v_record_bad q = record {
    walk = λ t e s deep.
        let z = record_here t s G.kind in
        refuse (ap (λ (u : Ty). decode u depth (drop i bytes)) z.is ∙ record_refused (drop i bytes) depth (rw (part_rest i bytes, q) at G.opening) z.ts) (omega (arith, s.span.long, z.fields.span.long));
  }

-- behind a record's opening
pub record InRecord (ty : List ℕ) (at : ℕ) (bytes : List ℕ) (i depth used : ℕ) : Type 0 where
  pub o : Result ℕ Refusal
  pub opened : OpenedRecord ty at bytes i depth o
  pub done : o ≡ Ok used

module _ {ty : List ℕ} {at : ℕ} {bytes : List ℕ} {i depth used : ℕ} (N : InRecord ty at bytes i depth used) where
  opens : RecordOpens (drop i bytes) depth used
  opens = record_opens (drop i bytes) depth (rw (part_rest i bytes, N.done) at N.opened.opening)

  -- what the walk over the fields asks
  pub v_record_next : (depth < 256) × (i + used ≤ length bytes) × FieldsAt ty (at + 2) (get_or ty (at + 1) 0)
  v_record_next =
      let g = N.opened.start.type in
      let z = record_here g.t g.here N.opened.kind in
      (opens.low, omega (arith, opens.within, length-drop i bytes), record { ts = z.ts; end = g.end; here = z.fields; count = z.count; deep = omega (arith, z.deep, g.deep) })

  module _ {asked : Bool} {r : Result Walked Refused} (f : FieldWalk ty (at + 2) (get_or ty (at + 1) 0) bytes (i + used) (depth + 1) asked r) where
    -- the record in the definition, by its fields
    fields : (t : Ty) (e : ℕ) (s : TypeIn ty at t e) → nesting t ≤ max_groups
        → Walks vals_sizes bytes (i + used) asked e (length (tys_words (record_here t s N.opened.kind).ts)) r (decode_group (record_here t s N.opened.kind).ts (depth + 1) (drop (i + used) bytes))
    fields t e s deep =
        let z = record_here t s N.opened.kind in
        subst (Walks vals_sizes bytes (i + used) asked e (length (tys_words z.ts)) r) (in_group z.ts (drop (i + used) bytes) (λ y. omega arith))
        (f.walk z.ts e (λ y. z.fields) (λ y. z.fields) z.count (omega (arith, z.deep)))

    pub v_record_small : Small r
    v_record_small =
        let g = N.opened.start.type in
        let z = record_here g.t g.here N.opened.kind in
        is_small (fields g.t g.end g.here g.deep) (omega (arith, z.fields.span.long, z.fields.span.within, N.opened.start.small))

    pub v_record : ValueWalk ty at bytes i depth asked (plus 2 0 1 r)
    unfolding val_pool val_words
    v_record = record {
      walk = λ t e s deep.
          let z = record_here t s N.opened.kind in
          let meant : decode t depth (drop i bytes) ≡ after 1 Val.Record (decode_group z.ts (depth + 1) (drop (i + used) bytes)) =
          ap (λ (u : Ty). decode u depth (drop i bytes)) z.is ∙ opens.reads z.ts ∙ ap (λ (l : List ℕ). after 1 Val.Record (decode_group z.ts (depth + 1) l)) (drop-drop used i bytes) in
          subst (Walks val_sizes bytes i asked e (length (ty_words t)) (plus 2 0 1 r)) (sym meant)
          (plus_law Val.Record 2 0 1 (λ vs. (omega arith, sym (zero-add _))) (omega arith) (omega (arith, s.span.long, z.fields.span.long)) (omega (arith, s.span.long, z.fields.span.long)) (fields t e s deep));
    }

module _ {ty : List ℕ} {at : ℕ} {bytes : List ℕ} {i depth : ℕ} {o : Result (Taken ℕ) Refusal} (G : OpenedUnion ty at bytes i depth o) where
  pub v_union_bad : {asked : Bool} {x : Refusal} → o ≡ Err x → ValueWalk ty at bytes i depth asked (Err (bad x 1))
  v_union_bad q = record {
    walk = λ t e s deep.
        let z = union_here t s G.kind in
        refuse (ap (λ (u : Ty). decode u depth (drop i bytes)) z.is ∙ union_refused (drop i bytes) depth (rw (part_rest i bytes, q) at G.opening) z.us) (omega (arith, s.span.long, z.alts.span.long));
  }

-- behind a union's opening, with what the search for its tag found
pub record InUnion (ty : List ℕ) (at : ℕ) (bytes : List ℕ) (i depth : ℕ) (opened : Taken ℕ) (place : Option ℕ) (left : ℕ) : Type 0 where
  pub o : Result (Taken ℕ) Refusal
  pub opening : OpenedUnion ty at bytes i depth o
  pub tagged : o ≡ Ok opened
  pub picks : Picks ty at opened.value place left

module _ {ty : List ℕ} {at : ℕ} {bytes : List ℕ} {i depth : ℕ} {x : Taken ℕ} {o : Option ℕ} {left : ℕ} (N : InUnion ty at bytes i depth x o left) where
  inside : UnionOpens (drop i bytes) depth x.value x.used
  inside = union_opens (drop i bytes) depth (rw (part_rest i bytes, N.tagged) at N.opening.opening)

  pub v_missing : {asked : Bool} → o ≡ None → ValueWalk ty at bytes i depth asked (Err (bad (made.UnknownDiscriminant x.value) 1))
  v_missing n = record {
    walk = λ t e s deep.
        let z = union_here t s N.opening.kind in
        refuse
        (ap (λ (u : Ty). decode u depth (drop i bytes)) z.is ∙ inside.reads z.us
        ∙ missing z.us (subst (λ (u : Ty). TypeIn ty at u e) z.is s) (subst (λ (u : Ty). nesting u ≤ max_groups) z.is deep) (rw n at N.picks) depth (drop x.used (drop i bytes)))
        (omega (arith, s.span.long, z.alts.span.long));
  }

  module _ {place : ℕ} (y : o ≡ Some place) where
    alt : (t : Ty) (e : ℕ) (s : TypeIn ty at t e) → nesting t ≤ max_groups → Picked ty at x.value place left (union_here t s N.opening.kind).us e
    alt t e s deep = let z = union_here t s N.opening.kind in picked z.us (subst (λ (u : Ty). TypeIn ty at u e) z.is s) (subst (λ (u : Ty). nesting u ≤ max_groups) z.is deep) (rw y at N.picks)

    -- what the walk over the payload asks
    pub v_union_next : (at < place) × (depth < 256) × (i + x.used ≤ length bytes) × TypeAt ty place
    v_union_next =
        let g = N.opening.start.type in
        let y = alt g.t g.end g.here g.deep in
        (y.later, inside.low, omega (arith, inside.within, length-drop i bytes), record { t = y.t; end = y.end; here = y.here; deep = y.deep })

    module _ {asked : Bool} {r : Result Walked Refused} (v : ValueWalk ty place bytes (i + x.used) (depth + 1) asked r) where
      payload : (t : Ty) (e : ℕ) (s : TypeIn ty at t e) (deep : nesting t ≤ max_groups)
          → Walks val_sizes bytes (i + x.used) asked (alt t e s deep).end (length (ty_words (alt t e s deep).t)) r (decode (alt t e s deep).t (depth + 1) (drop (i + x.used) bytes))
      payload t e s deep = let y = alt t e s deep in v.walk y.t y.end y.here y.deep

      pub v_in_key : InKey bytes r
      v_in_key = let g = N.opening.start.type in in_key_lem (payload g.t g.end g.here g.deep)

      module _ (c : Result Walked Refused) (C : ClosesUnion ty bytes left asked r c) where
        pub v_union_small : Small c
        v_union_small =
            let g = N.opening.start.type in
            let y = alt g.t g.end g.here g.deep in
            is_small (closed y (payload g.t g.end g.here g.deep) C) (omega (arith, y.here.span.long, y.here.span.within, N.opening.start.small))

        pub v_union : ValueWalk ty at bytes i depth asked (plus 2 0 1 c)
        unfolding val_pool val_words
        v_union = record {
          walk = λ t e s deep.
              let z = union_here t s N.opening.kind in
              let y = alt t e s deep in
              let meant : decode t depth (drop i bytes) ≡ after 1 (Val.Union x.value) (union_end (decode y.t (depth + 1) (drop (i + x.used) bytes))) =
              ap (λ (u : Ty). decode u depth (drop i bytes)) z.is ∙ inside.reads z.us ∙ y.meaning depth (drop x.used (drop i bytes))
              ∙ ap (λ (l : List ℕ). after 1 (Val.Union x.value) (union_end (decode y.t (depth + 1) l))) (drop-drop x.used i bytes) in
              subst (Walks val_sizes bytes i asked e (length (ty_words t)) (plus 2 0 1 c)) (sym meant)
              (plus_law (Val.Union x.value) 2 0 1 (λ u. (omega arith, sym (zero-add _))) (omega arith) (omega (arith, y.on, s.span.long)) (omega (arith, y.on, s.span.long)) (closed y (payload t e s deep) C));
        }

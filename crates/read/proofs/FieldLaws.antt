-- Laws of the field-list walker: one for each way out of it, and the loop's invariant.
use mathlib.Core.Path.{◌≡◌, refl, sym, ap, subst, ◌∙◌}
use mathlib.Core.Bool.{Bool, true, false}
use mathlib.Core.List.{List, [], ◌∷◌}
use Prim.Native.Nat.{ℕ, ◌+◌, ◌-◌, ◌*◌, ◌≤◌, ◌<◌}
use native.Mathlib.Nat.{add-zero}
use native.Mathlib.Omega.{arith}
use borrow.Author.Tests.{eq-eqb, ne_eqb}
use lib.ListN.{length, get_or, take, drop, length-append, drop_of_length-le}
use Rattle.std.specs.Prelude.{Result, Ok, Err}
use Rattle.format.specs.Tree.{Tys, Val, Vals}
use Rattle.format.specs.Sheet.{ty_words, tys_words, val_words, vals_words, val_pool, vals_pool}
use Rattle.format.specs.Read.{ends_here}
use Rattle.format.specs.Decode.{Decoded, decode, decode_group, decode_bare, both}
use Rattle.format.specs.Refusals.{number_of, detail_of}
use Rattle.format.specs.declared.refusal.Refusal.{Refusal}
use Rattle.format.specs.declared.refusal.Refusal.TheVariants as made
use Rattle.format.proofs.SheetPlaces.{front}
use Rattle.format.proofs.TypePlaces.{TypesIn}
use Rattle.scalar.proofs.Parts.{part_rest}
use Rattle.read.specs.Walk.{TypeAt, FieldsAt, Walks, ValueWalk, FieldWalk, Begins, Finishes, fields_at, val_sizes, vals_sizes, good, bad, plus}
use Rattle.read.specs.declared.Walked.{Walked}
use Rattle.read.specs.declared.Refused.{Refused}
use Rattle.read.proofs.AnswerLaws.{Says, refuse, accept, good_says, bad_says, plus_law, plus_plus, plus_zero}
use Rattle.read.proofs.PlaceLaws.{FirstField, first_field, no_field}

-- no byte left
pub gone : (bytes : List ℕ) (i : ℕ) → length bytes ≤ i → drop i bytes ≡ []
gone bytes i h = drop_of_length-le bytes h

-- an answer is no refusal
ok_err : {A E B : Type 0} {a : A} {e : E} → ◌≡◌ {A = Result A E} (Ok a) (Err e) → B
ok_err q = let z : ◌≡◌ {A = ℕ} 0 1 = cc in absurd (omega arith)

-- one refusal says one thing
same : {A B : Type 0} {e f : Refusal} → ◌≡◌ {A = Result A Refusal} (Err e) (Err f) → ◌≡◌ {A = Decoded B} (Decoded.bad (number_of e) (detail_of e) 0) (Decoded.bad (number_of f) (detail_of f) 0)
same {e = e} {f = f} q = let z : e ≡ f = cc in ap (λ (x : Refusal). Decoded.bad (number_of x) (detail_of x) 0) z

-- ---- where fields begin and end

pub in_group : (ts : Tys) (bs : List ℕ) {depth : ℕ} → (depth ≡ 0 → ⊥) → fields_at depth ts bs ≡ decode_group ts depth bs
in_group ts bs e = rw (ne_eqb _ _ e)

module _ {depth : ℕ} (bytes : List ℕ) (i : ℕ) where
  module _ (z : depth ≡ 0) where
    pub begins_bare : Begins depth (drop i bytes) (Ok tt)
    unfolding decode_bare
    begins_bare = record { yes = λ q t ts. rw (eq-eqb _ _ z, z); not = λ q. ok_err q }

    pub ends_bare : i ≤ length bytes → Finishes depth bytes i (Ok i)
    unfolding decode_bare
    ends_bare h = (omega arith, h, rw (eq-eqb _ _ z))

  module _ (z : depth ≡ 0 → ⊥) where
    -- a group's fields in the definition, by what is left of the key
    group_is : (ts : Tys) (bs : List ℕ) → drop i bytes ≡ bs → fields_at depth ts (drop i bytes) ≡ decode_group ts depth bs
    group_is ts bs e = in_group ts (drop i bytes) z ∙ ap (decode_group ts depth) e

    pub begins_eof : length bytes ≡ i → Begins depth (drop i bytes) (Err made.UnexpectedEof)
    unfolding decode_group
    begins_eof h = record { yes = λ q. ok_err (sym q); not = λ q t ts. group_is (Tys.AddTy t ts) [] (gone bytes i (omega arith)) ∙ same q }

    pub ends_eof : length bytes ≡ i → Finishes depth bytes i (Err made.UnexpectedEof)
    unfolding decode_group
    ends_eof h = group_is Tys.NoTy [] (gone bytes i (omega arith))

    module _ (inl : i ≤ length bytes) (ne : length bytes ≡ i → ⊥) {q : Bool} (e : q ≡ ends_here (take (length bytes - i) (drop i bytes))) where
      there : drop i bytes ≡ get_or bytes i 0 ∷ drop (i + 1) bytes
      there = front bytes i (omega arith)

      ends : (v : Bool) → q ≡ v → ends_here (get_or bytes i 0 ∷ drop (i + 1) bytes) ≡ v
      ends v h = ap ends_here (sym (part_rest i bytes ∙ there)) ∙ sym e ∙ h

      pub begins_late : q ≡ true → Begins depth (drop i bytes) (Err made.BadRecord)
      unfolding decode_group
      begins_late h = record { yes = λ y. ok_err (sym y); not = λ y t ts. group_is (Tys.AddTy t ts) _ there ∙ rw (ends true h) (same y) }

      pub begins_yes : q ≡ false → Begins depth (drop i bytes) (Ok tt)
      unfolding decode_group
      begins_yes h = record {
        yes = λ y t ts.
            group_is (Tys.AddTy t ts) _ there ∙ rw (ends false h, ← there)
            (λ j. both (decode t depth (drop i bytes)) (λ rest. sym (in_group ts rest z) j) Vals.AddVal);
        not = λ y. ok_err y;
      }

      pub ends_yes : q ≡ true → Finishes depth bytes i (Ok (i + 1))
      unfolding decode_group
      ends_yes h = (omega arith, omega arith, group_is Tys.NoTy _ there ∙ rw (ends true h))

      pub ends_late : q ≡ false → Finishes depth bytes i (Err made.BadRecord)
      unfolding decode_group
      ends_late h = group_is Tys.NoTy _ there ∙ rw (ends false h)

-- ---- the fields

module _ {ty : List ℕ} {at n : ℕ} {bytes : List ℕ} {i depth : ℕ} {asked : Bool} where
  -- no field left
  pub f_none : n ≤ 0 → {next : ℕ} → Finishes depth bytes i (Ok next) → FieldWalk ty at n bytes i depth asked (Ok (good at next 0 0 0))
  unfolding tys_words vals_pool vals_words
  f_none z {next} f = record { walk = λ ts e s1 s2 m deep. go ts e (no_field z ts m) s1 }
    where
      go : (ts : Tys) (e : ℕ) → ts ≡ Tys.NoTy → (asked ≡ true → TypesIn ty at ts e)
          → Walks vals_sizes bytes i asked e (length (tys_words ts)) (Ok (good at next 0 0 0)) (fields_at depth ts (drop i bytes))
      go ts e q s =
          let l : length (tys_words ts) ≡ 0 = ap (λ (x : Tys). length (tys_words x)) q in
          accept
          (record {
            a = Vals.NoVal;
            is = ap (λ (x : Tys). fields_at depth x (drop i bytes)) q ∙ f.2;
            so =
                record {
                  behind = λ y. omega (arith, (s y).span.long);
                  left = refl;
                  words_are = refl;
                  pool_is = refl;
                  place = f.1;
                  short = omega (arith, f.0);
                  few = omega arith;
                  small = omega arith;
                };
          })

  pub f_end : n ≤ 0 → {x : Refusal} → Finishes depth bytes i (Err x) → FieldWalk ty at n bytes i depth asked (Err (bad x 0))
  f_end z f = record { walk = λ ts e s1 s2 m deep. refuse (ap (λ (x : Tys). fields_at depth x (drop i bytes)) (no_field z ts m) ∙ f) (omega arith) }

  module _ (nz : 0 < n) where
    -- no field begins here
    pub f_not : {x : Refusal} → Begins depth (drop i bytes) (Err x) → FieldWalk ty at n bytes i depth asked (Err (bad x 0))
    f_not B = record {
      walk = λ ts e s1 s2 m deep.
          let z = first_field nz ts (s2 nz) m deep in
          refuse (ap (λ (x : Tys). fields_at depth x (drop i bytes)) z.is ∙ B.not refl z.t z.more) (omega arith);
    }

    -- the first field's walk: the place behind its type is asked for where a field follows, or where the place behind the last one is
    module _ (B : Begins depth (drop i bytes) (Ok tt)) {one : Bool} (asks : (1 < n → one ≡ true) × (asked ≡ true → one ≡ true)) where
      first_is : {r : Result Walked Refused} → ValueWalk ty at bytes i depth one r → {ts : Tys} {e : ℕ} (z : FirstField ty at n ts e) (D : Decoded Val) → decode z.t depth (drop i bytes) ≡ D
          → fields_at depth ts (drop i bytes) ≡ both D (fields_at depth z.more) Vals.AddVal
      first_is v z D q =
          ap (λ (x : Tys). fields_at depth x (drop i bytes)) z.is ∙ B.yes refl z.t z.more ∙ ap (λ (E : Decoded Val). both E (fields_at depth z.more) Vals.AddVal) q

      pub f_bad : {f : Refused} → ValueWalk ty at bytes i depth one (Err f) → FieldWalk ty at n bytes i depth asked (Err f)
      f_bad v = record {
        walk = λ ts e s1 s2 m deep.
            let z = first_field nz ts (s2 nz) m deep in
            let q = bad_says (v.walk z.t z.end z.here z.deep) in
            refuse (first_is v z _ q.0) (omega (arith, q.1, z.long));
      }

      module _ {x : Walked} (v : ValueWalk ty at bytes i depth one (Ok x)) where
        says : {ts : Tys} {e : ℕ} (z : FirstField ty at n ts e) → Says val_sizes bytes i one z.end (length (ty_words z.t)) (decode z.t depth (drop i bytes)) x
        says z = good_says (v.walk z.t z.end z.here z.deep)

        -- where another field follows, or the place is asked for, the next place is the end of the first field's type
        next_types : {ts : Tys} {e : ℕ} (z : FirstField ty at n ts e) → one ≡ true → TypesIn ty x.at z.more e
        next_types {ts} {e} z o = subst (λ (a : ℕ). TypesIn ty a z.more e) (sym ((says z).so.behind o)) z.behind

        pub f_then : {r : Result Walked Refused} → FieldWalk ty x.at (n - 1) bytes x.next depth asked r → FieldWalk ty at n bytes i depth asked (plus x.words x.pool x.begun r)
        unfolding vals_pool vals_words
        f_then {r} f = record {
          walk = λ ts e s1 s2 m deep.
              let z = first_field nz ts (s2 nz) m deep in
              let q = says z in
              subst (Walks vals_sizes bytes i asked e (length (tys_words ts)) (plus x.words x.pool x.begun r)) (sym (first_is v z _ q.is))
              (plus_law (Vals.AddVal q.a) x.words x.pool x.begun
              (λ vs. (omega (arith, length-append (val_words q.a) (vals_words vs), q.so.words_are), omega (arith, length-append (val_pool q.a) (vals_pool vs), q.so.pool_is)))
              q.so.short (omega (arith, q.so.few, z.long)) (omega (arith, q.so.small, z.long))
              (f.walk z.more e (λ o. next_types z (asks.1 o)) (λ o. next_types z (asks.0 (omega arith))) z.count z.deeps));
        }

        -- what the walk over the others asks
        pub f_left : 0 < n - 1 → FieldsAt ty at n → FieldsAt ty x.at (n - 1)
        f_left l g =
            let z = first_field nz g.ts g.here g.count g.deep in
            record { ts = z.more; end = g.end; here = next_types z (asks.0 (omega arith)); count = z.count; deep = z.deeps }

-- ---- the loop

-- after some turns, whose sum is s: what the walk over the fields that are left says, with that sum before it says of them all
pub record Turned (ty : List ℕ) (at n : ℕ) (bytes : List ℕ) (i depth : ℕ) (asked : Bool) (left : ℕ) (s : Walked) : Type 0 where
  pub fields : 0 < left → FieldsAt ty s.at left
  pub place : s.next ≤ length bytes
  pub short : i + s.pool ≤ s.next
  pub few : 0 < left → at + s.begun ≤ s.at
  pub small : 0 < left → 2 * at + s.words ≤ 2 * s.at
  pub so_far : (r : Result Walked Refused) → FieldWalk ty s.at left bytes s.next depth asked r → FieldWalk ty at n bytes i depth asked (plus s.words s.pool s.begun r)

module _ {ty : List ℕ} {at n : ℕ} {bytes : List ℕ} {i depth : ℕ} {asked : Bool} where
  pub t_start : {left : ℕ} → left ≡ n → FieldsAt ty at n → i ≤ length bytes → Turned ty at n bytes i depth asked left (good at i 0 0 0)
  t_start e g h = rw e
      (record {
        fields = λ z. g;
        place = h;
        short = omega arith;
        few = λ z. omega arith;
        small = λ z. omega arith;
        so_far = λ r f. subst (FieldWalk ty at n bytes i depth asked) (plus_zero r) f;
      })

  module _ {left : ℕ} {s : Walked} (T : Turned ty at n bytes i depth asked left s) where
    -- no field is left
    module _ (z : left ≤ 0) where
      pub t_done : {next : ℕ} → Finishes depth bytes s.next (Ok next) → FieldWalk ty at n bytes i depth asked (Ok (good s.at next s.words s.pool s.begun))
      t_done {next} f =
          subst (λ (x : ℕ × ℕ × ℕ). FieldWalk ty at n bytes i depth asked (Ok (good s.at next x.0 x.1 x.2))) (λ l. (add-zero s.words l, add-zero s.pool l, add-zero s.begun l)) (T.so_far _ (f_none z f))

      pub t_end : {x : Refusal} → Finishes depth bytes s.next (Err x) → FieldWalk ty at n bytes i depth asked (Err (bad x s.begun))
      t_end {x} f = subst (λ (k : ℕ). FieldWalk ty at n bytes i depth asked (Err (bad x k))) (add-zero s.begun) (T.so_far _ (f_end z f))

    module _ (nz : 0 < left) where
      -- the next field's type
      next_field : FirstField ty s.at left (T.fields nz).ts (T.fields nz).end
      next_field = let g = T.fields nz in first_field nz g.ts g.here g.count g.deep

      pub t_type : TypeAt ty s.at
      t_type = let z = next_field in record { t = z.t; end = z.end; here = z.here; deep = z.deep }

      pub t_not : {x : Refusal} → Begins depth (drop s.next bytes) (Err x) → FieldWalk ty at n bytes i depth asked (Err (bad x s.begun))
      t_not {x} B = subst (λ (k : ℕ). FieldWalk ty at n bytes i depth asked (Err (bad x k))) (add-zero s.begun) (T.so_far _ (f_not nz B))

-- a turn: a field begins here, and its walk answered r
pub record Turn (ty : List ℕ) (at n : ℕ) (bytes : List ℕ) (i depth : ℕ) (asked : Bool) (left : ℕ) (s : Walked) (r : Result Walked Refused) : Type 0 where
  pub one : Bool
  pub turned : Turned ty at n bytes i depth asked left s
  pub some : 0 < left
  pub begins : Begins depth (drop s.next bytes) (Ok tt)
  pub asks : (1 < left → one ≡ true) × (asked ≡ true → one ≡ true)
  pub value : ValueWalk ty s.at bytes s.next depth one r

module _ {ty : List ℕ} {at n : ℕ} {bytes : List ℕ} {i depth : ℕ} {asked : Bool} {left : ℕ} {s : Walked} where
  module _ {f : Refused} (U : Turn ty at n bytes i depth asked left s (Err f)) where
    pub t_bad : FieldWalk ty at n bytes i depth asked (Err (bad f.why (s.begun + f.begun)))
    t_bad = U.turned.so_far _ (f_bad U.some U.begins U.asks U.value)

    pub t_few : s.begun + f.begun ≤ length ty
    t_few =
        let z = next_field U.turned U.some in
        omega (arith, (bad_says (U.value.walk z.t z.end z.here z.deep)).1, U.turned.few U.some, z.here.span.long, z.here.span.within)

  module _ {x : Walked} (U : Turn ty at n bytes i depth asked left s (Ok x)) where
    field : FirstField ty s.at left (U.turned.fields U.some).ts (U.turned.fields U.some).end
    field = next_field U.turned U.some

    said : Says val_sizes bytes s.next U.one field.end (length (ty_words field.t)) (decode field.t depth (drop s.next bytes)) x
    said = let z = field in good_says (U.value.walk z.t z.end z.here z.deep)

    -- the sums are not too large
    pub t_sums : (s.words + x.words ≤ 2 * length ty) × (s.pool + x.pool ≤ length bytes) × (s.begun + x.begun ≤ length ty)
    t_sums =
        let z = field in
        let h = said.so in
        (omega (arith, U.turned.small U.some, h.small, z.here.span.long, z.here.span.within), omega (arith, U.turned.short, h.short, h.place), omega (arith, U.turned.few U.some, h.few, z.here.span.long, z.here.span.within))

    pub t_next : {others : ℕ} → others ≡ left - 1 → Turned ty at n bytes i depth asked others (good x.at x.next (s.words + x.words) (s.pool + x.pool) (s.begun + x.begun))
    t_next e =
        let z = field in
        let h = said.so in
        rw e
        (record {
          fields = λ l. f_left U.some U.begins U.asks U.value l (U.turned.fields U.some);
          place = h.place;
          short = omega (arith, U.turned.short, h.short);
          few = λ l. omega (arith, U.turned.few U.some, h.few, z.here.span.long, h.behind (U.asks.0 (omega arith)));
          small = λ l. omega (arith, U.turned.small U.some, h.small, z.here.span.long, h.behind (U.asks.0 (omega arith)));
          so_far = λ q f. subst (FieldWalk ty at n bytes i depth asked) (plus_plus s.words s.pool s.begun x.words x.pool x.begun q) (U.turned.so_far _ (f_then U.some U.begins U.asks U.value f));
        })

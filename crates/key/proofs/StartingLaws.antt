-- From what the steps of the prefix call found to what it answers and leaves: the next field's mark, the lengths of the ends, their bytes.
use mathlib.Core.Path.{◌≡◌, refl, sym, ap, ap₂, ◌∙◌}
use mathlib.Core.Logic.{◌≢◌}
use mathlib.Core.Bool.{Bool, true, false}
use mathlib.Core.Option.{some}
use mathlib.Core.List.{List, [], ◌∷◌, ◌++◌, append_assoc}
use Prim.Native.Nat.{ℕ, ◌+◌, ◌-◌, ◌≤◌, ◌<◌, ◌^◌}
use native.Mathlib.Omega.{arith}
use lib.Dec.{eqb, ltb}
use lib.ListN.{length, get_or, set, take, drop, length-append}
use lib.Seq.{take-append_seam}
use Rattle.std.specs.Prelude.{Option, Some, None, Result, Ok, Err, ok_or}
use Rattle.format.specs.Answer.{if, Answer, ok, refused, and_then, no_room}
use Rattle.format.specs.Tree.{Ty, Val, Vals}
use Rattle.format.specs.Sheet.{field_count, val_count, ty_words}
use Rattle.format.specs.TypeSheet.{type_of, is_some, NotOptional}
use Rattle.format.specs.ValueSheet as value_sheets
use Rattle.format.specs.ValueSheet.{value_of}
use Rattle.format.specs.Scalar.{run_start}
use Rattle.format.specs.Encode.{vals_bytes, fits_all}
use Rattle.format.specs.Bounds.{before, trimmed, strinc}
use Rattle.format.specs.Calls.{Called, over, strinc_call}
use Rattle.format.specs.Fields.{put}
use Rattle.format.specs.Calls as calls
use Rattle.format.specs.Refusals.{number_of, detail_of, answered, Leaves}
use Rattle.format.specs.declared.refusal.Refusal.{Refusal}
use Rattle.format.specs.declared.refusal.Refusal.TheVariants as made
use Rattle.format.specs.Spans.{first_tys, field_type, run_mark, start_end, start_ends, prefix_of, prefix_for, prefix_call}
use Rattle.format.proofs.Tests.{eqb_test, eqb_yes, eqb_no, ltb_yes, ltb_no, ltb_test, leb_yes, Test, holds, fails}
use Rattle.format.proofs.TypePlaces.{kind_is, ty_kind}
use Rattle.format.proofs.TypeKinds.{optional_here, plain_here}
use Rattle.format.proofs.StartLaws.{has_end, mark_small, start_append}
use Rattle.blocks.proofs.Put.{set_put, put_then}
use Rattle.sheet.specs.Places.{SkipsTypes}
use Rattle.scalar.specs.Answers.{room_for}
use Rattle.read.specs.Walk.{TypeAt}
use Rattle.ends.specs.Ends.{Trims}
use Rattle.ends.proofs.TrimLaws.{trim_last, trim_keep, trim_behind, last_of, strinc_long}
use Rattle.fit.specs.declared.Fitted.{Fitted}
use Rattle.fit.specs.Fit.{FitFields}
use Rattle.write.specs.declared.Put.{Put}
use Rattle.write.specs.Write.{standing, WroteFields}
use Rattle.key.specs.declared.bounding.Ends.{Ends}
use Rattle.key.specs.Keys.{BoundsLeft}
use Rattle.key.specs.Records.{is_record, has_next}
use Rattle.key.specs.Firsts.{Firsts}
use Rattle.key.specs.Starting.{mark_in, kind_mark, MarksRun, AskedStart, NextSays, FirstFit, PutsStart, PutsStarts}
use Rattle.key.proofs.SpanLaws.{place_at}
use Rattle.key.proofs.CallLaws.{no_type_lem}
use Rattle.key.proofs.EndLaws.{told}
use Rattle.key.proofs.FirstsLaws.{not_record, its_type, its_first, no_field, sheet, fields_in_lem, count_in, k_types, k_deep, k_count, next_in, first_refused, first_fit, first_long, put_over}

-- ---- the next field's mark

plain_mark : (t : Ty) → NotOptional t → kind_mark (ty_kind t) ≡ run_mark t
plain_mark Ty.Int h = refl
plain_mark Ty.Str h = refl
plain_mark Ty.Bytes h = refl
plain_mark (Ty.Ref p) h = refl
plain_mark (Ty.Record ts) h = refl
plain_mark (Ty.Union us) h = refl
plain_mark (Ty.Optional t) h = absurd h

module _ {ty : List ℕ} {at : ℕ} (y : TypeAt ty at) where
  pub mark_there : at < length ty
  mark_there = (kind_is ty at y.end y.t y.here).0

  module _ (q : get_or ty at 0 ≡ 7) where
    pub mark_behind_there : at + 1 < length ty
    mark_behind_there = let o = optional_here y.t y.here q in (kind_is ty (at + 1) y.end o.filled o.behind).0

    -- behind word 7
    pub mark_behind : {r : Option ℕ} → r ≡ mark_in (kind_mark (get_or ty (at + 1) 0)) → MarksRun ty at r
    mark_behind e = record {
      mark = λ t end s.
          let o = optional_here t s q in
          e ∙ ap mark_in (ap kind_mark (kind_is ty (at + 1) end o.filled o.behind).1 ∙ plain_mark o.filled o.plain ∙ sym (ap run_mark o.is));
    }

pub mark_here : {ty : List ℕ} {at : ℕ} → (get_or ty at 0 ≡ 7 → ⊥) → {r : Option ℕ} → r ≡ mark_in (kind_mark (get_or ty at 0)) → MarksRun ty at r
mark_here {ty} {at} n e = record { mark = λ t end s. e ∙ ap mark_in (ap kind_mark (kind_is ty at end t s).1 ∙ plain_mark t (plain_here t s n)) }

-- a mark that is there, and none
a_mark : (m n : ℕ) → Some m ≡ mark_in n → (m ≡ n) × (n ≡ 0 → ⊥)
a_mark m n e = go (eqb_test n 0) e
  where
    go : {x : Bool} → Test (n ≡ 0) (n ≡ 0 → ⊥) x → Some m ≡ if x None (Some n) → (m ≡ n) × (n ≡ 0 → ⊥)
    go (holds h) q = absurd (let z : ◌≡◌ {A = ℕ} 0 1 = cc in omega arith)
    go (fails h) q = (cc, h)

no_mark : (n : ℕ) → None ≡ mark_in n → n ≡ 0
no_mark n e = go (eqb_test n 0) e
  where
    go : {x : Bool} → Test (n ≡ 0) (n ≡ 0 → ⊥) x → None ≡ if x None (Some n) → n ≡ 0
    go (holds h) q = h
    go (fails h) q = absurd (let z : ◌≡◌ {A = ℕ} 0 1 = cc in omega arith)

-- ---- the checks

-- the call behind its checks
start_is : {ty words pool : List ℕ} (i : Firsts ty words pool) (s : List ℕ)
    → prefix_for ty words pool s ≡ prefix_of i.vs s (first_tys (val_count i.vs) i.ts) (field_type (val_count i.vs) i.ts)
unfolding prefix_for
start_is i s = rw (i.typed, i.first_is, ltb_yes (val_count i.vs) (field_count i.ts) i.inside)

module _ (ty words pool : List ℕ) {b : Bool} (said : b ≡ is_some (type_of ty)) where
  pub n_type : b ≡ false → NextSays ty words pool (Err made.BadType)
  unfolding prefix_for
  n_type h = λ s. rw (no_type_lem ty (sym said ∙ h))

  module _ (yes : b ≡ true) {q : Bool} (first : q ≡ is_record (value_of words pool)) where
    pub n_first : q ≡ false → NextSays ty words pool (Err made.BadValue)
    unfolding prefix_for
    n_first h = λ s. rw (its_type ty words pool said yes).1 (not_record (value_of words pool) _ (sym first ∙ h))

    module _ (record_yes : q ≡ true) {n : Bool} (next : n ≡ has_next ty words) where
      abbrev vs : (vs : Vals) × (value_of words pool ≡ some (Val.Record vs))
      vs = its_first ty words pool said yes first record_yes

      pub n_none : n ≡ false → NextSays ty words pool (Err made.NoField)
      unfolding prefix_for
      n_none h = λ s. rw ((its_type ty words pool said yes).1, vs.1) (no_field ty words pool said yes first record_yes next (prefix_of vs.0 s) h)

-- the field behind the first k
module _ {ty words pool : List ℕ} (i : Firsts ty words pool) {at : ℕ} (skips : SkipsTypes ty 2 (get_or words 1 0) at) where
  abbrev k : ℕ
  k = val_count i.vs

  abbrev u : Ty
  u = field_type k i.ts

  u_place : at ≡ place_at k i.ts
  u_place = skips.skips (first_tys k i.ts) (place_at k i.ts) (k_types i) (k_count i) (k_deep i)

  pub n_there : TypeAt ty at
  n_there = rw u_place (record { t = u; end = place_at k i.ts + length (ty_words u); here = (next_in i).0; deep = (next_in i).1 })

  pub n_next : {m : Option ℕ} → MarksRun ty at m → {r : Result ℕ Refusal} → r ≡ ok_or m made.NoField → NextSays ty words pool r
  n_next {m} marks e = rw e (go m (marks.mark u (place_at k i.ts + length (ty_words u)) (rw u_place (next_in i).0)))
    where
      go : (m : Option ℕ) → m ≡ mark_in (run_mark u) → NextSays ty words pool (ok_or m made.NoField)
      go None q = let z = no_mark (run_mark u) q in λ s. rw (start_is i s, z)
      go (Some mark) q = let z = a_mark mark (run_mark u) q in record { firsts = i; marked = z.0; run = λ y. z.1 (sym z.0 ∙ y) }

-- ---- the beginning without its trailing FF

-- it is enough to drop those of s first
trim_run : (s : List ℕ) → trimmed (run_start s) ≡ trimmed (run_start (trimmed s))
unfolding trimmed run_start
trim_run [] = refl
trim_run (b ∷ s) = go (eqb_test b 0) (trimmed s) (trim_run s)
  where
    raw : List ℕ
    raw = trimmed (run_start s)

    ends : (t : List ℕ) → raw ≡ trimmed (run_start t) → b ≢ 0 → before b raw ≡ trimmed (run_start (before b t))
    ends (c ∷ t) e z = rw (e, eqb_no b 0 z)
    ends [] e z = rw e (last (eqb_test b 0xFF))
      where
        last : {x : Bool} → Test (b ≡ 0xFF) (b ≢ 0xFF) x → if x [] (b ∷ []) ≡ trimmed (run_start (if x [] (b ∷ [])))
        last (holds f) = refl
        last (fails f) = rw (eqb_no b 0 z, eqb_no b 0xFF f)

    starts : (t : List ℕ) → b ≡ 0 → before b t ≡ b ∷ t
    starts [] z = rw z
    starts (c ∷ t) z = refl

    go : {x : Bool} → Test (b ≡ 0) (b ≢ 0) x → (t : List ℕ) → raw ≡ trimmed (run_start t) → trimmed (if x (0 ∷ 0xFF ∷ run_start s) (b ∷ run_start s)) ≡ trimmed (run_start (before b t))
    go (fails z) t e = ends t e z
    go (holds z) t e = rw (starts t z, eqb_yes b 0 z, e)

module _ {s : List ℕ} {n : ℕ} (t : Trims s n) where
  trim_is : trimmed (run_start s) ≡ trimmed (run_start (take n s))
  trim_is = trim_run s ∙ ap (λ (l : List ℕ). trimmed (run_start l)) t.left

  pub trim_nothing : n ≡ 0 → 0 ≡ length (trimmed (run_start s))
  unfolding trimmed run_start
  trim_nothing z = sym (ap length (trim_is ∙ ap (λ (m : ℕ). trimmed (run_start (take m s))) z))

  module _ (h : (n ≡ 0 → ⊥)) where
    abbrev front : List ℕ
    front = take (n - 1) s

    abbrev last : ℕ
    last = get_or s (n - 1) 0

    trim_split : run_start (take n s) ≡ run_start front ++ run_start (last ∷ [])
    trim_split = ap run_start (last_of s n (omega arith) t.short) ∙ start_append front (last ∷ [])

    -- the last byte left is a zero: its escape's FF goes
    module _ (z : last ≡ 0) where
      zero_run : run_start (take n s) ≡ (run_start front ++ 0 ∷ []) ++ 0xFF ∷ []
      unfolding run_start
      zero_run = trim_split ∙ rw (eqb_yes last 0 z) (sym (append_assoc (run_start front) (0 ∷ []) (0xFF ∷ [])))

      pub trim_some : 0 < length (run_start (take n s))
      trim_some = omega (arith, ap length zero_run, length-append (run_start front ++ 0 ∷ []) (0xFF ∷ []))

      pub trim_zero : {run : ℕ} → run ≡ length (run_start (take n s)) → run - 1 ≡ length (trimmed (run_start s))
      trim_zero e =
          let kept : trimmed (run_start s) ≡ run_start front ++ 0 ∷ [] = trim_is ∙ ap trimmed zero_run ∙ trim_last (run_start front ++ 0 ∷ []) ∙ trim_keep (run_start front) 0 (λ f. omega arith) in
          omega (arith, ap length kept, ap length zero_run, length-append (run_start front ++ 0 ∷ []) (0xFF ∷ []))

    pub trim_byte : (last ≡ 0 → ⊥) → {run : ℕ} → run ≡ length (run_start (take n s)) → run ≡ length (trimmed (run_start s))
    unfolding run_start
    trim_byte z e =
        let same : run_start (take n s) ≡ run_start front ++ last ∷ [] = trim_split ∙ rw (eqb_no last 0 z) in
        e ∙ sym (ap length (trim_is ∙ ap trimmed same ∙ trim_keep (run_start front) last (t.last (omega arith)) ∙ sym same))

-- what is left is no longer
trim_short : (l : List ℕ) → length (trimmed l) ≤ length l
unfolding trimmed
trim_short [] = omega arith
trim_short (b ∷ l) = go (trimmed l) (trim_short l)
  where
    go : (t : List ℕ) → length t ≤ length l → length (before b t) ≤ length (b ∷ l)
    go [] h = one (eqb b 0xFF)
      where
        one : (c : Bool) → length (if c [] (b ∷ [])) ≤ length (b ∷ l)
        one true = omega arith
        one false = omega arith
    go (c ∷ t) h = omega arith

-- ---- the bytes of the lower end

module _ (words pool : List ℕ) (n mark : ℕ) (s : List ℕ) where
  -- it has the k fields', the mark and those of s
  end_long : (f : FirstFit words pool n) → length (start_end f.vs mark s) ≡ n + 1 + length (run_start s)
  end_long f = omega (arith, f.long, length-append (vals_bytes 0 f.vs) (mark ∷ run_start s))

  -- the fields, the mark and the beginning of the run are put one behind the other
  pub start_put : {out m out' : List ℕ} {r : Put} → n + 1 + length (run_start s) ≤ length out → WroteFields words pool (standing 2 0 0 0) (get_or words 1 0) 0 out r m
      → out' ≡ put (set m n mark) (n + 1) (run_start s) → PutsStart words pool n mark s out out'
  unfolding value_sheets.Proper
  start_put {out} {m} {out'} room w e = record {
    puts = λ f.
        let x = vals_bytes 0 f.vs in
        let is = f.first_is in
        let d = w.says.row f.ts f.vs _ _ f.fit (sheet words pool is).proper (count_in words pool is).1 (fields_in_lem words pool is) (omega (arith, f.long)) in
        let l = length-append x (mark ∷ []) in
        let first : n ≡ 0 + length x = omega (arith, f.long) in
        let second : n + 1 ≡ 0 + length (x ++ mark ∷ []) = omega (arith, f.long) in
        let marked : set m n mark ≡ put out 0 (x ++ mark ∷ []) = put_then out 0 x (mark ∷ []) (omega arith) first d.wrote (set_put m n mark (omega (arith, w.onward.kept))) in
        put_then out 0 (x ++ mark ∷ []) (run_start s) (omega arith) second marked e ∙ ap (put out 0) (append_assoc x (mark ∷ []) (run_start s));
  }

-- ---- both ends

-- what asking for room at a buffer's beginning says
abbrev RoomSays : (len n : ℕ) → Result ℕ Refusal → Type 0
RoomSays len n (Ok m) = (m ≡ n) × (n ≤ len)
RoomSays len n (Err e) = (len < n) × (answered {A = ℕ} (Err e) ≡ no_room n)

room_says : (len n : ℕ) (r : Result ℕ Refusal) → answered r ≡ room_for len 0 n → RoomSays len n r
room_says len n r e = go (ltb len 0) (ltb_test len 0) (ltb len (0 + n)) (ltb_test len (0 + n)) r e
  where
    go : (a : Bool) → Test (len < 0) (0 ≤ len) a → (b : Bool) → Test (len < 0 + n) (0 + n ≤ len) b → (r : Result ℕ Refusal)
        → answered r ≡ if a (no_room 0) (if b (no_room (0 + n)) (ok (0 + n))) → RoomSays len n r
    go _ (holds h) b t r e = absurd (omega arith)
    go _ (fails h) _ (holds t) (Ok m) e = absurd (let z : ◌≡◌ {A = ℕ} 0 1 = cc in omega arith)
    go _ (fails h) _ (holds t) (Err f) e = let z : 0 + n ≡ n = omega arith in (omega arith, rw z at e)
    go _ (fails h) _ (fails t) (Ok m) e = let same : m ≡ 0 + n = cc in (omega arith, omega arith)
    go _ (fails h) _ (fails t) (Err f) e = absurd (let z : ◌≡◌ {A = ℕ} 0 1 = cc in omega arith)

module _ (words pool : List ℕ) (n mark : ℕ) (s lower upper : List ℕ) (small : mark < 0xFF) where
  module _ (f : FirstFit words pool n) where
    abbrev low : List ℕ
    low = start_end f.vs mark s

    -- the upper end, which is always there
    high : (q : List ℕ) × (strinc low ≡ ok q)
    high = has_end (vals_bytes 0 f.vs) mark (run_start s) small

    both_is : start_ends f.vs mark s ≡ ok (record { low = low; high = high.0 })
    both_is = rw high.1

    high_long : length high.0 ≡ n + 1 + length (trimmed (run_start s))
    high_long =
        let kept = trim_behind (vals_bytes 0 f.vs) mark (run_start s) (λ e. omega arith) in
        omega (arith, strinc_long low high.0 high.1, ap length kept, length-append (vals_bytes 0 f.vs) (mark ∷ trimmed (run_start s)), f.long)

  module _ {run : ℕ} (run_is : run ≡ length (run_start s)) where
    -- no room for the lower end
    pub p_low : {e : Refusal} → answered {A = ℕ} (Err e) ≡ room_for (length lower) 0 (n + 1 + run) → PutsStarts words pool n mark s lower upper (Err e) lower upper
    p_low {e} asks = record {
      left = λ f.
          let r = room_says (length lower) (n + 1 + run) (Err e) asks in
          let m : n + 1 + run ≡ length (low f) = omega (arith, end_long words pool n mark s f) in
          rw (both_is f, ltb_yes (length lower) (length (low f)) (omega (arith, r.0))) (record { answer = told e (length (low f)) (r.1 ∙ ap no_room m); low = refl; high = refl });
    }

    module _ {end : ℕ} (asks : answered (Ok end) ≡ room_for (length lower) 0 (n + 1 + run)) where
      fits_low : (end ≡ n + 1 + run) × (n + 1 + run ≤ length lower)
      fits_low = room_says (length lower) (n + 1 + run) (Ok end) asks

      -- so the upper end's length is no sum that is too large
      pub p_short : (trims : ℕ) → trims ≡ length (trimmed (run_start s)) → length lower < 2 ^ 64 → n + 1 + trims < 2 ^ 64
      p_short trims e l = omega (arith, fits_low, trim_short (run_start s))

      module _ {trims : ℕ} (trims_is : trims ≡ length (trimmed (run_start s))) where
        -- no room for the upper end
        pub p_high : length upper < n + 1 + trims → n + 1 + trims < 2 ^ 64 → PutsStarts words pool n mark s lower upper (Err (made.NoRoom (n + 1 + trims))) lower upper
        p_high h l = record {
          left = λ f.
              let e = high_long f in
              let m : n + 1 + trims ≡ length (high f).0 = omega arith in
              rw (both_is f, ltb_no (length lower) (length (low f)) (omega (arith, end_long words pool n mark s f, fits_low)), ltb_yes (length upper) (length (high f).0) (omega arith), ← m, ltb_yes (n + 1 + trims) (2 ^ 64) l)
              (record { answer = refl; low = refl; high = refl });
        }

        -- the lower end was written; strinc of it finds room and a byte to raise
        module _ (h : n + 1 + trims ≤ length upper) {lower' : List ℕ} (puts : PutsStart words pool n mark s lower lower') where
          module _ (f : FirstFit words pool n) where
            stands : take end lower' ≡ low f
            stands =
                let e : end ≡ length (low f) = omega (arith, end_long words pool n mark s f, fits_low) in
                ap (take end) (puts.puts f ∙ put_over lower (low f)) ∙ ap (λ (m : ℕ). take m (over (low f) lower)) e ∙ take-append_seam (low f) (drop (length (low f)) lower)

            called : strinc_call (take end lower') upper ≡ record { answer = ok (length (high f).0); buffer = over (high f).0 upper }
            unfolding strinc_call
            called = rw (stands, (high f).1, leb_yes (length (high f).0) (length upper) (omega (arith, high_long f)))

          pub p_never : {e : Refusal} {upper' lower₁ upper₁ : List ℕ} → Leaves (strinc_call (take end lower') upper) (Err e) upper' → FirstFit words pool n → PutsStarts words pool n mark s lower upper (Err e) lower₁ upper₁
          p_never leaves f = absurd (let y : ◌≡◌ {A = ℕ} 0 1 = cc (leaves.answer, ap (λ (x : Called ℕ). x.answer) (called f)) in omega arith)

          pub p_done : {up : ℕ} {upper' : List ℕ} → Leaves (strinc_call (take end lower') upper) (Ok up) upper' → PutsStarts words pool n mark s lower upper (Ok (record { lower = end; upper = up })) lower' upper'
          p_done {up} leaves = record {
            left = λ f.
                let long = end_long words pool n mark s f in
                let e : end ≡ length (low f) = omega (arith, fits_low) in
                let u : up ≡ length (high f).0 = cc (leaves.answer, ap (λ (x : Called ℕ). x.answer) (called f)) in
                rw (both_is f, ltb_no (length lower) (length (low f)) (omega (arith, fits_low)), ltb_no (length upper) (length (high f).0) (omega (arith, high_long f)))
                (record {
                  answer = ap₂ {C = Answer calls.Ends} (λ (i j : ℕ). ok (record { lower = i; upper = j })) e u;
                  low = puts.puts f ∙ put_over lower (low f);
                  high = leaves.left ∙ ap (λ (x : Called ℕ). x.buffer) (called f);
                });
          }

-- ---- the call

module _ (ty words pool s lower upper : List ℕ) where
  says_no : (e : Refusal) → prefix_for ty words pool s ≡ refused (number_of e) (detail_of e) → BoundsLeft (prefix_call ty words pool s lower upper) (Err e) lower upper
  unfolding prefix_call
  says_no e q = rw q (record { answer = refl; low = refl; high = refl })

  pub w_sheets : {e : Refusal} → NextSays ty words pool (Err e) → BoundsLeft (prefix_call ty words pool s lower upper) (Err e) lower upper
  w_sheets {e} says = says_no e (says s)

  module _ {mark : ℕ} (asked : AskedStart ty words pool mark) where
    abbrev i : Firsts ty words pool
    i = asked.firsts

    pub w_small : mark < 0xFF
    w_small = rw asked.marked (mark_small (field_type (val_count i.vs) i.ts))

    -- behind the checks
    judged : prefix_for ty words pool s ≡ and_then (fits_all (first_tys (val_count i.vs) i.ts) 0 i.vs) (λ a. start_ends i.vs mark s)
    judged = start_is i s ∙ rw (← asked.marked, eqb_no mark 0 asked.run)

    pub w_values : {e : Refusal} → FitFields ty words pool 2 2 0 (get_or words 1 0) 0 false (Err e) → BoundsLeft (prefix_call ty words pool s lower upper) (Err e) lower upper
    w_values {e} f = says_no e (judged ∙ rw (first_refused i f))

    module _ {x : Fitted} (f : FitFields ty words pool 2 2 0 (get_or words 1 0) 0 false (Ok x)) where
      pub w_fit : FirstFit words pool x.len
      w_fit = record { ts = first_tys (val_count i.vs) i.ts; vs = i.vs; first_is = i.first_is; fit = first_fit i f; long = (first_long i f).0; short = (first_long i f).1 }

      pub w_done : {o : Result Ends Refusal} {lower' upper' : List ℕ} → PutsStarts words pool x.len mark s lower upper o lower' upper' → BoundsLeft (prefix_call ty words pool s lower upper) o lower' upper'
      unfolding prefix_call w_fit
      w_done p = rw (judged, first_fit i f) (p.left w_fit)

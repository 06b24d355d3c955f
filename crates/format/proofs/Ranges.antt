-- The claims of specs/Ranges, proved: an accepted call is taken apart into what it was given, and then the laws of its values say the rest.
use mathlib.Core.Path.{◌≡◌, refl, sym, ap, ◌∙◌, subst}
use mathlib.Core.Bool.{Bool, true, false}
use mathlib.Core.Logic.{◌≢◌}
use mathlib.Core.List.{List, ◌++◌, append_assoc, append-nil}
use mathlib.Core.Option.{Option, some, none}
use Prim.Native.Nat.{Ordering}
use Prim.Native.Nat.{ℕ, zero, suc, ◌<◌}
use native.Mathlib.Omega.{arith}
use lib.Dec.{ltb, eqb}
use lib.ListN.{length, take, drop}
use lib.Seq.{take-append_seam}
use Rattle.format.specs.Answer.{if, Answer, ok, refused, and_then, no_room, NoField, NoBound}
use Rattle.format.specs.Tree.{Ty, Tys, Val, Vals, val_kind, fields_in}
use Rattle.format.specs.Sheet.{field_count, val_count}
use Rattle.format.specs.TypeSheet.{type_of}
use Rattle.format.specs.ValueSheet.{value_of}
use Rattle.format.specs.Encode.{val_bytes, vals_bytes, encode_key, fits, fits_all, fine}
use Rattle.format.specs.Order.{cmp_val}
use Rattle.format.specs.Bounds.{strinc, ByteString, Least, firsts, first_bytes}
use Rattle.format.specs.Replace.{field_at}
use Rattle.format.specs.Calls.{Called, Ends, Bounded, TwoEnds, over, written, with_type, with_value, with_fields, both_ends, encode_key_call, strinc_call, bounds_call}
use Rattle.format.specs.Demand3.{Held}
use Rattle.format.specs.Scalar.{run_start}
use Rattle.format.specs.Spans.{first_tys, field_type, with_record, with_next, span_ends, span_of, span_for, span_call, InSpan, run_mark, with_run, start_end, start_ends, prefix_of, prefix_for, prefix_call, BeginsWith}
use Rattle.format.specs.Ranges.{StrincTight, KeyOf, Cuts, SpanExact, SpansExact, PrefixExact, PrefixesExact}
use Rattle.format.proofs.Tests.{Test, holds, fails, eqb_test, ltb_test, passed, failed, ltb_yes}
use Rattle.format.proofs.KindLaws.{is_record_lem}
use Rattle.format.proofs.TypePlaces.{ty_kind}
use Rattle.format.proofs.FitLaws.{typed, types_in}
use Rattle.format.proofs.TypeKinds.{of_type, no_record}
use Rattle.format.proofs.Sound.{Sound, AllSound}
use Rattle.format.proofs.EncodeLaws.{no_answer, then_ok, and_fine, fits_count, key_parts, key_within}
use Rattle.format.proofs.KeyRound.{record_round}
use Rattle.format.proofs.StrincLaws.{strinc_least, call_none}
use Rattle.format.proofs.ReplaceLaws.{field_sound}
use Rattle.format.proofs.RangeLaws.{span, span_none}
use Rattle.format.proofs.FitNumbers.{Numbers, fitting_all_lem}
use Rattle.format.proofs.StartLaws.{has_end, mark_small, run_val, start, end_bytes}
use Rattle.format.proofs.Demand3.{wrote, key_call, sheet_sound}

-- ---- strinc

-- what an accepted call wrote stands at the buffer's beginning
took : (x out : List ℕ) (n : ℕ) → n ≡ length x → take n (over x out) ≡ x
took x out n e = ap (λ (m : ℕ). take m (over x out)) e ∙ take-append_seam x (drop (length x) out)

-- what an accepted call leaves is what strinc answers
left_least : (prefix out : List ℕ) (n : ℕ) → ByteString prefix → (strinc_call prefix out).answer ≡ ok n → Least prefix (take n (strinc_call prefix out).buffer)
unfolding strinc_call
left_least prefix out n h e =
    let w = wrote out (strinc prefix) n e in
    let x = w.0 in
    let y : take n (written out (strinc prefix)).buffer ≡ x = ap (take n) w.4 ∙ took x out n w.3 in
    subst (Least prefix) (sym y) (strinc_least prefix x h w.1)

pub strinc_tight : StrincTight
strinc_tight = record { least = left_least; refuses = call_none }

-- ---- accepted calls taken apart

type_ok : {A : Type 0} (o : Option Ty) (f : Ty → Answer A) {x : A} → with_type o f ≡ ok x → (t : Ty) × (o ≡ some t) × (f t ≡ ok x)
type_ok (some t) f e = (t, refl, e)
type_ok none f e = absurd (no_answer e)

value_ok : {A : Type 0} (o : Option Val) (f : Val → Answer A) {x : A} → with_value o f ≡ ok x → (v : Val) × (o ≡ some v) × (f v ≡ ok x)
value_ok (some v) f e = (v, refl, e)
value_ok none f e = absurd (no_answer e)

record_ok : {A : Type 0} (o : Option Val) (f : Vals → Answer A) {x : A} → with_record o f ≡ ok x → (vs : Vals) × (o ≡ some (Val.Record vs)) × (f vs ≡ ok x)
record_ok none f e = absurd (no_answer e)
record_ok (some v) f e = let p = passed _ _ (eqb_test (val_kind v) 5) no_answer e in (fields_in v, ap some (is_record_lem v p.0), p.1)

fields_ok : {A : Type 0} (t : Ty) (f : Tys → Answer A) {x : A} → with_fields t f ≡ ok x → (ts : Tys) × (t ≡ Ty.Record ts) × (f ts ≡ ok x)
fields_ok Ty.Int f e = absurd (no_answer e)
fields_ok Ty.Str f e = absurd (no_answer e)
fields_ok Ty.Bytes f e = absurd (no_answer e)
fields_ok (Ty.Ref p) f e = absurd (no_answer e)
fields_ok (Ty.Record ts) f e = (ts, refl, e)
fields_ok (Ty.Union us) f e = absurd (no_answer e)
fields_ok (Ty.Optional t) f e = absurd (no_answer e)

next_ok : {A : Type 0} (t : Ty) (k : ℕ) (f : Tys → Ty → Answer A) {x : A} → with_next t k f ≡ ok x
    → (ts : Tys) × (t ≡ Ty.Record ts) × (k < field_count ts) × (f (first_tys k ts) (field_type k ts) ≡ ok x)
next_ok t k f e =
    let g = fields_ok t (λ ts. if (ltb k (field_count ts)) (f (first_tys k ts) (field_type k ts)) (refused NoField 0)) e in
    let p = passed _ _ (ltb_test k (field_count g.0)) no_answer g.2 in
    (g.0, g.1, p.0, p.1)

-- what both buffers hold, by the two tests for room
abbrev ends_left : (lower upper : List ℕ) → TwoEnds → Bool → Bool → Bounded
ends_left lower upper x b c =
    if b (record { answer = no_room (length x.low); lower = lower; upper = upper })
    (if c (record { answer = no_room (length x.high); lower = lower; upper = upper })
    (record { answer = ok (record { lower = length x.low; upper = length x.high }); lower = over x.low lower; upper = over x.high upper }))

ends_ok : (lower upper : List ℕ) (a : Answer TwoEnds) (e : Ends) → (both_ends lower upper a).answer ≡ ok e
    → (x : TwoEnds) × (a ≡ ok x) × (take e.lower (both_ends lower upper a).lower ≡ x.low) × (take e.upper (both_ends lower upper a).upper ≡ x.high)
ends_ok lower upper (refused n d) e h = absurd (no_answer h)
ends_ok lower upper (ok x) e h = go (ltb (length lower) (length x.low)) (ltb (length upper) (length x.high)) h
  where
    go : (b c : Bool) → (ends_left lower upper x b c).answer ≡ ok e
        → (y : TwoEnds) × (ok x ≡ ok y) × (take e.lower (ends_left lower upper x b c).lower ≡ y.low) × (take e.upper (ends_left lower upper x b c).upper ≡ y.high)
    go true c f = absurd (no_answer f)
    go false true f = absurd (no_answer f)
    go false false f =
        let same : record { lower = length x.low; upper = length x.high } ≡ e = cc in
        (x, refl, took x.low lower e.lower (ap (λ (i : Ends). i.lower) (sym same)), took x.high upper e.upper (ap (λ (i : Ends). i.upper) (sym same)))

-- ---- keys of the type

-- the fields of a key of a record type fit and are sound, and their bytes are the key
record KeyIs (ts : Tys) (v : Val) (key : List ℕ) : Type 0 where
  is : v ≡ Val.Record (fields_in v)
  fit : fits_all ts 0 (fields_in v) ≡ fine
  sound : AllSound (fields_in v)
  bytes : key ≡ vals_bytes 0 (fields_in v)

key_is_lem : {ty : List ℕ} {ts : Tys} {v : Val} {key : List ℕ} → type_of ty ≡ some (Ty.Record ts) → KeyOf ty v key → KeyIs ts v key
key_is_lem {ty} {ts} {v} t k =
    let called = key_call ty k.words k.pool k.out (Ty.Record ts) v t k.valued in
    let w = wrote k.out (encode_key (Ty.Record ts) v) k.used (ap (λ (c : Called ℕ). c.answer) (sym called) ∙ k.answered) in
    let stands = ap (λ (c : Called ℕ). take k.used c.buffer) called ∙ ap (take k.used) w.4 ∙ took w.0 k.out k.used w.3 in
    let p = key_parts ts v w.0 (key_within (Ty.Record ts) v w.0 w.1).0 in
    record { is = p.0; fit = p.1; sound = subst Sound p.0 (sheet_sound k.words k.pool v k.held k.valued).0; bytes = sym k.left ∙ stands ∙ sym p.2 }

-- what an accepted encode_key leaves is a key of the type
pub key_left : (ty words pool out : List ℕ) (n : ℕ) → Held words pool → (encode_key_call ty words pool out).answer ≡ ok n
    → (v : Val) × KeyOf ty v (take n (encode_key_call ty words pool out).buffer)
unfolding encode_key_call
key_left ty words pool out n h a =
    let w = wrote out (with_type (type_of ty) (λ t. with_value (value_of words pool) (λ v. encode_key t v))) n a in
    let t = type_ok (type_of ty) (λ t. with_value (value_of words pool) (λ v. encode_key t v)) w.1 in
    let v = value_ok (value_of words pool) (encode_key t.0) t.2 in
    (v.0, record { words = words; pool = pool; out = out; used = n; held = h; valued = v.1; answered = a; left = refl })

-- the first k of more than k fields
few_first : (k : ℕ) (vs : Vals) → k < val_count vs → val_count (firsts k vs) ≡ k
unfolding firsts val_count
few_first zero vs h = refl
few_first (suc k) Vals.NoVal h = absurd (omega arith)
few_first (suc k) (Vals.AddVal v vs) h = ap suc (few_first k vs (omega arith))

-- ---- an accepted span call

module _ (ty words pool low_words low_pool high_words high_pool : List ℕ) where
  -- the call behind each of its sheets
  abbrev with_high : Ty → Vals → Val → Answer TwoEnds
  with_high t vs lo = with_value (value_of high_words high_pool) (λ hi. with_next t (val_count vs) (span_of vs lo hi))

  abbrev with_low : Ty → Vals → Answer TwoEnds
  with_low t vs = with_value (value_of low_words low_pool) (with_high t vs)

  abbrev with_first : Ty → Answer TwoEnds
  with_first t = with_record (value_of words pool) (with_low t)

  -- what it was given
  pub record Given (x : TwoEnds) : Type 0 where
    pub ts : Tys
    pub vs : Vals
    pub lo : Val
    pub hi : Val
    pub typed : type_of ty ≡ some (Ty.Record ts)
    pub first_is : value_of words pool ≡ some (Val.Record vs)
    pub lowest_is : value_of low_words low_pool ≡ some lo
    pub highest_is : value_of high_words high_pool ≡ some hi
    pub inside : val_count vs < field_count ts
    pub first_fit : fits_all (first_tys (val_count vs) ts) 0 vs ≡ fine
    pub lowest_fit : fits (field_type (val_count vs) ts) 0 lo ≡ fine
    pub highest_fit : fits (field_type (val_count vs) ts) 0 hi ≡ fine
    pub ends : span_ends vs lo hi ≡ x

  pub given : {x : TwoEnds} → span_for ty words pool low_words low_pool high_words high_pool ≡ ok x → Given x
  unfolding span_for
  given {x} a =
      let t = type_ok (type_of ty) with_first a in
      let vs = record_ok (value_of words pool) (with_low t.0) t.2 in
      let lo = value_ok (value_of low_words low_pool) (with_high t.0 vs.0) vs.2 in
      let hi = value_ok (value_of high_words high_pool) (λ hi. with_next t.0 (val_count vs.0) (span_of vs.0 lo.0 hi)) lo.2 in
      let n = next_ok t.0 (val_count vs.0) (span_of vs.0 lo.0 hi.0) hi.2 in
      let u = field_type (val_count vs.0) n.0 in
      let f = then_ok (fits_all (first_tys (val_count vs.0) n.0) 0 vs.0) (λ a. and_then (fits u 0 lo.0) (λ b. and_then (fits u 0 hi.0) (λ c. ok (span_ends vs.0 lo.0 hi.0)))) n.3 in
      let g = then_ok (fits u 0 lo.0) (λ b. and_then (fits u 0 hi.0) (λ c. ok (span_ends vs.0 lo.0 hi.0))) f.2 in
      let h = then_ok (fits u 0 hi.0) (λ c. ok (span_ends vs.0 lo.0 hi.0)) g.2 in
      record {
        ts = n.0;
        vs = vs.0;
        lo = lo.0;
        hi = hi.0;
        typed = t.1 ∙ ap some n.1;
        first_is = vs.1;
        lowest_is = lo.1;
        highest_is = hi.1;
        inside = n.2;
        first_fit = f.1;
        lowest_fit = g.1;
        highest_fit = h.1;
        ends = cc h.2;
      }

  module _ (hp : Held words pool) (hl : Held low_words low_pool) (hh : Held high_words high_pool) {x : TwoEnds} (g : Given x) where
    abbrev k : ℕ
    k = val_count g.vs

    first_sound : AllSound g.vs
    first_sound = (sheet_sound words pool (Val.Record g.vs) hp g.first_is).0

    low_sound : Sound g.lo
    low_sound = (sheet_sound low_words low_pool g.lo hl g.lowest_is).0

    high_sound : Sound g.hi
    high_sound = (sheet_sound high_words high_pool g.hi hh g.highest_is).0

    span_cuts : Cuts ty x.low x.high (λ v. (firsts k (fields_in v) ≡ g.vs) × InSpan g.lo g.hi (field_at k (fields_in v)))
    span_cuts v key of =
        let i = key_is_lem g.typed of in
        let m : k < val_count (fields_in v) = rw (← fits_count g.ts 0 (fields_in v) i.fit) g.inside in
        let s = span k g.vs (fields_in v) (sym (few_first k (fields_in v) m)) m first_sound i.sound g.lo g.hi low_sound high_sound in
        rw (i.bytes, ← g.ends) (λ b. let y = s.0 b in (sym y.0, y.1), λ y. s.1 (sym y.0, y.1))

    span_empty : cmp_val g.lo g.hi ≡ Ordering.gt → Cuts ty x.low x.high (λ v. ⊥)
    span_empty o v key of =
        let next_sound = field_sound k (fields_in v) (key_is_lem g.typed of).sound in
        (λ b. span_none g.lo g.hi (field_at k (fields_in v)) low_sound high_sound next_sound o ((span_cuts v key of).0 b).1, λ y. absurd y)

exact : (ty words pool low_words low_pool high_words high_pool lower upper : List ℕ) (e : Ends) → Held words pool → Held low_words low_pool → Held high_words high_pool
    → (span_call ty words pool low_words low_pool high_words high_pool lower upper).answer ≡ ok e
    → SpanExact ty words pool low_words low_pool high_words high_pool
    (take e.lower (span_call ty words pool low_words low_pool high_words high_pool lower upper).lower)
    (take e.upper (span_call ty words pool low_words low_pool high_words high_pool lower upper).upper)
unfolding span_call
exact ty words pool low_words low_pool high_words high_pool lower upper e hp hl hh a =
    let b = ends_ok lower upper (span_for ty words pool low_words low_pool high_words high_pool) e a in
    let g = given ty words pool low_words low_pool high_words high_pool b.1 in
    record {
      first = g.vs;
      lowest = g.lo;
      highest = g.hi;
      first_is = g.first_is;
      lowest_is = g.lowest_is;
      highest_is = g.highest_is;
      cuts = rw (b.2, b.3) (span_cuts ty words pool low_words low_pool high_words high_pool hp hl hh g);
      empty = λ o. rw (b.2, b.3) (span_empty ty words pool low_words low_pool high_words high_pool hp hl hh g o);
    }

-- ---- from a field's value to the same value

-- of values that fit their types, those of the first k fields fit theirs, and the next fits its own
first_fits : (k : ℕ) (ts : Tys) (vs : Vals) → k < val_count vs → fits_all ts 0 vs ≡ fine → (fits_all (first_tys k ts) 0 (firsts k vs) ≡ fine) × (fits (field_type k ts) 0 (field_at k vs) ≡ fine)
unfolding fits_all first_tys firsts field_type field_at val_count
first_fits k ts Vals.NoVal l f = absurd (omega arith)
first_fits k Tys.NoTy (Vals.AddVal v vs) l f = absurd (no_answer f)
first_fits zero (Tys.AddTy t ts) (Vals.AddVal v vs) l f = (refl, (and_fine (fits t 0 v) (fits_all ts 0 vs) f).0)
first_fits (suc k) (Tys.AddTy t ts) (Vals.AddVal v vs) l f =
    let both = and_fine (fits t 0 v) (fits_all ts 0 vs) f in
    let rest = first_fits k ts vs (omega arith) both.1 in
    (rw both.0 rest.0, rest.1)

-- the bytes of k + 1 fields
one_more : (k : ℕ) (vs : Vals) → k < val_count vs → vals_bytes 0 (firsts k vs) ++ val_bytes 0 (field_at k vs) ≡ first_bytes (suc k) vs
unfolding vals_bytes firsts field_at val_count
one_more k Vals.NoVal l = absurd (omega arith)
one_more zero (Vals.AddVal v vs) l = sym (append-nil (val_bytes 0 v))
one_more (suc k) (Vals.AddVal v vs) l =
    append_assoc (val_bytes 0 v) (vals_bytes 0 (firsts k vs)) (val_bytes 0 (field_at k vs)) ∙ ap (λ (x : List ℕ). val_bytes 0 v ++ x) (one_more k vs (omega arith))

alone : (ty words pool field_words field_pool lower upper : List ℕ) (ts : Tys) (v : Val) (key : List ℕ) (k : ℕ) → type_of ty ≡ some (Ty.Record ts) → KeyOf ty v key
    → k < val_count (fields_in v) → value_of words pool ≡ some (Val.Record (firsts k (fields_in v))) → value_of field_words field_pool ≡ some (field_at k (fields_in v))
    → span_call ty words pool field_words field_pool field_words field_pool lower upper ≡ bounds_call ty key (suc k) lower upper
unfolding span_call span_for bounds_call
alone ty words pool field_words field_pool lower upper ts v key k t of l first_is field_is =
    let vs = fields_in v in
    let i = key_is_lem t of in
    let fit = first_fits k ts vs l i.fit in
    let inside : k < field_count ts = omega (arith, fits_count ts 0 vs i.fit) in
    rw (t, first_is, field_is, few_first k vs l, ltb_yes k (field_count ts) inside, fit.0, fit.1, i.bytes, record_round ts vs i.sound i.fit, one_more k vs l)

pub spans : SpansExact
spans = record { exact = exact; alone = alone }

-- ---- an accepted prefix call

run_ok : {A : Type 0} (u : Ty) (f : ℕ → Answer A) {x : A} → with_run u f ≡ ok x → (run_mark u ≢ 0) × (f (run_mark u) ≡ ok x)
run_ok u f e = failed _ _ (eqb_test (run_mark u) 0) no_answer e

module _ (ty words pool s : List ℕ) where
  -- the call behind its sheet
  abbrev with_vals : Ty → Answer TwoEnds
  with_vals t = with_record (value_of words pool) (λ vs. with_next t (val_count vs) (prefix_of vs s))

  -- what it was given
  pub record GivenStart (x : TwoEnds) : Type 0 where
    pub ts : Tys
    pub vs : Vals
    pub typed : type_of ty ≡ some (Ty.Record ts)
    pub first_is : value_of words pool ≡ some (Val.Record vs)
    pub inside : val_count vs < field_count ts
    pub marked : run_mark (field_type (val_count vs) ts) ≢ 0
    pub first_fit : fits_all (first_tys (val_count vs) ts) 0 vs ≡ fine
    pub low_is : start_end vs (run_mark (field_type (val_count vs) ts)) s ≡ x.low
    pub high_is : strinc (start_end vs (run_mark (field_type (val_count vs) ts)) s) ≡ ok x.high

  pub given_start : {x : TwoEnds} → prefix_for ty words pool s ≡ ok x → GivenStart x
  unfolding prefix_for
  given_start {x} a =
      let t = type_ok (type_of ty) with_vals a in
      let vs = record_ok (value_of words pool) (λ vs. with_next t.0 (val_count vs) (prefix_of vs s)) t.2 in
      let n = next_ok t.0 (val_count vs.0) (prefix_of vs.0 s) vs.2 in
      let fit = fits_all (first_tys (val_count vs.0) n.0) 0 vs.0 in
      let r = run_ok (field_type (val_count vs.0) n.0) (λ mark. and_then fit (λ a. start_ends vs.0 mark s)) n.3 in
      let mark = run_mark (field_type (val_count vs.0) n.0) in
      let f = then_ok fit (λ a. start_ends vs.0 mark s) r.1 in
      let h = then_ok (strinc (start_end vs.0 mark s)) (λ high. ok (record { low = start_end vs.0 mark s; high = high })) f.2 in
      let same : record { low = start_end vs.0 mark s; high = h.0 } ≡ x = cc h.2 in
      record {
        ts = n.0;
        vs = vs.0;
        typed = t.1 ∙ ap some n.1;
        first_is = vs.1;
        inside = n.2;
        marked = r.0;
        first_fit = f.1;
        low_is = ap (λ (y : TwoEnds). y.low) same;
        high_is = h.1 ∙ ap (λ (y : TwoEnds). ok y.high) same;
      }

  module _ (hp : Held words pool) (hs : ByteString s) {x : TwoEnds} (g : GivenStart x) where
    abbrev j : ℕ
    j = val_count g.vs

    abbrev next : Ty
    next = field_type j g.ts

    given_sound : AllSound g.vs
    given_sound = (sheet_sound words pool (Val.Record g.vs) hp g.first_is).0

    prefix_cuts : Cuts ty x.low x.high (λ v. (firsts j (fields_in v) ≡ g.vs) × BeginsWith s (field_at j (fields_in v)))
    prefix_cuts v key of =
        let i = key_is_lem g.typed of in
        let m : j < val_count (fields_in v) = rw (← fits_count g.ts 0 (fields_in v) i.fit) g.inside in
        let r = run_val next (field_at j (fields_in v)) g.marked (first_fits j g.ts (fields_in v) m i.fit).1 in
        let c = start j g.vs (fields_in v) (sym (few_first j (fields_in v) m)) m given_sound i.sound (run_mark next) (mark_small next) s x.high g.high_is r in
        rw (i.bytes, ← g.low_is) (λ b. let y = c.0 b in (sym y.0, y.1), λ y. c.1 (sym y.0, y.1))

    prefix_tight : Least x.low x.high
    prefix_tight = rw (← g.low_is) (strinc_least (start_end g.vs (run_mark next) s) x.high (end_bytes g.vs (run_mark next) s given_sound (mark_small next) hs) g.high_is)

prefix_exact : (ty words pool s lower upper : List ℕ) (e : Ends) → Held words pool → ByteString s → (prefix_call ty words pool s lower upper).answer ≡ ok e
    → PrefixExact ty words pool s (take e.lower (prefix_call ty words pool s lower upper).lower) (take e.upper (prefix_call ty words pool s lower upper).upper)
unfolding prefix_call
prefix_exact ty words pool s lower upper e hp hs a =
    let b = ends_ok lower upper (prefix_for ty words pool s) e a in
    let g = given_start ty words pool s b.1 in
    record { first = g.vs; first_is = g.first_is; cuts = rw (b.2, b.3) (prefix_cuts ty words pool s hp hs g); tight = rw (b.2, b.3) (prefix_tight ty words pool s hp hs g) }

-- ---- and none without an upper end

-- an answer is not NoBound
abbrev Ended : {A : Type 0} → Answer A → Type 0
Ended (ok a) = Unit
Ended (refused n d) = n ≢ NoBound

ended_if : {A : Type 0} (b : Bool) (x y : Answer A) → Ended x → Ended y → Ended (if b x y)
ended_if true x y p q = p
ended_if false x y p q = q

fit_ended : {A : Type 0} (a : Answer Unit) (f : Unit → Answer A) → Numbers a → ((u : Unit) → Ended (f u)) → Ended (and_then a f)
fit_ended (ok u) f p q = q u
fit_ended (refused n d) f p q = λ e. omega (arith, p.to)

type_ended : {A : Type 0} (o : Option Ty) (f : Ty → Answer A) → ((t : Ty) → Ended (f t)) → Ended (with_type o f)
type_ended (some t) f p = p t
type_ended none f p = λ e. omega arith

record_ended : {A : Type 0} (o : Option Val) (f : Vals → Answer A) → ((vs : Vals) → Ended (f vs)) → Ended (with_record o f)
record_ended (some v) f p = ended_if (eqb (val_kind v) 5) _ _ (p (fields_in v)) (λ e. omega arith)
record_ended none f p = λ e. omega arith

fields_ended : {A : Type 0} (t : Ty) (f : Tys → Answer A) → ((ts : Tys) → Ended (f ts)) → Ended (with_fields t f)
unfolding typed
fields_ended t f p = go (eqb (ty_kind t) 5) (eqb_test (ty_kind t) 5)
  where
    go : (b : Bool) → Test (ty_kind t ≡ 5) (ty_kind t ≢ 5) b → Ended (with_fields t f)
    go _ (holds e) = of_type (λ (u : Ty). Ended (with_fields u f)) 5 t e (p (types_in t))
    go _ (fails n) = rw ((no_record t n).fields f) (λ e. omega arith)

-- the ends of any k values, any type's mark and any s: the mark is below FF
start_ended : (vs : Vals) (u : Ty) (s : List ℕ) → Ended (start_ends vs (run_mark u) s)
start_ended vs u s = rw (has_end (vals_bytes 0 vs) (run_mark u) (run_start s) (mark_small u)).1 tt

both_ended : (lower upper : List ℕ) (a : Answer TwoEnds) → Ended a → Ended (both_ends lower upper a).answer
both_ended lower upper (refused n d) p = p
both_ended lower upper (ok x) p = go (ltb (length lower) (length x.low)) (ltb (length upper) (length x.high))
  where
    go : (b c : Bool) → Ended (ends_left lower upper x b c).answer
    go true c = λ e. omega arith
    go false true = λ e. omega arith
    go false false = tt

-- the k values, the next field's kind and its beginning, under any type
next_ended : (t : Ty) (k : ℕ) (vs : Vals) (s : List ℕ) → Ended (with_next t k (prefix_of vs s))
next_ended t k vs s = fields_ended t (λ ts. if (ltb k (field_count ts)) (prefix_of vs s (first_tys k ts) (field_type k ts)) (refused NoField 0)) each
  where
    each : (ts : Tys) → Ended (if (ltb k (field_count ts)) (prefix_of vs s (first_tys k ts) (field_type k ts)) (refused NoField 0))
    each ts =
        let u = field_type k ts in
        let fit = fits_all (first_tys k ts) 0 vs in
        let judged : Ended (and_then fit (λ a. start_ends vs (run_mark u) s)) = fit_ended fit (λ a. start_ends vs (run_mark u) s) (fitting_all_lem (first_tys k ts) 0 vs) (λ a. start_ended vs u s) in
        ended_if (ltb k (field_count ts)) _ _ (ended_if (eqb (run_mark u) 0) _ _ (λ e. omega arith) judged) (λ e. omega arith)

call_ended : (ty words pool s lower upper : List ℕ) → Ended (prefix_call ty words pool s lower upper).answer
unfolding prefix_call prefix_for
call_ended ty words pool s lower upper =
    both_ended lower upper (with_type (type_of ty) (with_vals ty words pool s)) (type_ended (type_of ty) (with_vals ty words pool s) (λ t.
    record_ended (value_of words pool) (λ vs. with_next t (val_count vs) (prefix_of vs s)) (λ vs. next_ended t (val_count vs) vs s)))

not_bound : {A : Type 0} (a : Answer A) (d : ℕ) → Ended a → a ≢ refused NoBound d
not_bound (ok x) d p e = let y : ◌≡◌ {A = ℕ} 0 1 = cc in omega arith
not_bound (refused n c) d p e = p cc

pub prefixes : PrefixesExact
prefixes = record { exact = prefix_exact; bounded = λ ty words pool s lower upper d. not_bound _ d (call_ended ty words pool s lower upper) }

-- Demand 3 (specs/Demand3), proved: lists of replacements answer as the plain book, keys compare as their values, and the bounds call cuts out the keys with the same first k fields.
use mathlib.Core.Path.{◌≡◌, refl, sym, ap, ◌∙◌, subst}
use mathlib.Core.Bool.{Bool, true, false}
use mathlib.Core.List.{List, [], ◌∷◌}
use mathlib.Core.Option.{Option, some, none}
use Prim.Native.Nat.{ℕ, zero, suc, ◌≤◌, ◌<◌}
use native.Mathlib.Omega.{arith}
use lib.Dec.{ltb, leb}
use lib.ListN.{length, take, drop, length-append, length-drop}
use lib.Seq.{take-append_seam, length-take-le}
use Rattle.format.specs.Answer.{if, Answer, ok, refused, and_then, no_room, NoField}
use Rattle.format.specs.Tree.{Ty, Tys, Val, Vals, fields_in}
use Rattle.format.specs.Sheet.{field_count, val_count, val_words, val_pool}
use Rattle.format.specs.TypeSheet.{type_of}
use Rattle.format.specs.ValueSheet.{value_of, Proper, AllProper}
use Rattle.format.specs.Encode.{vals_bytes, encode_key, fits_all, max_key_bytes, fine}
use Rattle.format.specs.Bounds.{above_field, first_bytes}
use Rattle.format.specs.Replace.{set_field, spliced}
use Rattle.format.specs.Calls.{Called, written, over, with_value, replaced, encode_key_call, replace_call, compare_call, bounds_call}
use Rattle.format.specs.Book.{Call, Seen, Book, seen_of, call_on, run_calls, left_by, left_in, kept_with, entered, turned_to, reply_of, seen_in, run_book, book_after}
use Rattle.format.specs.Demand3.{Held, AllHeld, Started, record_of, key_of, AsBook, RefusedAsBook, Ordered, Compared, Bounds, Demand3, Holds}
use Rattle.format.proofs.Tests.{Test, holds, fails, leb_test, ltb_test, leb_yes, ltb_no, passed}
use Rattle.format.proofs.Sound.{Sound, AllSound}
use Rattle.format.proofs.SoundLaws.{admitted_sound}
use Rattle.format.proofs.ValueLaws as values
use Rattle.format.proofs.EncodeLaws.{no_answer, then_ok, fits_count, key_parts, key_made, key_within, key_short, key_order}
use Rattle.format.proofs.KeyRound.{record_round}
use Rattle.format.proofs.ReplaceLaws.{splice_is, set_sound}
use Rattle.format.proofs.BoundLaws.{key_bounds}
use Rattle.format.proofs.AfreshLaws.{afresh}

-- ---- what a call wrote

-- the two ends of a call that would write x
abbrev wrote_or : Bool → List ℕ → List ℕ → Called ℕ
wrote_or b out x = if b (record { answer = ok (length x); buffer = over x out }) (record { answer = no_room (length x); buffer = out })

pub wrote : (out : List ℕ) (a : Answer (List ℕ)) (n : ℕ) → (written out a).answer ≡ ok n
    → (x : List ℕ) × (a ≡ ok x) × (length x ≤ length out) × (n ≡ length x) × ((written out a).buffer ≡ over x out)
wrote out (refused m d) n e = absurd (no_answer e)
wrote out (ok x) n e = go (leb (length x) (length out)) (leb_test (length x) (length out)) e
  where
    go : (b : Bool) → Test (length x ≤ length out) (length out < length x) b → (wrote_or b out x).answer ≡ ok n
        → (y : List ℕ) × (ok x ≡ ok y) × (length y ≤ length out) × (n ≡ length y) × ((wrote_or b out x).buffer ≡ over y out)
    go _ (holds h) f = (x, refl, h, cc, refl)
    go _ (fails h) f = absurd (no_answer f)

-- and given room it writes
writes : (out x : List ℕ) → length x ≤ length out → written out (ok x) ≡ record { answer = ok (length x); buffer = over x out }
writes out x h = rw (leb_yes (length x) (length out) h)

-- encode_key of admitted sheets
pub key_call : (ty words pool out : List ℕ) (t : Ty) (v : Val) → type_of ty ≡ some t → value_of words pool ≡ some v → encode_key_call ty words pool out ≡ written out (encode_key t v)
unfolding encode_key_call
key_call ty words pool out t v e f = rw (e, f)

-- the value of an admitted sheet
pub sheet_sound : (words pool : List ℕ) (v : Val) → Held words pool → value_of words pool ≡ some v → Sound v × Proper v
sheet_sound words pool v h e =
    let a = (values.admitted words pool v).0 e in
    (admitted_sound words pool v h.0 h.1 a, a.proper)

-- ---- what stays true of a book

pub record Kept (ty : List ℕ) (b : Book) : Type 0 where
  pub typed : type_of ty ≡ some (Ty.Record b.types)
  pub fit : fits_all b.types 0 b.fields ≡ fine
  pub sound : AllSound b.fields
  pub proper : AllProper b.fields
  pub key : key_of b ≡ vals_bytes 0 b.fields
  pub room : b.used ≤ length b.buffer
  pub short : length (vals_bytes 0 b.fields) ≤ max_key_bytes

-- fields whose key was accepted and put over a buffer
kept_by : (ty : List ℕ) (b : Book) (lent x : List ℕ) → type_of ty ≡ some (Ty.Record b.types) → AllSound b.fields → AllProper b.fields
    → encode_key (Ty.Record b.types) (Val.Record b.fields) ≡ ok x → b.buffer ≡ over x lent → b.used ≡ length x → Kept ty b
kept_by ty b lent x e s p f q r =
    let w = key_within (Ty.Record b.types) (Val.Record b.fields) x f in
    let k = key_parts b.types (Val.Record b.fields) x w.0 in
    record {
      typed = e;
      fit = k.1;
      sound = s;
      proper = p;
      key = rw (q, r) (take-append_seam x (drop (length x) lent)) ∙ sym k.2;
      room = rw (q, r) (omega (arith, length-append x (drop (length x) lent)));
      short = rw k.2 w.1;
    }

pub begins : (ty words pool lent : List ℕ) (b : Book) → Started ty words pool lent b → Kept ty b
unfolding Proper
begins ty words pool lent b s =
    let k = key_call ty words pool lent (Ty.Record b.types) (Val.Record b.fields) s.typed s.valued in
    let w = wrote lent (encode_key (Ty.Record b.types) (Val.Record b.fields)) b.used (ap (λ (c : Called ℕ). c.answer) (sym k) ∙ s.answered) in
    let v = sheet_sound words pool (Val.Record b.fields) s.held s.valued in
    kept_by ty b lent w.0 s.typed v.0 v.1 w.1 (sym s.left ∙ ap (λ (c : Called ℕ). c.buffer) k ∙ w.4) w.3

set_proper : (k : ℕ) (u : Val) (vs : Vals) → Proper u → AllProper vs → AllProper (set_field k u vs)
unfolding set_field Proper
set_proper k u Vals.NoVal pu p = p
set_proper zero u (Vals.AddVal v vs) pu p = (pu, p.1)
set_proper (suc k) u (Vals.AddVal v vs) pu p = (p.0, set_proper k u vs pu p.1)

still : (ty : List ℕ) (b next : Book) (c : Call) → Kept ty b → Held c.words c.pool → entered b c ≡ ok next → Kept ty next × (length next.buffer ≡ length b.buffer)
unfolding entered
still ty b next c k h e = go (value_of c.words c.pool) refl (passed _ _ (ltb_test c.field (field_count b.types)) no_answer e).1
  where
    go : (o : Option Val) → value_of c.words c.pool ≡ o → with_value o (λ u. kept_with b (set_field c.field u b.fields)) ≡ ok next → Kept ty next × (length next.buffer ≡ length b.buffer)
    go none q f = absurd (no_answer f)
    go (some u) q f =
        let vs = set_field c.field u b.fields in
        let s = sheet_sound c.words c.pool u h q in
        let m = then_ok (encode_key (Ty.Record b.types) (Val.Record vs)) (λ x. if (leb (length x) (length b.buffer)) (ok (record { types = b.types; fields = vs; buffer = over x b.buffer; used = length x })) (no_room (length x))) f in
        let r = passed _ _ (leb_test (length m.0) (length b.buffer)) no_answer m.2 in
        let eq : record { types = b.types; fields = vs; buffer = over m.0 b.buffer; used = length m.0 } ≡ next = cc r.1 in
        let kn = kept_by ty (record { types = b.types; fields = vs; buffer = over m.0 b.buffer; used = length m.0 }) b.buffer m.0 k.typed (set_sound c.field u b.fields s.0 k.sound) (set_proper c.field u b.fields s.1 k.proper) m.1 refl refl in
        let ln : length (over m.0 b.buffer) ≡ length b.buffer = omega (arith, r.0, length-append m.0 (drop (length m.0) b.buffer), length-drop (length m.0) b.buffer) in
        (subst (Kept ty) eq kn, subst (λ (n : Book). length n.buffer ≡ length b.buffer) eq ln)

turn : (ty : List ℕ) (b : Book) (c : Call) → Kept ty b → Held c.words c.pool → Kept ty (turned_to b (entered b c)) × (length (turned_to b (entered b c)).buffer ≡ length b.buffer)
turn ty b c k h = go (entered b c) refl
  where
    go : (a : Answer Book) → entered b c ≡ a → Kept ty (turned_to b a) × (length (turned_to b a).buffer ≡ length b.buffer)
    go (ok next) e = still ty b next c k h e
    go (refused n d) e = (k, refl)

-- ---- one replacement, by the call and by the book

-- what is asked of a key that is the book's
abbrev asked : Book → Call → Bool → Option Val → Answer (List ℕ)
asked b c t o = if t (with_value o (λ u. replaced b.types c.field u b.fields (vals_bytes 0 b.fields))) (refused NoField 0)

abbrev booked : Book → Call → Bool → Option Val → Answer Book
booked b c t o = if t (with_value o (λ u. kept_with b (set_field c.field u b.fields))) (refused NoField 0)

on_key : (ty : List ℕ) (b : Book) (c : Call) → Kept ty b
    → replace_call ty b.buffer b.used c.field c.words c.pool ≡ written b.buffer (asked b c (ltb c.field (field_count b.types)) (value_of c.words c.pool))
unfolding replace_call
on_key ty b c k = rw (k.typed, leb_yes b.used (length b.buffer) k.room, k.key, record_round b.types b.fields k.sound k.fit)

agree : (b : Book) (c : Call) → fits_all b.types 0 b.fields ≡ fine → (t : Bool) → Test (c.field < field_count b.types) (field_count b.types ≤ c.field) t → (o : Option Val)
    → seen_of b.used (written b.buffer (asked b c t o)) ≡ seen_in (booked b c t o) (turned_to b (booked b c t o))
agree b c f _ (fails q) o = refl
agree b c f _ (holds q) none = refl
agree b c f _ (holds q) (some u) = go (encode_key (Ty.Record b.types) (Val.Record (set_field c.field u b.fields))) refl
  where
    go : (a : Answer (List ℕ)) → encode_key (Ty.Record b.types) (Val.Record (set_field c.field u b.fields)) ≡ a
        → seen_of b.used (written b.buffer (and_then a (λ x. ok (spliced c.field u b.fields (vals_bytes 0 b.fields)))))
        ≡ seen_in (and_then a (λ x. if (leb (length x) (length b.buffer)) (ok (record { types = b.types; fields = set_field c.field u b.fields; buffer = over x b.buffer; used = length x })) (no_room (length x))))
        (turned_to b (and_then a (λ x. if (leb (length x) (length b.buffer)) (ok (record { types = b.types; fields = set_field c.field u b.fields; buffer = over x b.buffer; used = length x })) (no_room (length x)))))
    go (refused n d) e = refl
    go (ok x) e =
        let n : c.field < val_count b.fields = rw (fits_count b.types 0 b.fields f) at q in
        let w = key_within (Ty.Record b.types) (Val.Record (set_field c.field u b.fields)) x e in
        let sp : spliced c.field u b.fields (vals_bytes 0 b.fields) ≡ x = splice_is c.field u b.fields n ∙ (key_parts b.types (Val.Record (set_field c.field u b.fields)) x w.0).2 in
        rw sp (room (leb (length x) (length b.buffer)))
      where
        room : (r : Bool) → seen_of b.used (if r (record { answer = ok (length x); buffer = over x b.buffer }) (record { answer = no_room (length x); buffer = b.buffer }))
            ≡ seen_in (if r (ok (record { types = b.types; fields = set_field c.field u b.fields; buffer = over x b.buffer; used = length x })) (no_room (length x)))
            (turned_to b (if r (ok (record { types = b.types; fields = set_field c.field u b.fields; buffer = over x b.buffer; used = length x })) (no_room (length x))))
        room true = refl
        room false = refl

same : (ty : List ℕ) (b : Book) (c : Call) → Kept ty b → call_on ty b.buffer b.used c ≡ seen_in (entered b c) (turned_to b (entered b c))
unfolding entered
same ty b c k = ap (seen_of b.used) (on_key ty b c k) ∙ agree b c k.fit (ltb c.field (field_count b.types)) (ltb_test c.field (field_count b.types)) (value_of c.words c.pool)

-- ---- a list of replacements

-- the rest of a list goes on from what was seen
abbrev go_on : List ℕ → List Call → Seen → List Seen
go_on ty cs s = s ∷ run_calls ty s.buffer s.used cs

run_same : (ty : List ℕ) (b : Book) (cs : List Call) → Kept ty b → AllHeld cs → run_calls ty b.buffer b.used cs ≡ run_book b cs
unfolding run_calls run_book
run_same ty b [] k h = refl
run_same ty b (c ∷ cs) k h =
    ap (go_on ty cs) (same ty b c k)
    ∙ ap (λ (l : List Seen). seen_in (entered b c) (turned_to b (entered b c)) ∷ l) (run_same ty (turned_to b (entered b c)) cs (turn ty b c k h.0).0 h.1)

left_same : (ty : List ℕ) (b : Book) (cs : List Call) → Kept ty b → AllHeld cs → left_by ty b.buffer b.used cs ≡ left_in (book_after b cs)
unfolding left_by book_after
left_same ty b [] k h = refl
left_same ty b (c ∷ cs) k h =
    ap (λ (s : Seen). left_by ty s.buffer s.used cs) (same ty b c k)
    ∙ left_same ty (turned_to b (entered b c)) cs (turn ty b c k h.0).0 h.1

kept_after : (ty : List ℕ) (b : Book) (cs : List Call) → Kept ty b → AllHeld cs → Kept ty (book_after b cs) × (length (book_after b cs).buffer ≡ length b.buffer)
unfolding book_after
kept_after ty b [] k h = (k, refl)
kept_after ty b (c ∷ cs) k h =
    let t = turn ty b c k h.0 in
    let r = kept_after ty (turned_to b (entered b c)) cs t.0 h.1 in
    (r.0, r.1 ∙ t.1)

-- ---- the claims for a book that is kept

fresh_key : (ty : List ℕ) (b : Book) → Kept ty b → encode_key (Ty.Record b.types) (record_of b) ≡ ok (key_of b)
fresh_key ty b k = rw k.key (key_short (Ty.Record b.types) (record_of b) (vals_bytes 0 b.fields) (key_made b.types b.fields k.fit) k.short)

fresh_call : (ty : List ℕ) (b : Book) → Kept ty b → (out : List ℕ) → b.used ≤ length out
    → encode_key_call ty (val_words (record_of b)) (val_pool (record_of b)) out ≡ record { answer = ok b.used; buffer = over (key_of b) out }
fresh_call ty b k out h =
    let n : length (key_of b) ≡ b.used = length-take-le b.used b.buffer k.room in
    key_call ty (val_words (record_of b)) (val_pool (record_of b)) out (Ty.Record b.types) (record_of b) k.typed (afresh ty b.types b.fields k.typed k.proper k.fit k.short)
    ∙ ap (written out) (fresh_key ty b k)
    ∙ writes out (key_of b) (rw n h)
    ∙ ap (λ (m : ℕ). record { answer = ok m; buffer = over (key_of b) out }) n

pub as_book : (ty : List ℕ) (b : Book) (cs : List Call) → Kept ty b → AllHeld cs → AsBook ty b cs
as_book ty b cs k h =
    let a = kept_after ty b cs k h in
    record { answers = run_same ty b cs k h; left = left_same ty b cs k h; long = a.1; fresh = fresh_call ty (book_after b cs) a.0 }

pub refused_as_book : (ty : List ℕ) (b : Book) (c : Call) → Kept ty b → RefusedAsBook ty b c
refused_as_book ty b c k =
    record {
      refusal = λ n d. (λ e. there n d (entered b c) (ap (λ (s : Seen). s.answer) (sym (same ty b c k)) ∙ e), λ e. ap (λ (s : Seen). s.answer) (same ty b c k) ∙ ap reply_of e);
      unchanged = λ n d e. same ty b c k ∙ ap (λ (a : Answer Book). seen_in a (turned_to b a)) e;
    }
  where
    there : (n d : ℕ) (a : Answer Book) → reply_of a ≡ refused n d → a ≡ refused n d
    there n d (ok next) e = absurd (no_answer (sym e))
    there n d (refused m f) e = cc

-- a type sheet has one tree
types_same : (ty : List ℕ) (b d : Book) → Kept ty b → Kept ty d → d.types ≡ b.types
types_same ty b d k l = one_record b.types d.types (sym k.typed ∙ l.typed)
  where
    one_record : (ts us : Tys) → some (Ty.Record ts) ≡ some (Ty.Record us) → us ≡ ts
    one_record ts us e = cc

pub ordered : (ty : List ℕ) (b d : Book) → Kept ty b → Kept ty d → Ordered b d
ordered ty b d k l =
    let f = subst (λ (us : Tys). encode_key (Ty.Record us) (record_of d) ≡ ok (key_of d)) (types_same ty b d k l) (fresh_key ty d l) in
    key_order (Ty.Record b.types) (record_of b) (record_of d) (key_of b) (key_of d)
    (key_within (Ty.Record b.types) (record_of b) (key_of b) (fresh_key ty b k)).0
    (key_within (Ty.Record b.types) (record_of d) (key_of d) f).0 k.sound l.sound

-- and the call that compares two values says how their keys compare
pub compared : (ty : List ℕ) (b d : Book) → Kept ty b → Kept ty d → Compared b d
unfolding compare_call
compared ty b d k l =
    rw (afresh ty b.types b.fields k.typed k.proper k.fit k.short, afresh ty d.types d.fields l.typed l.proper l.fit l.short)
    (ap ok (sym (ordered ty b d k l)))

pub bounds : (ty : List ℕ) (b : Book) (k : ℕ) → Kept ty b → k ≤ field_count b.types → Bounds ty b k
unfolding bounds_call
bounds ty b k kept h = record {
  writes = λ lower upper p q.
      rw (kept.typed, leb_yes k (field_count b.types) h, kept.key, record_round b.types b.fields kept.sound kept.fit, ltb_no (length lower) (length (first_bytes k b.fields)) p, ltb_no (length upper) (length (above_field (first_bytes k b.fields))) q);
  cuts = λ words pool out v n held e a.
      let kc = key_call ty words pool out (Ty.Record b.types) v kept.typed e in
      let w = wrote out (encode_key (Ty.Record b.types) v) n (ap (λ (c : Called ℕ). c.answer) (sym kc) ∙ a) in
      let y : take n (encode_key_call ty words pool out).buffer ≡ w.0 = ap (λ (c : Called ℕ). take n c.buffer) kc ∙ ap (take n) w.4 ∙ ap (λ (m : ℕ). take m (over w.0 out)) w.3 ∙ take-append_seam w.0 (drop (length w.0) out) in
      let f = key_bounds b.types k (record_of b) v (key_of b) w.0 (key_within (Ty.Record b.types) (record_of b) (key_of b) (fresh_key ty b kept)).0 (key_within (Ty.Record b.types) v w.0 w.1).0 kept.sound (sheet_sound words pool v held e).0 in
      rw y (λ g. sym (f.0 g), λ g. f.1 (sym g));
}

-- Every accepted encode_key of a record type starts such a book.
starts : (ty words pool lent : List ℕ) (ts : Tys) (n : ℕ) → type_of ty ≡ some (Ty.Record ts) → Held words pool → (encode_key_call ty words pool lent).answer ≡ ok n
    → (b : Book) × Started ty words pool lent b
unfolding encode_key_call
starts ty words pool lent ts n e h a = go (value_of words pool) refl
  where
    go : (o : Option Val) → value_of words pool ≡ o → (b : Book) × Started ty words pool lent b
    go none q = absurd (no_answer (rw (e, q) at a))
    go (some v) q =
        let kc = key_call ty words pool lent (Ty.Record ts) v e q in
        let w = wrote lent (encode_key (Ty.Record ts) v) n (ap (λ (c : Called ℕ). c.answer) (sym kc) ∙ a) in
        let p = key_parts ts v w.0 (key_within (Ty.Record ts) v w.0 w.1).0 in (
          record { types = ts; fields = fields_in v; buffer = (encode_key_call ty words pool lent).buffer; used = n },
          record { typed = e; valued = q ∙ ap some p.0; answered = a; left = refl; held = h },
        )

-- the other book after its list
other : (ty words pool lent : List ℕ) (d : Book) (ds : List Call) → Started ty words pool lent d → AllHeld ds → Kept ty (book_after d ds)
other ty words pool lent d ds s h = (kept_after ty d ds (begins ty words pool lent d s) h).0

keeps : (ty words pool lent : List ℕ) (b : Book) (cs : List Call) → Started ty words pool lent b → AllHeld cs → Demand3 ty b cs
keeps ty words pool lent b cs s h =
    let kb = begins ty words pool lent b s in
    let ab = (kept_after ty b cs kb h).0 in
    record {
      list = as_book ty b cs kb h;
      refusals = λ c. refused_as_book ty (book_after b cs) c ab;
      order = λ words_d pool_d lent_d d ds sd hd. ordered ty (book_after b cs) (book_after d ds) ab (other ty words_d pool_d lent_d d ds sd hd);
      compares = λ words_d pool_d lent_d d ds sd hd. compared ty (book_after b cs) (book_after d ds) ab (other ty words_d pool_d lent_d d ds sd hd);
      bounds = λ k l. bounds ty (book_after b cs) k ab (subst (λ (ts : Tys). k ≤ field_count ts) (types_same ty (book_after b cs) b ab kb) l);
    }

-- Demand 3 in full.
pub demand3 : Holds
demand3 = record { starts = starts; keeps = keeps }

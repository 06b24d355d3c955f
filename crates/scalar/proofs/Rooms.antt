-- What a writing call answers, and the buffer afterwards, by whether there is room.
use Rattle.std.specs.Prelude.{Result, Ok, Err}
use Rattle.std.proofs.Common.{◌≡◌, ℕ, ◌+◌, ◌-◌, ◌^◌, ◌<◌, ◌≤◌, Bool, true, false, ltb, List, ◌∷◌, length, set, sym, refl, ◌∙◌, arith, min, ltb-false, ltb-true, le-ltb, lt-ltb}
use Rattle.format.specs.Answer.{ok, refused, shown}
use Rattle.format.specs.Refusals.{Leaves, number_of, detail_of}
use Rattle.format.specs.declared.refusal.Refusal.{Refusal}
use Rattle.format.specs.declared.refusal.Refusal.TheVariants as made
use Rattle.format.specs.Scalar.{escaped, width, magnitude, be, neg_bytes}
use Rattle.format.specs.Fields.{put, put_at, put_str_call, put_u64_call, put_i64_call}
use Rattle.format.specs.Utf8.{utf8}
use Rattle.blocks.proofs.Put.{set_put_cons}
use Rattle.scalar.specs.Answers.{room_for}
use Rattle.scalar.specs.Runs.{WritesRun}
use Rattle.scalar.specs.declared.runs.Written.{Written}
use Rattle.scalar.proofs.Marking.{no_ok}
use Rattle.scalar.proofs.Cases.{by_test}
use Rattle.scalar.proofs.Widths.{length_be, int_pos, int_neg}

-- as a saturating sum shows it
shown_min : (n : ℕ) → min n (2 ^ 64 - 1) ≡ shown n
shown_min n = by_test (ltb n (2 ^ 64)) (λ t. let h = ltb-true n (2 ^ 64) t in rw t (omega arith)) (λ t. let h = ltb-false n (2 ^ 64) t in rw t (omega arith))

module _ (len at n : ℕ) where
  pub room_place : len < at → at < 2 ^ 64 → refused 17 at ≡ room_for len at n
  room_place h s = rw (lt-ltb len at h, lt-ltb at (2 ^ 64) s)

  pub room_short : at ≤ len → len < at + n → refused 17 (min (at + n) (2 ^ 64 - 1)) ≡ room_for len at n
  room_short h s = rw (le-ltb len at h, lt-ltb len (at + n) s, shown_min (at + n))

  pub room_some : at + n ≤ len → ok (at + n) ≡ room_for len at n
  room_some h = rw (le-ltb len at (omega arith), le-ltb len (at + n) h)

  -- a place in the answer is room for all
  pub room_ok : {r : ℕ} → ok r ≡ room_for len at n → at + n ≤ len
  room_ok {r} p =
      by_test (ltb len at) (λ t. no_ok (rw t at p))
      (λ t. by_test (ltb len (at + n)) (λ u. no_ok (rw (t, u) at p)) (λ u. ltb-false len (at + n) u))

put_some : (d : List ℕ) (at : ℕ) (s : List ℕ) → at + length s ≤ length d → Leaves (put_at d at s) (Ok (at + length s)) (put d at s)
put_some d at s h =
    let a : ltb (length d) at ≡ false = le-ltb (length d) at (omega arith) in
    let b : ltb (length d) (at + length s) ≡ false = le-ltb (length d) (at + length s) h in
    rw (a, b) (record { answer = refl; left = refl })

put_refused : (d : List ℕ) (at : ℕ) (s : List ℕ) (e : Refusal) → refused (number_of e) (detail_of e) ≡ room_for (length d) at (length s) → Leaves (put_at d at s) (Err e) d
put_refused d at s e p =
    by_test (ltb (length d) at) (λ t. rw t (record { answer = rw t at p; left = refl }))
    (λ t. by_test (ltb (length d) (at + length s)) (λ u. rw (t, u) (record { answer = rw (t, u) at p; left = refl })) (λ u. no_ok (sym (rw (t, u) at p))))

-- what is put once the room for its n bytes was asked for
module _ (d : List ℕ) (at n : ℕ) (s : List ℕ) (e : n ≡ length s) where
  module _ {k : ℕ} (p : ok k ≡ room_for (length d) at n) where
    pub put_room : at + length s ≤ length d
    put_room = room_ok (length d) at (length s) (rw e at p)

    pub put_done : {i : ℕ} {d' : List ℕ} → i ≡ at + length s → d' ≡ put d at s → Leaves (put_at d at s) (Ok i) d'
    put_done u v = rw (u, v) (put_some d at s put_room)

  pub put_none : (x : Refusal) → refused (number_of x) (detail_of x) ≡ room_for (length d) at n → Leaves (put_at d at s) (Err x) d
  put_none x p = put_refused d at s x (rw e at p)

-- a whole field
module _ (d : List ℕ) (at n : ℕ) (s : List ℕ) (e : n ≡ length s) where
  whole_long : 0 + n ≡ length s
  whole_long = omega arith

  module _ {k : ℕ} (p : ok k ≡ room_for (length d) at (0 + n)) where
    pub whole_room : at + length s ≤ length d
    whole_room = put_room d at (0 + n) s whole_long p

    pub whole_done : {i : ℕ} {d' : List ℕ} → (i ≡ at + length s) × (d' ≡ put d at s) → Leaves (put_at d at s) (Ok i) d'
    whole_done w = put_done d at (0 + n) s whole_long p w.0 w.1

  pub whole_none : (x : Refusal) → refused (number_of x) (detail_of x) ≡ room_for (length d) at (0 + n) → Leaves (put_at d at s) (Err x) d
  whole_none x p = put_none d at (0 + n) s whole_long x p

-- a mark and a run
module _ (d : List ℕ) (at mark : ℕ) (payload : List ℕ) (n : ℕ) (e : n ≡ length (escaped payload)) where
  run_long : 1 + n ≡ length (mark ∷ escaped payload)
  run_long = omega arith

  module _ {j : ℕ} (p : ok j ≡ room_for (length d) at (1 + n)) where
    pub run_room : at + 1 + length (escaped payload) ≤ length d
    run_room = omega (arith, put_room d at (1 + n) (mark ∷ escaped payload) run_long p)

    pub run_done : {r : Written} {d' : List ℕ} → WritesRun (set d at mark) (at + 1) payload r d' → Leaves (put_at d at (mark ∷ escaped payload)) (Ok r.end) d'
    run_done w =
        let h = run_room in
        put_done d at (1 + n) (mark ∷ escaped payload) run_long p (omega (arith, w.ends)) (w.wrote ∙ set_put_cons d at mark (escaped payload) (omega arith))

  pub run_none : (x : Refusal) → refused (number_of x) (detail_of x) ≡ room_for (length d) at (1 + n) → Leaves (put_at d at (mark ∷ escaped payload)) (Err x) d
  run_none x p = put_none d at (1 + n) (mark ∷ escaped payload) run_long x p

-- ---- text, judged before any room is asked for

module _ (d : List ℕ) (at : ℕ) (s : List ℕ) (t : Bool) (e : t ≡ utf8 s) where
  pub put_text : t ≡ true → {a : Result ℕ Refusal} {d' : List ℕ} → Leaves (put_at d at (0x21 ∷ escaped s)) a d' → Leaves (put_str_call d at s) a d'
  unfolding put_str_call
  put_text h p = rw (sym e ∙ h) p

  pub put_no_text : t ≡ false → Leaves (put_str_call d at s) (Err made.BadString) d
  unfolding put_str_call
  put_no_text h = rw (sym e ∙ h) (record { answer = refl; left = refl })

-- ---- a word, by its sign

pub put_pos : (d : List ℕ) (at w : ℕ) {a : Result ℕ Refusal} {d' : List ℕ} → w < 2 ^ 63 → Leaves (put_u64_call d at w) a d' → Leaves (put_i64_call d at w) a d'
unfolding put_u64_call put_i64_call
put_pos d at w h p = rw (int_pos h) p

-- the bytes of a negative one, by its magnitude and their width
module _ (d : List ℕ) (at w m k : ℕ) (h : 2 ^ 63 ≤ w) (e : m ≡ magnitude w) (f : k ≡ width m) where
  abbrev neg : List ℕ
  neg = (0x48 - k) ∷ be k (2 ^ 64 - 1 - m)

  neg_long : 1 + k ≡ length neg
  neg_long = omega (arith, length_be k (2 ^ 64 - 1 - m))

  pub put_neg : {a : Result ℕ Refusal} {d' : List ℕ} → Leaves (put_at d at neg) a d' → Leaves (put_i64_call d at w) a d'
  unfolding put_i64_call neg_bytes
  put_neg p = rw (int_neg h, ← e, ← f) p

  module _ {i : ℕ} (p : ok i ≡ room_for (length d) at (1 + k)) where
    pub neg_room : at + (k + 1) ≤ length d
    neg_room = omega (arith, put_room d at (1 + k) neg neg_long p, neg_long)

    pub neg_done : {r : ℕ} {d' : List ℕ} → (r ≡ at + (k + 1)) × (d' ≡ put d at neg) → Leaves (put_i64_call d at w) (Ok r) d'
    neg_done v = put_neg (put_done d at (1 + k) neg neg_long p (omega (arith, v.0, neg_long)) v.1)

  pub neg_none : (x : Refusal) → refused (number_of x) (detail_of x) ≡ room_for (length d) at (1 + k) → Leaves (put_i64_call d at w) (Err x) d
  neg_none x p = put_neg (put_none d at (1 + k) neg neg_long x p)

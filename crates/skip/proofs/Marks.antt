-- A field by its mark: what each function finds behind it.
use mathlib.Core.Bool.{Bool, true, false, ◌||◌}
use mathlib.Core.Path.{◌≡◌, refl, sym, ap, ◌∙◌}
use mathlib.Core.List.{List, [], ◌∷◌}
use Prim.Native.Nat.{ℕ, ◌+◌, ◌-◌, ◌≤◌, ◌<◌}
use native.Mathlib.Omega.{arith}
use lib.Dec.{eqb, ltb, leb}
use lib.ListN.{length, get_or, drop}
use borrow.Author.Tests.{ne_eqb, eqb-true, eqb-false, lt-ltb, le-ltb, ltb-true, ltb-false, le-leb, lt-leb, leb-true, leb-false}
use Rattle.std.specs.List.{slice_get}
use Rattle.std.proofs.Common.{Some, None}
use Rattle.format.specs.Answer.{if, ok, refused, and_then}
use Rattle.format.specs.Read.{Read, then_read, get_uint, starts_ff}
use Rattle.format.specs.Fields.{taken_from}
use Rattle.format.specs.Skip.{pass_bytes, pass_field, end_of}
use Rattle.format.specs.Cursor.{null_at, tag_at, union_mark}
use Rattle.scalar.specs.Answers.{taken_by}
use Rattle.scalar.specs.Numbers.{mark_width, unjudged}
use Rattle.scalar.specs.declared.taken.Taken.{Taken as TakenInt}
use Rattle.scalar.proofs.Cases.{by_test}
use Rattle.scalar.proofs.Reading.{taken_bad}
use Rattle.scalar.proofs.Integers.{big_short}
use Rattle.scalar.proofs.Unjudged.{width_inside, inside_width}
use Rattle.skip.specs.Tokens.{field, null_token, pass_run, number_mark, run_mark, Begins, Left}

-- ---- integers, references and runs

module _ (escape : Bool) (depth m : ℕ) (s : List ℕ) where
  mark_negative : 0x40 ≤ m → m < 0x48 → pass_field escape depth m s ≡ pass_bytes (0x48 - m) depth s
  unfolding pass_field
  mark_negative l h =
      rw (
        ne_eqb m 0x00 (omega arith),
        ne_eqb m 0x21 (omega arith),
        ne_eqb m 0x53 (omega arith),
        ne_eqb m 0x22 (omega arith),
        le-ltb m 0x40 l,
        lt-ltb m 0x48 h,
      )

  mark_positive : 0x48 ≤ m → m ≤ 0x50 → pass_field escape depth m s ≡ pass_bytes (m - 0x48) depth s
  unfolding pass_field
  mark_positive l h =
      rw (
        ne_eqb m 0x00 (omega arith),
        ne_eqb m 0x21 (omega arith),
        ne_eqb m 0x53 (omega arith),
        ne_eqb m 0x22 (omega arith),
        le-ltb m 0x40 (omega arith),
        le-ltb m 0x48 l,
        le-leb m 0x50 h,
      )

  mark_reference : m ≡ 0x51 → pass_field escape depth m s ≡ pass_bytes 8 depth s
  unfolding pass_field
  mark_reference e = rw e

  -- as many bytes are passed as the mark says
  pub number_passes : mark_width m ≤ 8 → pass_field escape depth m s ≡ pass_bytes (mark_width m) depth s
  number_passes h =
      let k = inside_width m h in
      by_test (ltb m 0x48) (λ t. rw t (mark_negative k.0 (ltb-true m 0x48 t)))
      (λ t. by_test (eqb m 0x51) (λ u. rw (t, u) (mark_reference (eqb-true m 0x51 u)))
      (λ u. let y = eqb-false m 0x51 u in rw (t, u) (mark_positive (ltb-false m 0x48 t) (omega arith))))

  pub run_passes : run_mark m ≡ true → pass_field escape depth m s ≡ pass_run depth s
  unfolding pass_field
  run_passes e = rw (ne_eqb m 0 (λ z. no_run (rw z at e)), e)
    where
      no_run : false ≡ true → ⊥
      no_run y = let z : ◌≡◌ {A = ℕ} 0 1 = cc in omega arith

-- a number whose bytes are cut short
pub number_short : (escape : Bool) (depth : ℕ) (s : List ℕ) → unjudged s ≡ 0 → number_mark (get_or s 0 0) ≡ true → field escape depth s ≡ Read.bad 1 0
unfolding unjudged field
number_short escape depth [] z k = refl
number_short escape depth (m ∷ s) z k =
    by_test (leb (mark_width m) (length s)) (λ u. let q : mark_width m + 1 ≡ 0 = rw (k, u) at z in absurd (omega arith))
    (λ u. number_passes escape depth m s (leb-true (mark_width m) 8 k) ∙ rw (big_short (mark_width m) s (leb-false (mark_width m) (length s) u)))

-- ---- any other field

-- a null's escape is due where it is asked for, and else inside a group
pub due_asked : (escape : Bool) (depth : ℕ) {q : Bool} → q ≡ escape → escape ≡ true → q ≡ (escape || ltb 0 depth)
due_asked escape depth k e = rw (k, e)

pub due_inside : (escape : Bool) (depth : ℕ) {q : Bool} → q ≡ ltb 0 depth → escape ≡ false → q ≡ (escape || ltb 0 depth)
due_inside escape depth k e = rw (k, e)

begins : (s : List ℕ) {m : ℕ} → Some m ≡ slice_get s 0 → Begins s m
begins [] e = let z : ◌≡◌ {A = ℕ} 0 1 = cc in absurd (omega arith)
begins (x ∷ s) e = record { some = omega arith; first = cc }

module _ (escape : Bool) (depth : ℕ) where
  field_known : (s : List ℕ) (m : ℕ) → Begins s m → field escape depth s ≡ pass_field escape depth m (drop 1 s)
  unfolding field
  field_known [] m b = let z = b.some in absurd (omega arith)
  field_known (x ∷ s) m b = rw b.first

  -- a null: FF is due or not
  null_read : (t : List ℕ) (q : Bool) → taken_from (0 ∷ t) (if q (if (starts_ff t) (Read.got depth (drop 1 t)) (Read.bad 3 0)) (Read.got depth t)) ≡ null_token depth q (0 ∷ t)
  null_read t true = by_test (starts_ff t) (λ e. rw e) (λ e. rw e)
  null_read t false = refl

  null_field : (s : List ℕ) → Begins s 0x00 → (q : Bool) → q ≡ (escape || ltb 0 depth) → null_token depth q s ≡ taken_from s (field escape depth s)
  unfolding field pass_field
  null_field [] b q e = let z = b.some in absurd (omega arith)
  null_field (x ∷ s) b q e = sym (rw (b.first, ← e) (null_read s q))

  module _ (s : List ℕ) (b : Begins s 0x00) {q : Bool} (e : q ≡ (escape || ltb 0 depth)) where
    pub null_passed : {n : ℕ} → ok n ≡ end_of s (null_at (if q 1 0) s) → ok (record { value = depth; used = n }) ≡ taken_from s (field escape depth s)
    null_passed p = ap (λ a. and_then a (λ n. ok (record { value = depth; used = n }))) p ∙ null_field s b q e

    pub null_refused : {n d : ℕ} → refused n d ≡ end_of s (null_at (if q 1 0) s) → refused n d ≡ taken_from s (field escape depth s)
    null_refused p = ap (λ a. and_then a (λ n. ok (record { value = depth; used = n }))) p ∙ null_field s b q e

  -- a union: its depth, then its discriminant
  union_read : (s : List ℕ) → depth < 256 → (x : Read ℕ)
      → taken_from s (if (ltb depth 256) (then_read x (λ d rest. Read.got (depth + 1) rest)) (Read.bad 6 0))
      ≡ and_then (taken_from s (tag_at depth x)) (λ t. ok (record { value = depth + 1; used = t.used }))
  union_read s h (Read.got v r) = rw (lt-ltb depth 256 h)
  union_read s h (Read.bad n d) = rw (lt-ltb depth 256 h)

  union_field : (s : List ℕ) → Begins s 0x52 → depth < 256
      → taken_from s (field escape depth s) ≡ and_then (taken_from s (union_mark depth s)) (λ t. ok (record { value = depth + 1; used = t.used }))
  unfolding field pass_field
  union_field [] b h = let z = b.some in absurd (omega arith)
  union_field (x ∷ s) b h = rw b.first (union_read (0x52 ∷ s) h (get_uint s))

  module _ (s : List ℕ) (b : Begins s 0x52) where
    pub union_deep : 256 ≤ depth → refused 6 0 ≡ taken_from s (field escape depth s)
    unfolding pass_field
    union_deep h = rw (field_known s 0x52 b, le-ltb depth 256 h)

    module _ (h : depth < 256) where
      pub union_passed : {t : TakenInt ℕ} → ok (taken_by (λ n. n) t) ≡ taken_from s (union_mark depth s) → ok (record { value = depth + 1; used = t.used }) ≡ taken_from s (field escape depth s)
      union_passed p = sym (union_field s b h ∙ rw (← p))

      pub union_refused : {n d : ℕ} → refused n d ≡ taken_from s (union_mark depth s) → refused n d ≡ taken_from s (field escape depth s)
      union_refused p = sym (union_field s b h ∙ rw (← p))

  -- no byte
  pub left_none : (s : List ℕ) → None ≡ slice_get s 0 → refused 1 0 ≡ taken_from s (field escape depth s)
  unfolding field
  left_none [] h = refl
  left_none (m ∷ s) h = let z : ◌≡◌ {A = ℕ} 0 1 = cc in absurd (omega arith)

  module _ (s : List ℕ) (h : Left depth s) {m : ℕ} (b : Some m ≡ slice_get s 0) where
    -- a record that is too deep, a number cut short
    pub left_deep : m ≡ 0x22 → refused 6 0 ≡ taken_from s (field escape depth s)
    unfolding pass_field
    left_deep e = let k = begins s b in rw (field_known s m k, e, le-ltb depth 256 (h.deep (k.first ∙ e)))

    pub left_cut : true ≡ number_mark m → refused 1 0 ≡ taken_from s (field escape depth s)
    left_cut t = taken_bad s (number_short escape depth s h.short (rw (begins s b).first (sym t)))

    -- any other mark
    other : (m ≡ 0x52 → ⊥) → (m ≡ 0x00 → ⊥) → (m ≡ 0x22 → ⊥) → number_mark m ≡ false → pass_field escape depth m (drop 1 s) ≡ Read.bad 2 m
    unfolding pass_field
    other u n r f =
        rw (ne_eqb m 0x00 n, (rw (begins s b).first at h.runless), ne_eqb m 0x22 r)
        (by_test (ltb m 0x40) (λ t. rw t)
        (λ t. let a = ltb-false m 0x40 t in
        let w : 0x51 < m = above a in
        rw (t, le-ltb m 0x48 (omega arith), lt-leb m 0x50 (omega arith), ne_eqb m 0x51 (λ y. omega arith), ne_eqb m 0x52 u)))
      where
        above : 0x40 ≤ m → 0x51 < m
        above l = by_test (leb m 0x51) (λ t. absurd (omega (arith, width_inside m l (leb-true m 0x51 t), leb-false (mark_width m) 8 f))) (λ t. leb-false m 0x51 t)

    pub left_other : (m ≡ 0x52 → ⊥) → (m ≡ 0x00 → ⊥) → (m ≡ 0x22 → ⊥) → false ≡ number_mark m → refused 2 m ≡ taken_from s (field escape depth s)
    left_other u n r f = taken_bad s (field_known s m (begins s b) ∙ other u n r (sym f))

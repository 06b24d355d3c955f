-- What reading an integer finds, by what the code tests.
use Rattle.std.proofs.Common.{◌≡◌, ℕ, suc, ◌+◌, ◌-◌, ◌%◌, ◌^◌, ◌<◌, ◌≤◌, Bool, true, false, ltb, leb, List, [], ◌∷◌, length, get_or, take, drop, sym, refl, ◌∙◌, arith, length-drop, le-ltb, lt-ltb, eq-eqb, ne_eqb, le-leb}
use borrow.Author.Tests.{lt-leb}
use Rattle.format.specs.Answer.{if, ok, refused}
use Rattle.format.specs.Scalar.{width}
use Rattle.format.specs.Read.{Read, got, bad, then_read, number, get_big, width_is, get_uint, get_neg, get_int}
use Rattle.format.specs.Fields.{get_i64_call, get_u64_call}
use Rattle.format.proofs.Tests.{leb_test, ltb_test, eqb_test, passed, failed}
use Rattle.scalar.proofs.Parts.{part_rest}
use Rattle.scalar.proofs.Widths.{width_some}
use Rattle.scalar.proofs.Reading.{Front, Took, drop_past, front_drop, no_got, then_got, taken_got, taken_bad, took, refuses}

-- ---- the next bytes as a number

module _ (w : ℕ) (s : List ℕ) where
  pub big_short : length s < w → get_big w s ≡ bad 1 0
  unfolding get_big
  big_short h = rw (lt-leb _ _ h)

  pub big_read : w ≤ length s → get_big w s ≡ got (number 0 (take w s)) (drop w s)
  unfolding get_big
  big_read h = rw (le-leb _ _ h)

  pub big_front : {v : ℕ} {r : List ℕ} → get_big w s ≡ got v r → (w ≤ length s) × (r ≡ drop w s)
  unfolding get_big
  big_front {v} {r} p =
      let q = passed (got (number 0 (take w s)) (drop w s)) (bad 1 0) (leb_test w (length s)) (λ e. no_got 1 0 v r e) p in
      let e = q.1 in
      (q.0, cc)

module _ (w n : ℕ) (s : List ℕ) where
  wide_not : (width n ≡ w → ⊥) → width_is w n s ≡ bad 5 0
  unfolding width_is
  wide_not h = rw (ne_eqb _ _ h)

  wide_so : width n ≡ w → width_is w n s ≡ got n s
  unfolding width_is
  wide_so h = rw (eq-eqb _ _ h)

  wide_front : {v : ℕ} {r : List ℕ} → width_is w n s ≡ got v r → r ≡ s
  unfolding width_is
  wide_front {v} {r} p =
      let q = passed (got n s) (bad 5 0) (eqb_test (width n) w) (λ e. no_got 5 0 v r e) p in
      let e = q.1 in
      cc

-- ---- unsigned integers: by the mark, the bytes that it asks for, and the width of their number

uint_none : (b : List ℕ) → length b ≡ 0 → get_uint b ≡ bad 1 0
unfolding get_uint
uint_none [] h = refl
uint_none (m ∷ s) h = absurd (omega arith)

uint_low : (b : List ℕ) → (length b ≡ 0 → ⊥) → get_or b 0 0 < 0x48 → get_uint b ≡ bad 2 (get_or b 0 0)
unfolding get_uint
uint_low [] h l = absurd (h refl)
uint_low (m ∷ s) h l = rw (lt-ltb m 0x48 l)

uint_high : (b : List ℕ) → (length b ≡ 0 → ⊥) → 0x50 < get_or b 0 0 → get_uint b ≡ bad 2 (get_or b 0 0)
unfolding get_uint
uint_high [] h l = absurd (h refl)
uint_high (m ∷ s) h l = rw (le-ltb m 0x48 (omega arith), lt-leb m 0x50 l)

-- behind a good mark: as many bytes as it says
uint_at : (b : List ℕ) → (length b ≡ 0 → ⊥) → 0x48 ≤ get_or b 0 0 → get_or b 0 0 ≤ 0x50
    → get_uint b ≡ then_read (get_big (get_or b 0 0 - 0x48) (drop 1 b)) (λ n rest. width_is (get_or b 0 0 - 0x48) n rest)
unfolding get_uint
uint_at [] h l g = absurd (h refl)
uint_at (m ∷ s) h l g = rw (le-ltb m 0x48 l, le-leb m 0x50 g)

module _ (b : List ℕ) where
  pub u64_none : length b ≡ 0 → refused 1 0 ≡ get_u64_call b
  unfolding get_u64_call
  u64_none h = taken_bad b (uint_none b h)

  module _ (h : length b ≡ 0 → ⊥) where
    pub u64_low : get_or b 0 0 < 0x48 → {v : ℕ} → v ≡ get_or b 0 0 → refused 2 v ≡ get_u64_call b
    unfolding get_u64_call
    u64_low l w = rw w (taken_bad b (uint_low b h l))

    pub u64_high : 0x50 < get_or b 0 0 → {v : ℕ} → v ≡ get_or b 0 0 → refused 2 v ≡ get_u64_call b
    unfolding get_u64_call
    u64_high l w = rw w (taken_bad b (uint_high b h l))

    module _ (l : 0x48 ≤ get_or b 0 0) (g : get_or b 0 0 ≤ 0x50) where
      pub u64_short : length b - 1 < get_or b 0 0 - 0x48 → refused 1 0 ≡ get_u64_call b
      unfolding get_u64_call
      u64_short k = taken_bad b (uint_at b h l g ∙ rw (big_short (get_or b 0 0 - 0x48) (drop 1 b) (simp length-drop k)))

      module _ (k : get_or b 0 0 - 0x48 ≤ length b - 1) (n : ℕ)
          (e : (n ≡ number 0 (take (get_or b 0 0 - 0x48) (take (length b - 1) (drop 1 b)))) × (n < 256 ^ (get_or b 0 0 - 0x48))) {w : ℕ} (q : w ≡ width n) where
        read_uint : get_uint b ≡ width_is (get_or b 0 0 - 0x48) n (drop (get_or b 0 0 - 0x48) (drop 1 b))
        read_uint =
            let f : n ≡ number 0 (take (get_or b 0 0 - 0x48) (drop 1 b)) = (rw (part_rest 1 b) at e.0) in
            uint_at b h l g ∙ rw (big_read (get_or b 0 0 - 0x48) (drop 1 b) (simp length-drop k), ← f)

        pub u64_wide : (w ≡ get_or b 0 0 - 0x48 → ⊥) → refused 5 0 ≡ get_u64_call b
        unfolding get_u64_call
        u64_wide x = taken_bad b (read_uint ∙ wide_not (get_or b 0 0 - 0x48) n _ (λ y. x (q ∙ y)))

        pub u64_read : w ≡ get_or b 0 0 - 0x48 → ok (record { value = n; used = get_or b 0 0 - 0x48 + 1 }) ≡ get_u64_call b
        unfolding get_u64_call
        u64_read x = taken_got b (get_or b 0 0 - 0x48 + 1) (read_uint ∙ wide_so (get_or b 0 0 - 0x48) n _ (sym q ∙ x) ∙ rw (drop_past (get_or b 0 0 - 0x48) b)) (omega arith)

-- the bytes behind an unsigned integer
pub uint_front : (b : List ℕ) (v : ℕ) (r : List ℕ) → get_uint b ≡ got v r → Front b r
unfolding get_uint
uint_front [] v r p = no_got 1 0 v r p
uint_front (m ∷ s) v r p =
    let low = failed (bad 2 m) _ (ltb_test m 0x48) (λ e. no_got 2 m v r e) p in
    let high = passed _ (bad 2 m) (leb_test m 0x50) (λ e. no_got 2 m v r e) low.1 in
    let t = then_got (get_big (m - 0x48) s) (λ n rest. width_is (m - 0x48) n rest) high.1 in
    let n = big_front (m - 0x48) s t.2 in
    let e : r ≡ drop (suc (m - 0x48)) (m ∷ s) = wide_front (m - 0x48) t.0 t.1 t.3 ∙ n.1 in
    rw e (front_drop (m ∷ s) (suc (m - 0x48)) (omega arith) (omega arith))

-- what the call's answer says
module _ (b : List ℕ) where
  pub u64_took : {v n : ℕ} → ok (record { value = v; used = n }) ≡ get_u64_call b → Took b (get_uint b) v n
  unfolding get_u64_call
  u64_took p = took b (uint_front b) p

  pub u64_refuses : {n d : ℕ} → refused n d ≡ get_u64_call b → get_uint b ≡ bad n d
  unfolding get_u64_call
  u64_refuses p = refuses b p

-- ---- signed integers: a negative mark counts down, and its number is complemented

int_none : (b : List ℕ) → length b ≡ 0 → get_int b ≡ bad 1 0
unfolding get_int
int_none [] h = refl
int_none (m ∷ s) h = absurd (omega arith)

int_low : (b : List ℕ) → (length b ≡ 0 → ⊥) → get_or b 0 0 < 0x40 → get_int b ≡ bad 2 (get_or b 0 0)
unfolding get_int
int_low [] h l = absurd (h refl)
int_low (m ∷ s) h l = rw (lt-ltb m 0x40 l)

-- a magnitude as the word of a negative integer
abbrev negated : ℕ → List ℕ → Read ℕ
negated mag rest = if (leb mag (2 ^ 63)) (got (2 ^ 64 - mag) rest) (bad 14 0)

neg_at : (b : List ℕ) → 0 < length b → 0x40 ≤ get_or b 0 0 → get_or b 0 0 < 0x48 → get_int b ≡ then_read (get_neg (0x48 - get_or b 0 0) (drop 1 b)) negated
unfolding get_int
neg_at [] h l g = absurd (omega arith)
neg_at (m ∷ s) h l g = rw (le-ltb m 0x40 l, lt-ltb m 0x48 g)

neg_short : (w : ℕ) (s : List ℕ) → length s < w → get_neg w s ≡ bad 1 0
unfolding get_neg
neg_short w s h = rw (big_short w s h)

neg_read : (w : ℕ) (s : List ℕ) → w ≤ length s → get_neg w s ≡ width_is w (256 ^ w - 1 - number 0 (take w s)) (drop w s)
unfolding get_neg
neg_read w s h = rw (big_read w s h)

-- an unsigned integer in the range of the signed ones
abbrev narrowed : ℕ → List ℕ → Read ℕ
narrowed n rest = if (ltb n (2 ^ 63)) (got n rest) (bad 13 0)

pos_at : (b : List ℕ) → (length b ≡ 0 → ⊥) → 0x48 ≤ get_or b 0 0 → get_int b ≡ then_read (get_uint b) narrowed
unfolding get_int
pos_at [] h l = absurd (h refl)
pos_at (m ∷ s) h l = rw (le-ltb m 0x40 (omega arith), le-ltb m 0x48 l)

module _ (b : List ℕ) where
  pub i64_none : length b ≡ 0 → refused 1 0 ≡ get_i64_call b
  unfolding get_i64_call
  i64_none h = taken_bad b (int_none b h)

  pub i64_low : (length b ≡ 0 → ⊥) → get_or b 0 0 < 0x40 → {v : ℕ} → v ≡ get_or b 0 0 → refused 2 v ≡ get_i64_call b
  unfolding get_i64_call
  i64_low h l w = rw w (taken_bad b (int_low b h l))

  module _ (h : length b ≡ 0 → ⊥) (l : 0x48 ≤ get_or b 0 0) where
    pub i64_kept : {n d : ℕ} → refused n d ≡ get_u64_call b → refused n d ≡ get_i64_call b
    unfolding get_i64_call
    i64_kept p = taken_bad b (pos_at b h l ∙ rw (u64_refuses b p))

    module _ {v n : ℕ} (p : ok (record { value = v; used = n }) ≡ get_u64_call b) where
      took_uint : Took b (get_uint b) v n
      took_uint = u64_took b p

      pub i64_over : 2 ^ 63 ≤ v → refused 13 0 ≡ get_i64_call b
      unfolding get_i64_call
      i64_over g = taken_bad b (pos_at b h l ∙ rw (took_uint.reads, le-ltb v (2 ^ 63) g))

      pub i64_positive : v < 2 ^ 63 → ok (record { value = v; used = n }) ≡ get_i64_call b
      unfolding get_i64_call
      i64_positive g = taken_got b n (pos_at b h l ∙ rw (took_uint.reads, lt-ltb v (2 ^ 63) g)) took_uint.within

  module _ (p : (0 < length b) × (0x40 ≤ get_or b 0 0) × (get_or b 0 0 < 0x48)) where
    pub i64_short : length b - 1 < 0x48 - get_or b 0 0 → refused 1 0 ≡ get_i64_call b
    unfolding get_i64_call
    i64_short k = taken_bad b (neg_at b p.0 p.1 p.2 ∙ rw (neg_short (0x48 - get_or b 0 0) (drop 1 b) (simp length-drop k)))

    module _ (k : 0x48 - get_or b 0 0 ≤ length b - 1) (n : ℕ)
        (e : (n ≡ number 0 (take (0x48 - get_or b 0 0) (take (length b - 1) (drop 1 b)))) × (n < 256 ^ (0x48 - get_or b 0 0)))
        (m : ℕ) (c : m ≡ 256 ^ (0x48 - get_or b 0 0) - 1 - n) {w : ℕ} (q : w ≡ width m) where
      read_neg : get_int b ≡ then_read (width_is (0x48 - get_or b 0 0) m (drop (0x48 - get_or b 0 0 + 1) b)) negated
      read_neg =
          let f : n ≡ number 0 (take (0x48 - get_or b 0 0) (drop 1 b)) = (rw (part_rest 1 b) at e.0) in
          neg_at b p.0 p.1 p.2 ∙ rw (neg_read (0x48 - get_or b 0 0) (drop 1 b) (simp length-drop k), ← f, ← c, drop_past (0x48 - get_or b 0 0) b)

      pub i64_wide : (w ≡ 0x48 - get_or b 0 0 → ⊥) → refused 5 0 ≡ get_i64_call b
      unfolding get_i64_call
      i64_wide x = taken_bad b (read_neg ∙ rw (wide_not (0x48 - get_or b 0 0) m (drop (0x48 - get_or b 0 0 + 1) b) (λ y. x (q ∙ y))))

      module _ (x : w ≡ 0x48 - get_or b 0 0) where
        pub i64_under : 2 ^ 63 < m → refused 14 0 ≡ get_i64_call b
        unfolding get_i64_call
        i64_under u = taken_bad b (read_neg ∙ rw (wide_so (0x48 - get_or b 0 0) m (drop (0x48 - get_or b 0 0 + 1) b) (sym q ∙ x), lt-leb _ _ u))

        -- a magnitude has a byte, so it is not 0
        pub i64_negative : m ≤ 2 ^ 63 → (v : ℕ) → v < 2 ^ 64 → (v + m) % 2 ^ 64 ≡ 0 → ok (record { value = v; used = 0x48 - get_or b 0 0 + 1 }) ≡ get_i64_call b
        unfolding get_i64_call
        i64_negative u v f z =
            let s = width_some m (omega (arith, p.2, q, x)) in
            let y : v ≡ 2 ^ 64 - m = omega arith in
            rw y
            (taken_got b (0x48 - get_or b 0 0 + 1)
            (read_neg ∙ rw (wide_so (0x48 - get_or b 0 0) m (drop (0x48 - get_or b 0 0 + 1) b) (sym q ∙ x), le-leb _ _ u)) (omega (arith, p.0)))

neg_front : (w : ℕ) (s : List ℕ) (v : ℕ) (r : List ℕ) → get_neg w s ≡ got v r → (w ≤ length s) × (r ≡ drop w s)
unfolding get_neg
neg_front w s v r p =
    let t = then_got (get_big w s) (λ n rest. width_is w (256 ^ w - 1 - n) rest) p in
    let n = big_front w s t.2 in
    (n.0, wide_front w (256 ^ w - 1 - t.0) t.1 t.3 ∙ n.1)

-- the bytes behind a signed integer
pub int_front : (b : List ℕ) (v : ℕ) (r : List ℕ) → get_int b ≡ got v r → Front b r
unfolding get_int
int_front [] v r p = no_got 1 0 v r p
int_front (m ∷ s) v r p = let low = failed (bad 2 m) _ (ltb_test m 0x40) (λ e. no_got 2 m v r e) p in sign (ltb m 0x48) low.1
  where
    sign : (t : Bool) → if t (then_read (get_neg (0x48 - m) s) negated) (then_read (get_uint (m ∷ s)) narrowed) ≡ got v r → Front (m ∷ s) r
    sign true q =
        let t = then_got (get_neg (0x48 - m) s) negated q in
        let n = neg_front (0x48 - m) s t.0 t.1 t.2 in
        let u = passed (got (2 ^ 64 - t.0) t.1) (bad 14 0) (leb_test t.0 (2 ^ 63)) (λ e. no_got 14 0 v r e) t.3 in
        let f = u.1 in
        let e : r ≡ drop (suc (0x48 - m)) (m ∷ s) = cc in
        rw e (front_drop (m ∷ s) (suc (0x48 - m)) (omega arith) (omega arith))
    sign false q =
        let t = then_got (get_uint (m ∷ s)) narrowed q in
        let u = passed (got t.0 t.1) (bad 13 0) (ltb_test t.0 (2 ^ 63)) (λ e. no_got 13 0 v r e) t.3 in
        let f = u.1 in
        let e : r ≡ t.1 = cc in
        rw e (uint_front (m ∷ s) t.0 t.1 t.2)

module _ (b : List ℕ) where
  pub i64_took : {v n : ℕ} → ok (record { value = v; used = n }) ≡ get_i64_call b → Took b (get_int b) v n
  unfolding get_i64_call
  i64_took p = took b (int_front b) p

  pub i64_refuses : {n d : ℕ} → refused n d ≡ get_i64_call b → get_int b ≡ bad n d
  unfolding get_i64_call
  i64_refuses p = refuses b p

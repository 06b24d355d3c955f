-- The order law: bytes compare as values do, whatever follows them.
use mathlib.Core.Path.{◌≡◌, refl, ap, ◌∙◌, subst}
use mathlib.Core.Bool.{Bool}
use mathlib.Core.List.{List, [], ◌∷◌, ◌++◌, append_assoc}
use Prim.Native.Nat.{ℕ, ◌+◌, ◌-◌, ◌^◌, ◌≤◌, ◌<◌, compare, Ordering}
use native.Mathlib.Nat.{le_trans, not-suc-le-zero}
use native.Mathlib.Omega.{arith}
use lib.Dec.{ltb, lit<, lit≤}
use lib.ListN.{drop}
use Rattle.format.specs.Answer.{if}
use Rattle.format.specs.Tree.{Val, Vals, number_in, run_in, fields_in, payload_in}
use Rattle.format.specs.Scalar.{width, uint_bytes, neg_bytes, int_bytes, magnitude}
use Rattle.format.specs.Encode.{val_bytes, vals_bytes}
use Rattle.format.specs.Order.{then, cmp_bytes, cmp_val, cmp_vals, offset, rank}
use Rattle.format.proofs.CompareLaws.{less, more, alike, Tri, lower, equal, higher, tri, flip, then_assoc, then_eq, cmp_bytes_flip}
use Rattle.format.proofs.Tests.{Test, holds, fails, ltb_test, ltb_yes}
use Rattle.format.proofs.ScalarLaws.{wide, Low, low_cons, be_order, uint_order, int_order, run_order}
use Rattle.format.proofs.Sound.{Sound, AllSound}
use Rattle.format.proofs.KindLaws.{built, kind_of, is_made, past_int}

-- a value's first byte lies among the marks of its rank
pub record Marked (depth : ℕ) (v : Val) : Type 0 where
  pub mark : ℕ
  pub body : List ℕ
  pub bytes : val_bytes depth v ≡ mark ∷ body
  pub least : rank v ≤ mark
  pub below : (b : Val) → rank v < rank b → mark < rank b
  pub small : mark < 0xFF

pub marked : (depth : ℕ) (v : Val) → Sound v → Marked depth v
unfolding val_bytes int_bytes uint_bytes neg_bytes
marked depth Val.Null w = go (ltb 0 depth) refl
  where
    go : (b : Bool) → ltb 0 depth ≡ b → Marked depth Val.Null
    go Bool.true e = record { mark = 0; body = drop 1 (val_bytes depth Val.Null); bytes = rw e; least = lit≤ tt; below = λ b h. h; small = lit< tt }
    go Bool.false e = record { mark = 0; body = drop 1 (val_bytes depth Val.Null); bytes = rw e; least = lit≤ tt; below = λ b h. h; small = lit< tt }
marked depth (Val.Str s) w = record { mark = 0x21; body = drop 1 (val_bytes depth (Val.Str s)); bytes = refl; least = lit≤ tt; below = λ b h. h; small = lit< tt }
marked depth (Val.Record vs) w = record { mark = 0x22; body = drop 1 (val_bytes depth (Val.Record vs)); bytes = refl; least = lit≤ tt; below = λ b h. h; small = lit< tt }
marked depth (Val.Int n) w = go (ltb n (2 ^ 63)) (ltb_test n (2 ^ 63)) refl
  where
    most : width n ≤ 8
    most = (wide n w).most

    go : (b : Bool) → Test (n < 2 ^ 63) (2 ^ 63 ≤ n) b → ltb n (2 ^ 63) ≡ b → Marked depth (Val.Int n)
    go _ (holds p) e =
        record {
          mark = 0x48 + width n;
          body = drop 1 (val_bytes depth (Val.Int n));
          bytes = rw e;
          least = omega arith;
          below = λ b h. omega (arith, most, past_int b h);
          small = omega (arith, most);
        }
    go _ (fails p) e =
        let l : width (magnitude n) ≤ 8 = (wide (magnitude n) (omega arith)).most in
        record {
          mark = 0x48 - width (magnitude n);
          body = drop 1 (val_bytes depth (Val.Int n));
          bytes = rw e;
          least = omega arith;
          below = λ b h. omega (arith, past_int b h);
          small = omega arith;
        }
marked depth (Val.Ref r) w = record { mark = 0x51; body = drop 1 (val_bytes depth (Val.Ref r)); bytes = refl; least = lit≤ tt; below = λ b h. h; small = lit< tt }
marked depth (Val.Union d v) w = record { mark = 0x52; body = drop 1 (val_bytes depth (Val.Union d v)); bytes = refl; least = lit≤ tt; below = λ b h. h; small = lit< tt }
marked depth (Val.Bytes s) w = record { mark = 0x53; body = drop 1 (val_bytes depth (Val.Bytes s)); bytes = refl; least = lit≤ tt; below = λ b h. h; small = lit< tt }

-- a value's bytes may follow a field
pub low_val : (depth : ℕ) (v : Val) → Sound v → (r : List ℕ) → Low (val_bytes depth v ++ r)
low_val depth v w r = let m = marked depth v w in rw m.bytes (low_cons (m.body ++ r) m.small)

pub low_vals : (depth : ℕ) (vs : Vals) → AllSound vs → (r : List ℕ) → Low r → Low (vals_bytes depth vs ++ r)
unfolding val_bytes
low_vals depth Vals.NoVal w r l = l
low_vals depth (Vals.AddVal v vs) w r l = rw append_assoc (low_val depth v w.0 (vals_bytes depth vs ++ r))

-- a value of a lower kind has the lower bytes
apart : (depth : ℕ) (a b : Val) → Sound a → Sound b → rank a < rank b → (r s : List ℕ)
    → cmp_bytes (val_bytes depth a ++ r) (val_bytes depth b ++ s) ≡ Ordering.lt
unfolding cmp_bytes
apart depth a b wa wb h r s =
    let m = marked depth a wa in
    let n = marked depth b wb in
    rw (m.bytes, n.bytes, less (le_trans (m.below b h) n.least))

-- so only values of one kind are left to compare
by_kind : (depth : ℕ) (a b : Val) (o : Ordering) → Sound a → Sound b → (r s : List ℕ)
    → (rank a ≡ rank b → cmp_bytes (val_bytes depth a ++ r) (val_bytes depth b ++ s) ≡ then o (cmp_bytes r s))
    → cmp_bytes (val_bytes depth a ++ r) (val_bytes depth b ++ s) ≡ then (then (compare (rank a) (rank b)) o) (cmp_bytes r s)
by_kind depth a b o wa wb r s same = go (tri (rank a) (rank b))
  where
    go : Tri (rank a) (rank b) → cmp_bytes (val_bytes depth a ++ r) (val_bytes depth b ++ s) ≡ then (then (compare (rank a) (rank b)) o) (cmp_bytes r s)
    go (lower h) = rw (less h) (apart depth a b wa wb h r s)
    go (equal e) = rw (e, alike (rank b)) (same e)
    go (higher h) = rw (more h) (cmp_bytes_flip (val_bytes depth b ++ s) (val_bytes depth a ++ r) ∙ ap flip (apart depth b a wb wa h s r))

-- inside a group its end comes before any field, Null included
end_first : (depth : ℕ) (v : Val) → Sound v → (z r s : List ℕ) → Low r → cmp_bytes (0 ∷ r) (val_bytes (depth + 1) v ++ (z ++ 0 ∷ s)) ≡ Ordering.lt
unfolding cmp_bytes built kind_of val_bytes Low
end_first depth v w z r s low = go (tri 0 (rank v))
  where
    tail_cons : (y : List ℕ) → (c : ℕ) × (x : List ℕ) × (y ++ 0 ∷ s ≡ c ∷ x)
    tail_cons [] = (0, s, refl)
    tail_cons (c ∷ y) = (c, y ++ 0 ∷ s, refl)

    go : Tri 0 (rank v) → cmp_bytes (0 ∷ r) (val_bytes (depth + 1) v ++ (z ++ 0 ∷ s)) ≡ Ordering.lt
    go (lower h) = let m = marked (depth + 1) v w in rw (m.bytes, less {m = 0} {n = m.mark} (le_trans h m.least))
    go (equal e) = let t = tail_cons z in rw (ap (val_bytes (depth + 1)) (is_made v (rank Val.Null) e), ltb_yes 0 (depth + 1) (omega arith), t.2) (low t.0 t.1)
    go (higher h) = absurd (not-suc-le-zero h)

mutual
  unfolding cmp_val val_bytes cmp_bytes built kind_of

  pub order : (depth : ℕ) (a b : Val) → Sound a → Sound b → (r s : List ℕ) → Low r → Low s
      → cmp_bytes (val_bytes depth a ++ r) (val_bytes depth b ++ s) ≡ then (cmp_val a b) (cmp_bytes r s)
  order depth Val.Null b wa wb r s lr ls =
      rw then_eq at (by_kind depth Val.Null b Ordering.eq wa wb r s (λ e. rw (ap (val_bytes depth) (is_made b (rank Val.Null) e)) (nulls (ltb 0 depth))))
    where
      nulls : (c : Bool) → cmp_bytes (if c (0 ∷ 0xFF ∷ []) (0 ∷ []) ++ r) (if c (0 ∷ 0xFF ∷ []) (0 ∷ []) ++ s) ≡ cmp_bytes r s
      nulls Bool.true = refl
      nulls Bool.false = refl
  order depth (Val.Str x) b wa wb r s lr ls =
      by_kind depth (Val.Str x) b (cmp_bytes x (run_in b)) wa wb r s (λ e. rw (ap (val_bytes depth) (is_made b (rank (Val.Str x)) e)) (run_order x (run_in b) r s lr ls))
  order depth (Val.Record vs) b wa wb r s lr ls =
      by_kind depth (Val.Record vs) b (cmp_vals vs (fields_in b)) wa wb r s (λ e.
      rw (ap (val_bytes depth) (is_made b (rank (Val.Record vs)) e), append_assoc (vals_bytes (depth + 1) vs), append_assoc (vals_bytes (depth + 1) (fields_in b)))
      (orders depth vs (fields_in b) wa (subst Sound (is_made b (rank (Val.Record vs)) e) wb) r s lr ls))
  order depth (Val.Int w) b wa wb r s lr ls =
      by_kind depth (Val.Int w) b (compare (offset w) (offset (number_in b))) wa wb r s (λ e.
      rw (ap (val_bytes depth) (is_made b (rank (Val.Int w)) e)) (int_order w (number_in b) wa (subst Sound (is_made b (rank (Val.Int w)) e) wb) r s))
  order depth (Val.Ref q) b wa wb r s lr ls =
      by_kind depth (Val.Ref q) b (compare q (number_in b)) wa wb r s (λ e.
      rw (ap (val_bytes depth) (is_made b (rank (Val.Ref q)) e)) (be_order 8 q (number_in b) wa (subst Sound (is_made b (rank (Val.Ref q)) e) wb) r s))
  order depth (Val.Union d v) b wa wb r s lr ls =
      by_kind depth (Val.Union d v) b (then (compare d (number_in b)) (cmp_val v (payload_in b))) wa wb r s (λ e.
      let wu : Sound (Val.Union (number_in b) (payload_in b)) = subst Sound (is_made b (rank (Val.Union d v)) e) wb in
      rw (
        ap (val_bytes depth) (is_made b (rank (Val.Union d v)) e),
        append_assoc (uint_bytes d),
        append_assoc (uint_bytes (number_in b)),
        append_assoc (val_bytes (depth + 1) v),
        append_assoc (val_bytes (depth + 1) (payload_in b)),
        uint_order d (number_in b) wa.0 wu.0 (val_bytes (depth + 1) v ++ 0 ∷ r) (val_bytes (depth + 1) (payload_in b) ++ 0 ∷ s),
        order (depth + 1) v (payload_in b) wa.1 wu.1 (0 ∷ r) (0 ∷ s) (low_cons r (lit< tt)) (low_cons s (lit< tt)),
        then_assoc,
      ))
  order depth (Val.Bytes x) b wa wb r s lr ls =
      by_kind depth (Val.Bytes x) b (cmp_bytes x (run_in b)) wa wb r s (λ e. rw (ap (val_bytes depth) (is_made b (rank (Val.Bytes x)) e)) (run_order x (run_in b) r s lr ls))

  -- the fields of a group that opens at a depth, with its end; their counts may differ
  pub orders : (depth : ℕ) (vs us : Vals) → AllSound vs → AllSound us → (r s : List ℕ) → Low r → Low s
      → cmp_bytes (vals_bytes (depth + 1) vs ++ 0 ∷ r) (vals_bytes (depth + 1) us ++ 0 ∷ s) ≡ then (cmp_vals vs us) (cmp_bytes r s)
  orders depth Vals.NoVal Vals.NoVal wv wu r s lr ls = refl
  orders depth Vals.NoVal (Vals.AddVal u us) wv wu r s lr ls = rw append_assoc (end_first depth u wu.0 (vals_bytes (depth + 1) us) r s lr)
  orders depth (Vals.AddVal v vs) Vals.NoVal wv wu r s lr ls =
      rw append_assoc
      (cmp_bytes_flip (0 ∷ s) (val_bytes (depth + 1) v ++ (vals_bytes (depth + 1) vs ++ 0 ∷ r))
      ∙ ap flip (end_first depth v wv.0 (vals_bytes (depth + 1) vs) s r ls))
  orders depth (Vals.AddVal v vs) (Vals.AddVal u us) wv wu r s lr ls =
      rw (
        append_assoc (val_bytes (depth + 1) v),
        append_assoc (val_bytes (depth + 1) u),
        order (depth + 1) v u wv.0 wu.0 (vals_bytes (depth + 1) vs ++ 0 ∷ r) (vals_bytes (depth + 1) us ++ 0 ∷ s)
            (low_vals (depth + 1) vs wv.1 (0 ∷ r) (low_cons r (lit< tt))) (low_vals (depth + 1) us wu.1 (0 ∷ s) (low_cons s (lit< tt))),
        orders depth vs us wv.1 wu.1 r s lr ls,
        then_assoc,
      )

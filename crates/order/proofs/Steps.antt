-- How two values compare, by what stands at their places: one law for each answer of the walk.
use Rattle.std.proofs.Common.{◌≡◌, ℕ, zero, suc, ◌+◌, ◌-◌, ◌<◌, ◌≤◌, List, length, get_or, take, drop, min, sym, refl, ap, ◌∙◌, subst, ap₂, arith}
use Prim.Native.Nat.{compare, Ordering}
use mathlib.Core.Bool.{Bool, true, false}
use Rattle.std.specs.declared.cmp.Ordering.{Ordering as Answer}
use Rattle.std.specs.declared.cmp.Ordering.TheVariants.{Less, Equal, Greater}
use Rattle.std.specs.Ordering.{nat_cmp, is_ne}
use Rattle.std.proofs.lemmas.Cmp.{ranked, by_ranked}
use Rattle.blocks.specs.Compare.{order_of}
use Rattle.format.specs.Tree.{Val, Vals, val_kind, number_in, run_in, fields_in, payload_in}
use Rattle.format.specs.Sheet.{val_count, val_words, val_pool}
use Rattle.format.specs.Order.{then, cmp_bytes, offset, rank, cmp_val, cmp_vals}
use Rattle.format.proofs.CompareLaws.{less, more, alike, then_eq, compare_eq}
use Rattle.format.proofs.KindLaws.{built, kind_of, is_made}
use Rattle.format.proofs.SheetPlaces.{Span, taken}
use Rattle.format.proofs.ValuePlaces.{ValueIn, ValuesIn, word_of, kind_is, word_is_lem, record_in, union_in, field_in}
use Rattle.order.specs.declared.Walk.{Walk}
use Rattle.order.specs.Compare.{rank_of, Within, Says, One, Row, CompareScalar, CompareValue, CompareFields}

-- ---- orders and ranks

-- the library's comparison of numbers is that of the definitions
by_cmp : (x y : ℕ) {o : Answer} → o ≡ nat_cmp x y → order_of o ≡ compare x y
by_cmp x y {o} e = by_ranked (x < y) (x ≡ y) (y < x) o (ranked x y o e)
    (λ q h. ap order_of q ∙ sym (less h))
    (λ q h. ap order_of q ∙ sym (ap (λ (n : ℕ). compare n y) h ∙ alike y))
    (λ q h. ap order_of q ∙ sym (more h))

-- the test of an answer
equal : {o : Answer} {b : Bool} → b ≡ is_ne o → b ≡ false → o ≡ Equal
equal {o = Less} e z = let n : ◌≡◌ {A = ℕ} 0 1 = cc in absurd (omega arith)
equal {o = Equal} e z = refl
equal {o = Greater} e z = let n : ◌≡◌ {A = ℕ} 0 1 = cc in absurd (omega arith)

unequal : {o : Answer} {b : Bool} → b ≡ is_ne o → b ≡ true → o ≡ Equal → ⊥
unequal e z h = let n : ◌≡◌ {A = ℕ} 0 1 = cc in omega arith

lower : {c : Answer} → order_of c ≡ Ordering.lt → c ≡ Equal → ⊥
lower q e = let z : Ordering.eq ≡ Ordering.lt = ap order_of (sym e) ∙ q in let n : ◌≡◌ {A = ℕ} 0 1 = cc in omega arith

higher : {c : Answer} → order_of c ≡ Ordering.gt → c ≡ Equal → ⊥
higher q e = let z : Ordering.eq ≡ Ordering.gt = ap order_of (sym e) ∙ q in let n : ◌≡◌ {A = ℕ} 0 1 = cc in omega arith

differ : {m n : ℕ} {c : Answer} → c ≡ nat_cmp m n → (m ≡ n → ⊥) → c ≡ Equal → ⊥
differ {m} {n} k h e = h (compare_eq m n (sym (by_cmp m n k) ∙ ap order_of e))

-- a part that differs decides
decided : (o : Answer) (d q : Ordering) → order_of o ≡ d → (o ≡ Equal → ⊥) → then d q ≡ d
decided Less d q e h = rw (← e) refl
decided Equal d q e h = absurd (h refl)
decided Greater d q e h = rw (← e) refl

rank_is : (v : Val) → rank_of (val_kind v) ≡ rank v
unfolding rank_of
rank_is Val.Null = refl
rank_is (Val.Int w) = refl
rank_is (Val.Str s) = refl
rank_is (Val.Bytes s) = refl
rank_is (Val.Ref r) = refl
rank_is (Val.Record vs) = refl
rank_is (Val.Union d v) = refl

pub rank_other : (k : ℕ) → (k ≡ 1 → ⊥) → (k ≡ 2 → ⊥) → (k ≡ 3 → ⊥) → (k ≡ 4 → ⊥) → (k ≡ 5 → ⊥) → (k ≡ 6 → ⊥) → 0 ≡ rank_of k
unfolding rank_of
rank_other zero a b c d e f = refl
rank_other (suc zero) a b c d e f = absurd (a refl)
rank_other (suc (suc zero)) a b c d e f = absurd (b refl)
rank_other (suc (suc (suc zero))) a b c d e f = absurd (c refl)
rank_other (suc (suc (suc (suc zero)))) a b c d e f = absurd (d refl)
rank_other (suc (suc (suc (suc (suc zero))))) a b c d e f = absurd (e refl)
rank_other (suc (suc (suc (suc (suc (suc zero)))))) a b c d e f = absurd (f refl)
rank_other (suc (suc (suc (suc (suc (suc (suc k))))))) a b c d e f = refl

-- the kinds decide first
by_rank : (a b : Val) → (o : Ordering) × (cmp_val a b ≡ then (compare (rank a) (rank b)) o)
unfolding cmp_val
by_rank Val.Null b = (Ordering.eq, sym (then_eq (compare (rank Val.Null) (rank b))))
by_rank (Val.Int w) b = (compare (offset w) (offset (number_in b)), refl)
by_rank (Val.Str s) b = (cmp_bytes s (run_in b), refl)
by_rank (Val.Bytes s) b = (cmp_bytes s (run_in b), refl)
by_rank (Val.Ref r) b = (compare r (number_in b), refl)
by_rank (Val.Record vs) b = (cmp_vals vs (fields_in b), refl)
by_rank (Val.Union d v) b = (then (compare d (number_in b)) (cmp_val v (payload_in b)), refl)

-- ---- Str and Bytes

record Run (v : Val) : Type 0 where
  bytes : val_pool v ≡ run_in v
  word : word_of v ≡ length (run_in v)
  two : length (val_words v) ≡ 2

module _ (v : Val) (n0 : rank v ≡ 0x00 → ⊥) (n1 : rank v ≡ 0x22 → ⊥) (n2 : rank v ≡ 0x40 → ⊥) (n3 : rank v ≡ 0x51 → ⊥) (n4 : rank v ≡ 0x52 → ⊥) where
  a_run_by : (u : Val) → v ≡ u → Run u
  unfolding val_words val_pool
  a_run_by Val.Null e = absurd (n0 (ap rank e))
  a_run_by (Val.Int w) e = absurd (n2 (ap rank e))
  a_run_by (Val.Str s) e = record { bytes = refl; word = refl; two = refl }
  a_run_by (Val.Bytes s) e = record { bytes = refl; word = refl; two = refl }
  a_run_by (Val.Ref r) e = absurd (n3 (ap rank e))
  a_run_by (Val.Record vs) e = absurd (n1 (ap rank e))
  a_run_by (Val.Union d u) e = absurd (n4 (ap rank e))

  bytewise_by : (u b : Val) → v ≡ u → rank u ≡ rank b → cmp_val u b ≡ cmp_bytes (run_in u) (run_in b)
  unfolding cmp_val
  bytewise_by Val.Null b e h = absurd (n0 (ap rank e))
  bytewise_by (Val.Int w) b e h = absurd (n2 (ap rank e))
  bytewise_by (Val.Str s) b e h = rw (sym h)
  bytewise_by (Val.Bytes s) b e h = rw (sym h)
  bytewise_by (Val.Ref r) b e h = absurd (n3 (ap rank e))
  bytewise_by (Val.Record vs) b e h = absurd (n1 (ap rank e))
  bytewise_by (Val.Union d u) b e h = absurd (n4 (ap rank e))

run_bytes : (b l : List ℕ) (p f n : ℕ) → Span b p l f → n ≡ length l → take (p + n - p) (drop p b) ≡ l
run_bytes b l p f n s k =
    let z : p + n - p ≡ length l = omega arith in
    ap (λ (m : ℕ). take m (drop p b)) z ∙ (taken b p f l s).0

-- ---- a value at its place

module _ {w b : List ℕ} {i p : ℕ} {v : Val} {e f : ℕ} (s : ValueIn w b i p v e f) {k : ℕ} (h : k ≡ rank_of (get_or w i 0)) where
  rank_at : k ≡ rank v
  rank_at = h ∙ ap rank_of (kind_is w b i p e f v s).1 ∙ rank_is v

  -- any value but Null has two words
  second : (k ≡ 0x00 → ⊥) → (i + 1 < length w) × (get_or w (i + 1) 0 ≡ word_of v)
  unfolding rank_of
  second some = word_is_lem w b i p e f v s (λ z. some (rank_at ∙ sym (rank_is v) ∙ ap rank_of z))

-- ---- two values of one rank

abbrev This : (wa pa wb pb : List ℕ) (i p j q : ℕ) → Walk → Val → Val → Type 0
This wa pa wb pb i p j q r a b = (e f g h : ℕ) → ValueIn wa pa i p a e f → ValueIn wb pb j q b g h → Says (cmp_val a b) e f g h r

module _ {wa pa wb pb : List ℕ} {i p j q k : ℕ} (ka : k ≡ rank_of (get_or wa i 0)) (kb : k ≡ rank_of (get_or wb j 0)) {r : Walk} where
  on_rank : (m : ℕ) → k ≡ m → ((a b : Val) → This wa pa wb pb i p j q r (built (kind_of m) a) (built (kind_of m) b)) → One wa pa wb pb i p j q r
  on_rank m z l = record {
    one = λ a b e f g h s t.
        let x = is_made a m (sym z ∙ rank_at s ka) in
        let y = is_made b m (sym z ∙ rank_at t kb) in
        subst (λ (v : Val). This wa pa wb pb i p j q r v b) (sym x) (subst (λ (u : Val). This wa pa wb pb i p j q r (built (kind_of m) a) u) (sym y) (l a b)) e f g h s t;
  }

-- ---- two values that are no groups

module _ {k : ℕ} (n0 : k ≡ 0x00 → ⊥) (n1 : k ≡ 0x22 → ⊥) (n2 : k ≡ 0x40 → ⊥) (n3 : k ≡ 0x51 → ⊥) (n4 : k ≡ 0x52 → ⊥) where
  run_of : {v : Val} → k ≡ rank v → Run v
  run_of {v} z = a_run_by v (λ h. n0 (z ∙ h)) (λ h. n1 (z ∙ h)) (λ h. n2 (z ∙ h)) (λ h. n3 (z ∙ h)) (λ h. n4 (z ∙ h)) v refl

  bytewise : (v u : Val) → k ≡ rank v → k ≡ rank u → cmp_val v u ≡ cmp_bytes (run_in v) (run_in u)
  bytewise v u z w = bytewise_by v (λ h. n0 (z ∙ h)) (λ h. n1 (z ∙ h)) (λ h. n2 (z ∙ h)) (λ h. n3 (z ∙ h)) (λ h. n4 (z ∙ h)) v u refl (sym z ∙ w)

-- in whatever words they stand, r says how they compare
abbrev Anywhere : (pa pb : List ℕ) (s : Walk) (k x y : ℕ) → Walk → Type 0
Anywhere pa pb s k x y r = (wa wb : List ℕ) → k ≡ rank_of (get_or wa s.i 0) → k ≡ rank_of (get_or wb s.j 0) → x ≡ get_or wa (s.i + 1) 0 → y ≡ get_or wb (s.j + 1) 0
    → (k ≡ 0x00 → ⊥) → (k ≡ 0x22 → ⊥) → (k ≡ 0x52 → ⊥) → One wa pa wb pb s.i s.p s.j s.q r

abbrev standing : (order : Answer) (i p j q : ℕ) → Walk
standing order i p j q = record { i = i; p = p; j = j; q = q; order = order }

-- such values end at most two words on
walked : {pa pb : List ℕ} {s : Walk} {k x y : ℕ} (r : Walk) → s.i ≤ r.i → r.i ≤ s.i + 2 → r.p ≤ length pa → r.j ≤ s.j + 2 → r.q ≤ length pb → Anywhere pa pb s k x y r → CompareScalar pa pb s k x y r
walked r on in_wa in_pa in_wb in_pb says = record { on = on; in_wa = in_wa; in_pa = in_pa; in_wb = in_wb; in_pb = in_pb; says = says }

module _ {pa pb : List ℕ} {s : Walk} {k x y : ℕ} (in_pa : s.p ≤ length pa) (in_pb : s.q ≤ length pb) where
  pub an_int : k ≡ 0x40 → {m n : ℕ} → m ≡ offset x → n ≡ offset y → {c : Answer} → c ≡ nat_cmp m n → CompareScalar pa pb s k x y (standing c (s.i + 2) s.p (s.j + 2) s.q)
  unfolding built kind_of cmp_val val_words val_pool
  an_int z {m} {n} xm yn o = walked _ (omega arith) (omega arith) in_pa (omega arith) in_pb (λ wa wb ka kb kx ky n0 n1 n4. on_rank ka kb 0x40 z (λ a b e f g h u v. record {
    order = by_cmp m n o ∙ ap₂ compare (xm ∙ ap offset (kx ∙ (second u ka n0).1)) (yn ∙ ap offset (ky ∙ (second v kb n0).1));
    ends = λ o. record { at_i = omega (arith, u.words.long); at_p = omega (arith, u.pool.long); at_j = omega (arith, v.words.long); at_q = omega (arith, v.pool.long) };
  }))

  pub a_ref : k ≡ 0x51 → {c : Answer} → c ≡ nat_cmp x y → CompareScalar pa pb s k x y (standing c (s.i + 2) s.p (s.j + 2) s.q)
  unfolding built kind_of cmp_val val_words val_pool
  a_ref z o = walked _ (omega arith) (omega arith) in_pa (omega arith) in_pb (λ wa wb ka kb kx ky n0 n1 n4. on_rank ka kb 0x51 z (λ a b e f g h u v. record {
    order = by_cmp x y o ∙ ap₂ compare (kx ∙ (second u ka n0).1) (ky ∙ (second v kb n0).1);
    ends = λ o. record { at_i = omega (arith, u.words.long); at_p = omega (arith, u.pool.long); at_j = omega (arith, v.words.long); at_q = omega (arith, v.pool.long) };
  }))

  module _ (n2 : k ≡ 0x40 → ⊥) (n3 : k ≡ 0x51 → ⊥) where
    pub long_a : length pa - s.p < x → CompareScalar pa pb s k x y s
    long_a l = walked s (omega arith) (omega arith) in_pa (omega arith) in_pb (λ wa wb ka kb kx ky n0 n1 n4. record {
      one = λ a b e f g h u v.
          let o = run_of n0 n1 n2 n3 n4 {v = a} (rank_at u ka) in
          absurd (omega (arith, u.pool.long, u.pool.within, ap length o.bytes, o.word, kx, (second u ka n0).1));
    })

    pub long_b : length pb - s.q < y → CompareScalar pa pb s k x y s
    long_b l = walked s (omega arith) (omega arith) in_pa (omega arith) in_pb (λ wa wb ka kb kx ky n0 n1 n4. record {
      one = λ a b e f g h u v.
          let o = run_of n0 n1 n2 n3 n4 {v = b} (rank_at v kb) in
          absurd (omega (arith, v.pool.long, v.pool.within, ap length o.bytes, o.word, ky, (second v kb n0).1));
    })

    pub a_run : x ≤ length pa - s.p → y ≤ length pb - s.q → {c : Answer} → order_of c ≡ cmp_bytes (take (s.p + x - s.p) (drop s.p pa)) (take (s.q + y - s.q) (drop s.q pb))
        → CompareScalar pa pb s k x y (standing c (s.i + 2) (s.p + x) (s.j + 2) (s.q + y))
    a_run la lb o = walked _ (omega arith) (omega arith) (omega (arith, la)) (omega arith) (omega (arith, lb)) (λ wa wb ka kb kx ky n0 n1 n4. record {
      one = λ a b e f g h u v.
          let ra = rank_at u ka in
          let rb = rank_at v kb in
          let m = run_of n0 n1 n2 n3 n4 ra in
          let n = run_of n0 n1 n2 n3 n4 rb in
          let lx : x ≡ length (val_pool a) = kx ∙ (second u ka n0).1 ∙ m.word ∙ ap length (sym m.bytes) in
          let ly : y ≡ length (val_pool b) = ky ∙ (second v kb n0).1 ∙ n.word ∙ ap length (sym n.bytes) in
          let oa = run_bytes pa (val_pool a) s.p f x u.pool lx ∙ m.bytes in
          let ob = run_bytes pb (val_pool b) s.q h y v.pool ly ∙ n.bytes in
          record {
            order = o ∙ ap₂ cmp_bytes oa ob ∙ sym (bytewise n0 n1 n2 n3 n4 a b ra rb);
            ends = λ o. record { at_i = omega (arith, u.words.long, m.two); at_p = omega (arith, u.pool.long); at_j = omega (arith, v.words.long, n.two); at_q = omega (arith, v.pool.long) };
          };
    })

-- ---- two values

-- the same places, with another order
abbrev staying : Answer → Walk → Walk
staying c s = standing c s.i s.p s.j s.q

-- what is inside two groups
abbrev inside : Walk → Walk
inside s = standing Equal (s.i + 2) s.p (s.j + 2) s.q

same_places : {wa pa wb pb : List ℕ} {s : Walk} → Within wa pa wb pb s → (c : Answer) → Within wa pa wb pb (staying c s)
same_places w c = record { in_wa = w.in_wa; in_pa = w.in_pa; in_wb = w.in_wb; in_pb = w.in_pb }

module _ {wa pa wb pb : List ℕ} {s : Walk} (w : Within wa pa wb pb s) where
  stays : {c : Answer} → One wa pa wb pb s.i s.p s.j s.q (staying c s) → CompareValue wa pa wb pb s (staying c s)
  stays {c} o = record { on = omega arith; within = same_places w c; says = o }

  -- no value stands past the end
  pub gone_a : length wa ≤ s.i → CompareValue wa pa wb pb s s
  gone_a l = stays (record { one = λ a b e f g h u v. absurd (omega (arith, (kind_is wa pa s.i s.p e f a u).0)) })

  pub gone_b : length wb ≤ s.j → CompareValue wa pa wb pb s s
  gone_b l = stays (record { one = λ a b e f g h u v. absurd (omega (arith, (kind_is wb pb s.j s.q g h b v).0)) })

  pub apart : {k n : ℕ} → k ≡ rank_of (get_or wa s.i 0) → n ≡ rank_of (get_or wb s.j 0) → (k ≡ n → ⊥) → {c : Answer} → c ≡ nat_cmp k n → CompareValue wa pa wb pb s (staying c s)
  apart {k} {n} ka kn h {c} kc = stays (record {
    one = λ a b e f g i u v.
        let o = by_rank a b in
        let x : compare (rank a) (rank b) ≡ compare k n = sym (ap₂ compare (rank_at u ka) (rank_at v kn)) in
        let y : cmp_val a b ≡ compare k n = o.1 ∙ ap (λ (d : Ordering). then d o.0) x ∙ decided c (compare k n) o.0 (by_cmp k n kc) (differ kc h) in
        record { order = by_cmp k n kc ∙ sym y; ends = λ d. absurd (differ kc h d) };
  })

pub both : {k n m : ℕ} → k ≡ n → n ≡ m → k ≡ m
both e f = e ∙ f

module _ {wa pa wb pb : List ℕ} {s : Walk} (w : Within wa pa wb pb s) {k : ℕ} (ka : k ≡ rank_of (get_or wa s.i 0)) (kb : k ≡ rank_of (get_or wb s.j 0)) where
  pub null : s.i < length wa → s.j < length wb → k ≡ 0x00 → CompareValue wa pa wb pb s (standing Equal (s.i + 1) s.p (s.j + 1) s.q)
  unfolding built kind_of cmp_val val_words val_pool
  null la lb y = record {
    on = omega arith;
    within = record { in_wa = omega (arith, la); in_pa = w.in_pa; in_wb = omega (arith, lb); in_pb = w.in_pb };
    says = on_rank ka kb 0x00 y (λ a b e f g h u v. record {
      order = refl;
      ends = λ o. record { at_i = omega (arith, u.words.long); at_p = omega (arith, u.pool.long); at_j = omega (arith, v.words.long); at_q = omega (arith, v.pool.long) };
    });
  }

  module _ (some : k ≡ 0x00 → ⊥) where
    pub short_a : length wa - s.i < 2 → CompareValue wa pa wb pb s s
    short_a l = stays w (record { one = λ a b e f g h u v. absurd (omega (arith, (second u ka some).0)) })

    pub short_b : length wb - s.j < 2 → CompareValue wa pa wb pb s s
    short_b l = stays w (record { one = λ a b e f g h u v. absurd (omega (arith, (second v kb some).0)) })

    pub a_scalar : {r : Walk} → CompareScalar pa pb s k (get_or wa (s.i + 1) 0) (get_or wb (s.j + 1) 0) r → 2 ≤ length wa - s.i → 2 ≤ length wb - s.j → (k ≡ 0x22 → ⊥) → (k ≡ 0x52 → ⊥)
        → CompareValue wa pa wb pb s r
    a_scalar f la lb n1 n4 = record {
      on = f.on;
      within = record { in_wa = omega (arith, f.in_wa, w.in_wa, la); in_pa = f.in_pa; in_wb = omega (arith, f.in_wb, w.in_wb, lb); in_pb = f.in_pb };
      says = f.says wa wb ka kb refl refl some n1 n4;
    }

    pub a_record : {r : Walk} → CompareFields wa pa wb pb (inside s) (get_or wa (s.i + 1) 0) (get_or wb (s.j + 1) 0) r → k ≡ 0x22 → CompareValue wa pa wb pb s r
    unfolding built kind_of cmp_val
    a_record m y = record {
      on = omega (arith, m.on);
      within = m.within;
      says = on_rank ka kb 0x22 y (λ a b e f g h u v.
          let us = fields_in a in
          let vs = fields_in b in
          m.says.row us vs e f g h (second u ka some).1 (second v kb some).1 (record_in wa pa s.i s.p e f us u) (record_in wb pb s.j s.q g h vs v));
    }

    module _ (y : k ≡ 0x52) where
      tags : {a b : Val} {e f g h : ℕ} → ValueIn wa pa s.i s.p a e f → ValueIn wb pb s.j s.q b g h → compare (get_or wa (s.i + 1) 0) (get_or wb (s.j + 1) 0) ≡ compare (word_of a) (word_of b)
      tags u v = ap₂ compare (second u ka some).1 (second v kb some).1

      pub tags_apart : (get_or wa (s.i + 1) 0 ≡ get_or wb (s.j + 1) 0 → ⊥) → {d : Answer} → d ≡ nat_cmp (get_or wa (s.i + 1) 0) (get_or wb (s.j + 1) 0) → CompareValue wa pa wb pb s (staying d s)
      unfolding built kind_of cmp_val
      tags_apart x {d} kd = stays w (on_rank ka kb 0x52 y (λ a b e f g h u v.
          let o = by_cmp _ _ kd ∙ tags u v in
          let l = decided d (compare (number_in a) (number_in b)) (cmp_val (payload_in a) (payload_in b)) o (differ kd x) in
          record { order = o ∙ sym l; ends = λ n. absurd (differ kd x n) }))

      pub a_union : {r : Walk} → CompareValue wa pa wb pb (inside s) r → get_or wa (s.i + 1) 0 ≡ get_or wb (s.j + 1) 0 → CompareValue wa pa wb pb s r
      unfolding built kind_of cmp_val
      a_union m x = record {
        on = omega (arith, m.on);
        within = m.within;
        says = on_rank ka kb 0x52 y (λ a b e f g h u v.
            let o : compare (number_in a) (number_in b) ≡ Ordering.eq = sym (tags u v) ∙ ap (λ (n : ℕ). compare n (get_or wb (s.j + 1) 0)) x ∙ alike _ in
            rw o (m.says.one (payload_in a) (payload_in b) e f g h (union_in wa pa s.i s.p e f (number_in a) (payload_in a) u) (union_in wb pb s.j s.q g h (number_in b) (payload_in b) v)));
      }

-- ---- fields one after another

-- the loop over the fields, k of which were equal: what the rest says, it says of the whole
pub record Walking (wa pa wb pb : List ℕ) (x y : ℕ) (s : Walk) (k : ℕ) (here : Walk) : Type 0 where
  pub on : s.i ≤ here.i
  pub within : Within wa pa wb pb here
  pub so_far : (e : Walk) → Row wa pa wb pb (x - k) (y - k) here.i here.p here.j here.q e → Row wa pa wb pb x y s.i s.p s.j s.q e

pub starts : {wa pa wb pb : List ℕ} (x y : ℕ) {s : Walk} → Within wa pa wb pb s → Walking wa pa wb pb x y s 0 s
starts x y w = record { on = omega arith; within = w; so_far = λ e r. record { row = λ vs us e f g h k l. r.row vs us e f g h (omega (arith, k)) (omega (arith, l)) } }

module _ {wa pa wb pb : List ℕ} {x y : ℕ} {s : Walk} {k : ℕ} {here : Walk} (w : Walking wa pa wb pb x y s k here) where
  abbrev These : Walk → Vals → Vals → Type 0
  These r vs us = (e f g h : ℕ) → x - k ≡ val_count vs → y - k ≡ val_count us → ValuesIn wa pa here.i here.p vs e f → ValuesIn wb pb here.j here.q us g h → Says (cmp_vals vs us) e f g h r

  -- the shorter record is passed: it comes first
  pub row_ends : {n : ℕ} → n ≡ min x y → k ≤ n → n ≤ k → {c : Answer} → c ≡ nat_cmp x y → CompareFields wa pa wb pb s x y (staying c here)
  unfolding cmp_val val_count val_words val_pool
  row_ends {n} m low high {c} o = record { on = w.on; within = same_places w.within c; says = w.so_far _ (record { row = go }) }
    where
      all : k ≡ min x y
      all = omega arith

      go : (vs us : Vals) → These (staying c here) vs us
      go Vals.NoVal Vals.NoVal e f g h l m s t = record {
        order = by_cmp x y o ∙ ap (λ (n : ℕ). compare n y) (omega (arith, all)) ∙ alike y;
        ends = λ o. record { at_i = omega (arith, s.words.long); at_p = omega (arith, s.pool.long); at_j = omega (arith, t.words.long); at_q = omega (arith, t.pool.long) };
      }
      go Vals.NoVal (Vals.AddVal u us) e f g h l m s t = let q = by_cmp x y o ∙ less {m = x} {n = y} (omega (arith, all)) in record { order = q; ends = λ e. absurd (lower q e) }
      go (Vals.AddVal v vs) Vals.NoVal e f g h l m s t = let q = by_cmp x y o ∙ more {m = x} {n = y} (omega (arith, all)) in record { order = q; ends = λ e. absurd (higher q e) }
      go (Vals.AddVal v vs) (Vals.AddVal u us) e f g h l m s t = absurd (omega (arith, all))

  module _ {n : ℕ} (least_is : n ≡ min x y) (some : k < n) {first : Walk} (right : CompareValue wa pa wb pb here first) {t : Bool} (kt : t ≡ is_ne first.order) where
    inner : k < min x y
    inner = omega arith

    pub row_apart : t ≡ true → CompareFields wa pa wb pb s x y first
    unfolding cmp_val val_count
    row_apart d = record { on = omega (arith, w.on, right.on); within = right.within; says = w.so_far _ (record { row = go }) }
      where
        go : (vs us : Vals) → These first vs us
        go Vals.NoVal us e f g h k l s t = absurd (omega (arith, inner))
        go (Vals.AddVal v vs) Vals.NoVal e f g h k l s t = absurd (omega (arith, inner))
        go (Vals.AddVal v vs) (Vals.AddVal u us) e f g h k l s t =
            let o = right.says.one v u _ _ _ _ (field_in wa pa here.i here.p e f v vs s).0 (field_in wb pb here.j here.q g h u us t).0 in
            let w = decided first.order (cmp_val v u) (cmp_vals vs us) o.order (unequal kt d) in
            record { order = o.order ∙ sym w; ends = λ c. absurd (unequal kt d c) }

    pub row_next : t ≡ false → Walking wa pa wb pb x y s (k + 1) first
    unfolding cmp_val val_count
    row_next d = record { on = omega (arith, w.on, right.on); within = right.within; so_far = λ r rest. w.so_far r (record { row = go r rest }) }
      where
        go : (r : Walk) → Row wa pa wb pb (x - (k + 1)) (y - (k + 1)) first.i first.p first.j first.q r → (vs us : Vals) → These r vs us
        go r rest Vals.NoVal us e f g h l m s t = absurd (omega (arith, inner))
        go r rest (Vals.AddVal v vs) Vals.NoVal e f g h l m s t = absurd (omega (arith, inner))
        go r rest (Vals.AddVal v vs) (Vals.AddVal u us) e f g h l m s t =
            let x = field_in wa pa here.i here.p e f v vs s in
            let w = field_in wb pb here.j here.q g h u us t in
            let o = right.says.one v u _ _ _ _ x.0 w.0 in
            let c = o.ends (equal kt d) in
            rw (sym o.order ∙ ap order_of (equal kt d))
            (rest.row vs us e f g h (omega (arith, inner)) (omega (arith, inner)) (rw (c.at_i, c.at_p) x.1) (rw (c.at_j, c.at_q) w.1))

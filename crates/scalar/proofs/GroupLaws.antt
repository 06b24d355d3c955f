-- Groups at the front of bytes: each step by the bytes that the code looks at, and what it says of decoding.
use Rattle.std.proofs.Common.{◌≡◌, ℕ, suc, ◌+◌, ◌-◌, ◌<◌, ◌≤◌, Bool, true, false, not, eqb, ltb, List, [], ◌∷◌, length, get_or, take, drop, sym, refl, ap, ◌∙◌, arith, le-ltb, lt-ltb, eq-eqb, ne_eqb}
use borrow.Author.Tests.{not-true, not-false}
use Rattle.format.specs.Answer.{if, ok, refused}
use Rattle.format.specs.Tree.{Ty, Tys, Alts, Val}
use Rattle.format.specs.Encode.{max_depth}
use Rattle.format.specs.Read.{Read, got, bad, marked, get_uint, starts_ff, ends_here}
use Rattle.format.specs.Fields.{taken_from, get_u64_call}
use Rattle.format.specs.Skip.{end_of}
use Rattle.format.specs.Decode.{Decoded, decode, decode_group, decode_union, after, union_end, with_tag}
use Rattle.format.proofs.Tests.{bool_test, eqb_test, ltb_test, passed}
use Rattle.format.specs.Cursor.{null_at, record_mark, tag_at, union_mark, group_end}
use Rattle.scalar.specs.Answers.{begins_with}
use Rattle.scalar.proofs.Marking.{in_front, behind_mark, mark_taken}
use Rattle.scalar.proofs.Cases.{by_test}
use Rattle.scalar.proofs.Parts.{part_rest}
use Rattle.scalar.proofs.Reading.{Front, Took, drop_past, front_drop, front_cons, no_got, taken_got, taken_bad, took, refuses, end_took, end_refuses}
use Rattle.scalar.proofs.Integers.{uint_front, u64_took, u64_refuses}

-- behind one byte
one_more : (s : List ℕ) → suc (length s) - length s ≡ 1
one_more s = omega arith

one_taken : (m : ℕ) (b : List ℕ) → ok tt ≡ begins_with m b → length b - length (drop 1 b) ≡ 1
one_taken m b p = omega (arith, mark_taken m b p)

-- ---- the end of a group

pub ends_none : (b : List ℕ) → length b ≡ 0 → false ≡ ends_here b
unfolding ends_here
ends_none [] h = refl
ends_none (x ∷ s) h = absurd (omega arith)

pub ends_other : (b : List ℕ) → (get_or b 0 0 ≡ 0 → ⊥) → false ≡ ends_here b
unfolding ends_here
ends_other [] h = refl
ends_other (x ∷ s) h = rw (ne_eqb x 0 h)

pub ends_last : (b : List ℕ) → (length b ≡ 0 → ⊥) → get_or b 0 0 ≡ 0 → length b < 2 → true ≡ ends_here b
unfolding ends_here starts_ff
ends_last [] l h m = absurd (l refl)
ends_last (x ∷ []) l h m = rw (eq-eqb x 0 h)
ends_last (x ∷ y ∷ s) l h m = absurd (omega arith)

pub ends_next : (b : List ℕ) → get_or b 0 0 ≡ 0 → 2 ≤ length b → not (eqb (get_or b 1 0) 0xFF) ≡ ends_here b
unfolding ends_here starts_ff
ends_next [] h m = absurd (omega arith)
ends_next (x ∷ []) h m = absurd (omega arith)
ends_next (x ∷ y ∷ s) h m = rw (eq-eqb x 0 h)

pub end_eof : (b : List ℕ) → length b ≡ 0 → refused 1 0 ≡ end_of b (group_end b)
end_eof [] h = refl
end_eof (x ∷ s) h = absurd (omega arith)

pub end_here : (b : List ℕ) → (length b ≡ 0 → ⊥) → {r : Bool} → r ≡ ends_here b → r ≡ true → ok 1 ≡ end_of b (group_end b)
end_here [] l e t = absurd (l refl)
end_here (x ∷ s) l e t = rw (← e, t, one_more s)

pub end_other : (b : List ℕ) → (length b ≡ 0 → ⊥) → {r : Bool} → r ≡ ends_here b → r ≡ false → {v : ℕ} → v ≡ get_or b 0 0 → refused 2 v ≡ end_of b (group_end b)
end_other [] l e t w = absurd (l refl)
end_other (x ∷ s) l e t w = rw (← e, t, w)

-- ---- a null

nulled : ℕ → List ℕ → Read Unit
nulled k s = if (ltb 0 k) (if (starts_ff s) (got tt (drop 1 s)) (bad 3 0)) (got tt s)

null_is : (k : ℕ) (b : List ℕ) → null_at k b ≡ marked 0 (nulled k) b
unfolding nulled
null_is k [] = refl
null_is k (x ∷ s) = refl

ends_zero : (b : List ℕ) → b ≡ 0 ∷ drop 1 b → ends_here b ≡ not (starts_ff (drop 1 b))
unfolding ends_here
ends_zero [] e = let z : ◌≡◌ {A = ℕ} 0 1 = ap length e in absurd (omega arith)
ends_zero (x ∷ s) e = let y : x ≡ 0 = cc in rw (eq-eqb x 0 y)

two_taken : (b : List ℕ) → b ≡ 0 ∷ drop 1 b → starts_ff (drop 1 b) ≡ true → length b - length (drop 1 (drop 1 b)) ≡ 2
unfolding starts_ff
two_taken [] e t = let z : ◌≡◌ {A = ℕ} 0 1 = ap length e in absurd (omega arith)
two_taken (x ∷ []) e t = let z : ◌≡◌ {A = ℕ} 0 1 = cc in absurd (omega arith)
two_taken (x ∷ y ∷ s) e t = omega arith

module _ (escape : Bool) (b : List ℕ) (p : ok tt ≡ begins_with 0 b) where
  null_here : null_at (if escape 1 0) b ≡ nulled (if escape 1 0) (drop 1 b)
  null_here = null_is (if escape 1 0) b ∙ behind_mark 0 b p (nulled (if escape 1 0))

  pub null_bare : escape ≡ false → ok 1 ≡ end_of b (null_at (if escape 1 0) b)
  unfolding nulled
  null_bare f = rw (null_here, f, one_taken 0 b p)

  module _ (d : escape ≡ true) {t : Bool} (e : t ≡ ends_here b) where
    shows : {v : Bool} → t ≡ v → not (starts_ff (drop 1 b)) ≡ v
    shows w = sym (ends_zero b (in_front 0 b p)) ∙ sym e ∙ w

    pub null_ended : t ≡ true → refused 3 0 ≡ end_of b (null_at (if escape 1 0) b)
    unfolding nulled
    null_ended w = rw (null_here, d, not-true (starts_ff (drop 1 b)) (shows w))

    pub null_escaped : t ≡ false → ok 2 ≡ end_of b (null_at (if escape 1 0) b)
    unfolding nulled
    null_escaped w =
        let f = not-false (starts_ff (drop 1 b)) (shows w) in
        rw (null_here, d, f, two_taken b (in_front 0 b p) f)

-- a depth is within a group or not
pub null_depth : (d : ℕ) (b : List ℕ) → null_at (if (ltb 0 d) 1 0) b ≡ null_at d b
null_depth d [] = refl
null_depth d (x ∷ s) = by_test (ltb 0 d) (λ t. rw t) (λ t. rw t)

-- ---- a record opens

opened : ℕ → List ℕ → Read Unit
opened d s = if (ltb d 256) (got tt s) (bad 6 0)

record_is : (d : ℕ) (b : List ℕ) → record_mark d b ≡ marked 0x22 (opened d) b
unfolding opened
record_is d [] = refl
record_is d (x ∷ s) = refl

module _ (d : ℕ) (b : List ℕ) (p : ok tt ≡ begins_with 0x22 b) where
  record_here : record_mark d b ≡ opened d (drop 1 b)
  record_here = record_is d b ∙ behind_mark 0x22 b p (opened d)

  pub record_deep : 256 ≤ d → refused 6 0 ≡ end_of b (record_mark d b)
  unfolding opened
  record_deep m = rw (record_here, le-ltb d 256 m)

  pub record_open : d < 256 → ok 1 ≡ end_of b (record_mark d b)
  unfolding opened
  record_open m = rw (record_here, lt-ltb d 256 m, one_taken 0x22 b p)

-- ---- a union opens

tagged : ℕ → List ℕ → Read ℕ
tagged d s = tag_at d (get_uint s)

union_is : (d : ℕ) (b : List ℕ) → union_mark d b ≡ marked 0x52 (tagged d) b
unfolding tagged
union_is d [] = refl
union_is d (x ∷ s) = refl

module _ (d : ℕ) (b : List ℕ) (p : ok tt ≡ begins_with 0x52 b) where
  union_here : union_mark d b ≡ tag_at d (get_uint (drop 1 b))
  unfolding tagged
  union_here = union_is d b ∙ behind_mark 0x52 b p (tagged d)

  pub union_bad : {n k : ℕ} → refused n k ≡ get_u64_call (take (length b - 1) (drop 1 b)) → refused n k ≡ taken_from b (union_mark d b)
  union_bad w = taken_bad b (union_here ∙ ap (tag_at d) (u64_refuses (drop 1 b) (rw (part_rest 1 b) at w)))

  module _ {v n : ℕ} (w : ok (record { value = v; used = n }) ≡ get_u64_call (take (length b - 1) (drop 1 b))) where
    tag_took : Took (drop 1 b) (get_uint (drop 1 b)) v n
    tag_took = u64_took (drop 1 b) (rw (part_rest 1 b) at w)

    pub union_within : n + 1 ≤ length b
    union_within = omega (arith, mark_taken 0x52 b p, tag_took.within)

    pub union_deep : 256 ≤ d → refused 6 0 ≡ taken_from b (union_mark d b)
    union_deep m = taken_bad b (union_here ∙ ap (tag_at d) tag_took.reads ∙ rw (le-ltb d 256 m))

    pub union_open : d < 256 → ok (record { value = v; used = n + 1 }) ≡ taken_from b (union_mark d b)
    union_open m = taken_got b (n + 1) (union_here ∙ ap (tag_at d) tag_took.reads ∙ rw (lt-ltb d 256 m, drop_past n b)) union_within

-- ---- what a step took

record_front : (depth : ℕ) (b : List ℕ) (u : Unit) (r : List ℕ) → record_mark depth b ≡ got u r → (depth < 256) × Front b r
record_front depth [] u r p = no_got 1 0 u r p
record_front depth (m ∷ s) u r p =
    let q = passed (if (ltb depth 256) (got tt s) (bad 6 0)) (bad 2 m) (eqb_test m 0x22) (λ e. no_got 2 m u r e) p in
    let o = passed (got tt s) (bad 6 0) (ltb_test depth 256) (λ e. no_got 6 0 u r e) q.1 in
    let f = o.1 in
    let e : s ≡ r = cc in
    (o.0, rw (← e) (front_drop (m ∷ s) 1 (omega arith) (omega arith)))

tag_front : (depth : ℕ) (x : Read ℕ) (v : ℕ) (r : List ℕ) → tag_at depth x ≡ got v r → (depth < 256) × (x ≡ got v r)
tag_front depth (got a s) v r p = passed (got a s) (bad 6 0) (ltb_test depth 256) (λ e. no_got 6 0 v r e) p
tag_front depth (bad n d) v r p = no_got n d v r p

union_front : (depth : ℕ) (b : List ℕ) (v : ℕ) (r : List ℕ) → union_mark depth b ≡ got v r → (depth < 256) × Front b r
union_front depth [] v r p = no_got 1 0 v r p
union_front depth (m ∷ s) v r p =
    let q = passed (tag_at depth (get_uint s)) (bad 2 m) (eqb_test m 0x52) (λ e. no_got 2 m v r e) p in
    let o = tag_front depth (get_uint s) v r q.1 in
    (o.0, front_cons m (uint_front s v r o.1))

end_front : (b : List ℕ) (u : Unit) (r : List ℕ) → group_end b ≡ got u r → Front b r
end_front [] u r p = no_got 1 0 u r p
end_front (m ∷ s) u r p =
    let q = passed (got tt s) (bad 2 m) (bool_test (ends_here (m ∷ s))) (λ e. no_got 2 m u r e) p in
    let f = q.1 in
    let e : s ≡ r = cc in
    rw (← e) (front_drop (m ∷ s) 1 (omega arith) (omega arith))

module _ (b : List ℕ) (depth : ℕ) where
  pub record_took : {n : ℕ} → ok n ≡ end_of b (record_mark depth b) → Took b (record_mark depth b) tt n
  record_took p = end_took b (λ u r e. (record_front depth b u r e).1) p

  pub union_took : {v n : ℕ} → ok (record { value = v; used = n }) ≡ taken_from b (union_mark depth b) → Took b (union_mark depth b) v n
  union_took p = took b (λ v r e. (union_front depth b v r e).1) p

pub close_took : (b : List ℕ) {n : ℕ} → ok n ≡ end_of b (group_end b) → Took b (group_end b) tt n
close_took b p = end_took b (end_front b) p

-- ---- what a step says of decoding

-- what is decoded behind a step; a refusal has begun k values
abbrev pub behind : {A B : Type 0} → ℕ → Read A → (A → List ℕ → Decoded B) → Decoded B
behind k (got a rest) f = f a rest
behind k (bad n d) f = Decoded.bad n d k

record_behind : (ts : Tys) (depth : ℕ) (b : List ℕ) → decode (Ty.Record ts) depth b ≡ behind 1 (record_mark depth b) (λ u rest. after 1 Val.Record (decode_group ts (depth + 1) rest))
unfolding decode
record_behind ts depth [] = refl
record_behind ts depth (m ∷ s) = by_test (eqb m 0x22) (λ t. by_test (ltb depth 256) (λ u. rw (t, u)) (λ u. rw (t, u))) (λ t. rw t)

tag_behind : (alts : Alts) (depth : ℕ) (x : Read ℕ) → with_tag depth x (λ tag more. decode_union alts depth tag more) ≡ behind 1 (tag_at depth x) (λ tag more. decode_union alts depth tag more)
tag_behind alts depth (got tag more) = by_test (ltb depth 256) (λ u. rw u) (λ u. rw u)
tag_behind alts depth (bad n d) = refl

union_behind : (alts : Alts) (depth : ℕ) (b : List ℕ) → decode (Ty.Union alts) depth b ≡ behind 1 (union_mark depth b) (λ tag rest. decode_union alts depth tag rest)
unfolding decode
union_behind alts depth [] = refl
union_behind alts depth (m ∷ s) = by_test (eqb m 0x52) (λ t. rw t (tag_behind alts depth (get_uint s))) (λ t. rw t)

end_behind : (v : Val) (k : ℕ) (b : List ℕ) → union_end (Decoded.got v b k) ≡ behind k (group_end b) (λ u rest. Decoded.got v rest k)
unfolding union_end
end_behind v k [] = refl
end_behind v k (m ∷ s) = by_test (ends_here (m ∷ s)) (λ t. rw t) (λ t. rw t)

-- n bytes open a record
pub record RecordOpens (b : List ℕ) (depth n : ℕ) : Type 0 where
  pub some : 0 < n
  pub within : n ≤ length b
  pub low : depth < max_depth
  pub reads : (ts : Tys) → decode (Ty.Record ts) depth b ≡ after 1 Val.Record (decode_group ts (depth + 1) (drop n b))

-- n bytes open a union and hold its tag
pub record UnionOpens (b : List ℕ) (depth tag n : ℕ) : Type 0 where
  pub some : 0 < n
  pub within : n ≤ length b
  pub low : depth < max_depth
  pub reads : (alts : Alts) → decode (Ty.Union alts) depth b ≡ decode_union alts depth tag (drop n b)

-- n bytes end a union
pub record UnionCloses (b : List ℕ) (n : ℕ) : Type 0 where
  pub some : 0 < n
  pub within : n ≤ length b
  pub reads : (v : Val) (k : ℕ) → union_end (Decoded.got v b k) ≡ Decoded.got v (drop n b) k

module _ (b : List ℕ) (depth : ℕ) where
  pub record_opens : {n : ℕ} → ok n ≡ end_of b (record_mark depth b) → RecordOpens b depth n
  record_opens {n} p =
      let t = record_took b depth p in
      record {
        some = t.some;
        within = t.within;
        low = (record_front depth b tt (drop n b) t.reads).0;
        reads = λ ts. record_behind ts depth b ∙ rw t.reads;
      }

  pub record_refused : {n d : ℕ} → refused n d ≡ end_of b (record_mark depth b) → (ts : Tys) → decode (Ty.Record ts) depth b ≡ Decoded.bad n d 1
  record_refused {n} {d} p ts = let q : record_mark depth b ≡ bad n d = end_refuses b p in record_behind ts depth b ∙ rw q

  pub union_opens : {tag n : ℕ} → ok (record { value = tag; used = n }) ≡ taken_from b (union_mark depth b) → UnionOpens b depth tag n
  union_opens {tag} {n} p =
      let t = union_took b depth p in
      record {
        some = t.some;
        within = t.within;
        low = (union_front depth b tag (drop n b) t.reads).0;
        reads = λ alts. union_behind alts depth b ∙ rw t.reads;
      }

  pub union_refused : {n d : ℕ} → refused n d ≡ taken_from b (union_mark depth b) → (alts : Alts) → decode (Ty.Union alts) depth b ≡ Decoded.bad n d 1
  union_refused {n} {d} p alts = let q : union_mark depth b ≡ bad n d = refuses b p in union_behind alts depth b ∙ rw q

module _ (b : List ℕ) where
  pub union_closes : {n : ℕ} → ok n ≡ end_of b (group_end b) → UnionCloses b n
  union_closes p = let t = close_took b p in record { some = t.some; within = t.within; reads = λ v k. end_behind v k b ∙ rw t.reads }

  pub close_refused : {n d : ℕ} → refused n d ≡ end_of b (group_end b) → (v : Val) (k : ℕ) → union_end (Decoded.got v b k) ≡ Decoded.bad n d k
  close_refused {n} {d} p v k = let q : group_end b ≡ bad n d = end_refuses b p in end_behind v k b ∙ rw q

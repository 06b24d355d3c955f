-- What was read from the front of bytes: which part it took, and the answer that says so.
use Rattle.std.proofs.Common.{◌≡◌, ℕ, suc, ◌+◌, ◌-◌, ◌<◌, ◌≤◌, List, [], ◌∷◌, length, drop, refl, ap, ◌∙◌, arith, length-drop, drop-drop}
use Rattle.format.specs.Answer.{Answer, ok, refused}
use Rattle.format.specs.Read.{Read, got, bad, then_read, marked}
use Rattle.format.specs.Fields.{Taken, taken_from}
use Rattle.format.specs.Skip.{end_of}
use Rattle.format.proofs.Tests.{eqb_test, passed}

-- the bytes behind what was read: some were taken, and these are left
pub record Front (b r : List ℕ) : Type 0 where
  pub some : length r < length b
  pub rest : drop (length b - length r) b ≡ r

-- what was read took the first n bytes
pub record Took {A : Type 0} (b : List ℕ) (x : Read A) (v : A) (n : ℕ) : Type 0 where
  pub reads : x ≡ got v (drop n b)
  pub some : 0 < n
  pub within : n ≤ length b

pub front_drop : (b : List ℕ) (n : ℕ) → 0 < n → n ≤ length b → Front b (drop n b)
front_drop b n p h =
    let e : length b - length (drop n b) ≡ n = simp length-drop (omega arith) in
    record { some = simp length-drop (omega arith); rest = rw e }

-- behind the mark and w bytes more
pub drop_past : (w : ℕ) (b : List ℕ) → drop w (drop 1 b) ≡ drop (w + 1) b
drop_past w b = let e : 1 + w ≡ w + 1 = omega arith in drop-drop w 1 b ∙ rw e

-- behind one more byte
pub front_cons : (m : ℕ) {b r : List ℕ} → Front b r → Front (m ∷ b) r
front_cons m {b} {r} f =
    let s = f.some in
    let e : suc (length b) - length r ≡ suc (length b - length r) = omega arith in
    record { some = omega arith; rest = rw e f.rest }

module _ {A : Type 0} where
  pub no_got : {B : Type 0} (n d : ℕ) (v : A) (r : List ℕ) → bad n d ≡ got v r → B
  no_got n d v r p = let z : ◌≡◌ {A = ℕ} 0 1 = cc in absurd (omega arith)

  -- what was read first, where something was read in the end
  pub then_got : {B : Type 0} (x : Read B) (f : B → List ℕ → Read A) {v : A} {r : List ℕ} → then_read x f ≡ got v r
      → (a : B) × (s : List ℕ) × (x ≡ got a s) × (f a s ≡ got v r)
  then_got (got a s) f p = (a, s, refl, p)
  then_got (bad n d) f {v} {r} p = no_got n d v r p

  -- behind a mark
  pub marked_front : (m : ℕ) (f : List ℕ → Read A) (b : List ℕ) → ((s : List ℕ) (v : A) (r : List ℕ) → f s ≡ got v r → Front s r) → (v : A) (r : List ℕ) → marked m f b ≡ got v r → Front b r
  marked_front m f [] g v r p = no_got 1 0 v r p
  marked_front m f (x ∷ s) g v r p =
      let q = passed (f s) (bad 2 x) (eqb_test x m) (λ e. no_got 2 x v r e) p in
      front_cons x (g s v r q.1)

  -- the answer of a reading call
  pub taken_got : (b : List ℕ) {x : Read A} {v : A} (n : ℕ) → x ≡ got v (drop n b) → n ≤ length b → ok (record { value = v; used = n }) ≡ taken_from b x
  taken_got b {x} {v} n p h =
      let e : length b - length (drop n b) ≡ n = simp length-drop (omega arith) in
      rw (p, e)

  pub taken_bad : (b : List ℕ) {x : Read A} {n d : ℕ} → x ≡ bad n d → refused n d ≡ taken_from b x
  taken_bad b p = rw p

  -- what a reading call's answer says of what was read
  answer_got : (b : List ℕ) (x : Read A) (v : A) (n : ℕ) → ((w : A) (r : List ℕ) → x ≡ got w r → Front b r) → ok (record { value = v; used = n }) ≡ taken_from b x → Took b x v n
  answer_got b (got w r) v n f p =
      let g = f w r refl in
      let s = g.some in
      let e : n ≡ length b - length r = ap used_in p in
      let q : v ≡ w = ap (value_in v) p in
      record { reads = rw (q, e, g.rest); some = omega arith; within = omega arith }
    where
      used_in : Answer (Taken A) → ℕ
      used_in (ok t) = t.used
      used_in (refused n d) = 0

      value_in : A → Answer (Taken A) → A
      value_in d (ok t) = t.value
      value_in d (refused n e) = d
  answer_got b (bad m d) v n f p = let z : ◌≡◌ {A = ℕ} 0 1 = cc in absurd (omega arith)

  answer_bad : (b : List ℕ) (x : Read A) (n d : ℕ) → refused n d ≡ taken_from b x → x ≡ bad n d
  answer_bad b (got w r) n d p = let z : ◌≡◌ {A = ℕ} 0 1 = cc in absurd (omega arith)
  answer_bad b (bad m e) n d p = cc

  pub took : (b : List ℕ) {x : Read A} {v : A} {n : ℕ} → ((w : A) (r : List ℕ) → x ≡ got w r → Front b r) → ok (record { value = v; used = n }) ≡ taken_from b x → Took b x v n
  took b {x} {v} {n} f p = answer_got b x v n f p

  pub refuses : (b : List ℕ) {x : Read A} {n d : ℕ} → refused n d ≡ taken_from b x → x ≡ bad n d
  refuses b {x} {n} {d} p = answer_bad b x n d p

-- ---- a step that has no value: how many bytes it took

end_answer : (b : List ℕ) (x : Read Unit) (n : ℕ) → ((u : Unit) (r : List ℕ) → x ≡ got u r → Front b r) → ok n ≡ end_of b x → Took b x tt n
end_answer b (got u r) n f p =
    let g = f u r refl in
    let s = g.some in
    let e : n ≡ length b - length r = cc in
    record { reads = rw (e, g.rest); some = omega arith; within = omega arith }
end_answer b (bad m d) n f p = let z : ◌≡◌ {A = ℕ} 0 1 = cc in absurd (omega arith)

end_refusal : (b : List ℕ) (x : Read Unit) (n d : ℕ) → refused n d ≡ end_of b x → x ≡ bad n d
end_refusal b (got u r) n d p = let z : ◌≡◌ {A = ℕ} 0 1 = cc in absurd (omega arith)
end_refusal b (bad m e) n d p = cc

module _ (b : List ℕ) {x : Read Unit} where
  pub end_took : {n : ℕ} → ((u : Unit) (r : List ℕ) → x ≡ got u r → Front b r) → ok n ≡ end_of b x → Took b x tt n
  end_took {n} f p = end_answer b x n f p

  pub end_refuses : {n d : ℕ} → refused n d ≡ end_of b x → x ≡ bad n d
  end_refuses {n} {d} p = end_refusal b x n d p

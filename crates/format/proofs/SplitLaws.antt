-- A bare record decoded in parts: its first k fields, and then the others from the place where these end. What the bounds call and replacement walk by.
use mathlib.Core.Path.{◌≡◌, refl, sym, ap, ◌∙◌}
use mathlib.Core.List.{List, [], ◌∷◌, ◌++◌, append_assoc}
use Prim.Native.Nat.{ℕ, zero, suc, ◌+◌, ◌-◌, ◌≤◌, ◌<◌}
use native.Mathlib.Omega.{arith}
use native.Mathlib.Nat.{zero-add}
use lib.ListN.{length, take, drop, length-append, length-drop}
use lib.Seq.{take-append_seam}
use Rattle.format.specs.Answer.{UnexpectedMark}
use Rattle.format.specs.Tree.{Ty, Tys, Val, Vals}
use Rattle.format.specs.Sheet.{field_count, val_count, ty_words, tys_words}
use Rattle.format.specs.Encode.{vals_bytes}
use Rattle.format.specs.Decode.{Decoded, after, both, decode, decode_bare, decode_key, whole}
use Rattle.format.specs.Bounds.{firsts, first_bytes}
use Rattle.format.specs.Replace.{field_at}
use Rattle.format.specs.Spans.{first_tys, field_type}
use Rattle.format.proofs.Bytes.{AllBytes}
use Rattle.format.proofs.EncodeLaws.{fits_count}
use Rattle.format.proofs.KeyRound.{bare_canon}

unfoldable pub rest_tys : ℕ → Tys → Tys
rest_tys zero ts = ts
rest_tys (suc k) Tys.NoTy = Tys.NoTy
rest_tys (suc k) (Tys.AddTy t ts) = rest_tys k ts

unfoldable pub join_vals : Vals → Vals → Vals
join_vals Vals.NoVal us = us
join_vals (Vals.AddVal v vs) us = Vals.AddVal v (join_vals vs us)

-- ---- decoding in two parts

after_none : {A : Type 0} (m : Decoded A) → m ≡ after 0 (λ a. a) m
after_none (Decoded.got a r k) = ap (Decoded.got a r) (sym (zero-add k))
after_none (Decoded.bad n d k) = ap (Decoded.bad n d) (sym (zero-add k))

after_twice : {A B C : Type 0} (j k : ℕ) (f : B → C) (g : A → B) (m : Decoded A) → after j f (after k g m) ≡ after (j + k) (λ a. f (g a)) m
after_twice j k f g (Decoded.got a r i) = ap (Decoded.got (f (g a)) r) (omega arith)
after_twice j k f g (Decoded.bad n d i) = ap (Decoded.bad n d) (omega arith)

pub bare_split : (k : ℕ) (ts : Tys) (bs : List ℕ) → decode_bare ts bs ≡ both (decode_bare (first_tys k ts) bs) (λ r. decode_bare (rest_tys k ts) r) join_vals
unfolding decode_bare first_tys rest_tys join_vals
bare_split zero ts bs = after_none (decode_bare ts bs)
bare_split (suc k) Tys.NoTy bs = refl
bare_split (suc k) (Tys.AddTy t ts) bs = go (decode t 0 bs) (λ r. bare_split k ts r)
  where
    inner : (v : Val) (j : ℕ) (m : Decoded Vals) → after j (Vals.AddVal v) (both m (λ r. decode_bare (rest_tys k ts) r) join_vals)
        ≡ both (after j (Vals.AddVal v) m) (λ r. decode_bare (rest_tys k ts) r) join_vals
    inner v j (Decoded.got vs r i) = after_twice j i (Vals.AddVal v) (join_vals vs) (decode_bare (rest_tys k ts) r)
    inner v j (Decoded.bad n d i) = refl

    go : (m : Decoded Val) → ((r : List ℕ) → decode_bare ts r ≡ both (decode_bare (first_tys k ts) r) (λ q. decode_bare (rest_tys k ts) q) join_vals)
        → both m (λ r. decode_bare ts r) Vals.AddVal ≡ both (both m (λ r. decode_bare (first_tys k ts) r) Vals.AddVal) (λ r. decode_bare (rest_tys k ts) r) join_vals
    go (Decoded.got v r j) ih = ap (after j (Vals.AddVal v)) (ih r) ∙ inner v j (decode_bare (first_tys k ts) r)
    go (Decoded.bad n d j) ih = refl

-- the field behind the first k, and the fields behind it
pub rest_next : (k : ℕ) (ts : Tys) → k < field_count ts → rest_tys k ts ≡ Tys.AddTy (field_type k ts) (rest_tys (suc k) ts)
unfolding rest_tys field_count field_type
rest_next zero Tys.NoTy l = absurd (omega arith)
rest_next zero (Tys.AddTy t ts) l = refl
rest_next (suc k) Tys.NoTy l = absurd (omega arith)
rest_next (suc k) (Tys.AddTy t ts) l = rest_next k ts (omega arith)

pub first_count : (k : ℕ) (ts : Tys) → k ≤ field_count ts → field_count (first_tys k ts) ≡ k
unfolding first_tys field_count
first_count zero ts l = refl
first_count (suc k) Tys.NoTy l = absurd (omega arith)
first_count (suc k) (Tys.AddTy t ts) l = ap suc (first_count k ts (omega arith))

pub rest_count : (k : ℕ) (ts : Tys) → k ≤ field_count ts → field_count (rest_tys k ts) ≡ field_count ts - k
unfolding rest_tys field_count
rest_count zero ts l = omega arith
rest_count (suc k) Tys.NoTy l = absurd (omega arith)
rest_count (suc k) (Tys.AddTy t ts) l = rest_count k ts (omega arith) ∙ omega arith

pub split_words : (k : ℕ) (ts : Tys) → tys_words ts ≡ tys_words (first_tys k ts) ++ tys_words (rest_tys k ts)
unfolding first_tys rest_tys tys_words
split_words zero ts = refl
split_words (suc k) Tys.NoTy = refl
split_words (suc k) (Tys.AddTy t ts) = rw (split_words k ts) (sym (append_assoc (ty_words t) (tys_words (first_tys k ts)) (tys_words (rest_tys k ts))))

-- ---- the fields of the parts

pub firsts_join : (k : ℕ) (vs us : Vals) → val_count vs ≡ k → firsts k (join_vals vs us) ≡ vs
unfolding firsts join_vals val_count
firsts_join zero Vals.NoVal us e = refl
firsts_join zero (Vals.AddVal v vs) us e = absurd (omega arith)
firsts_join (suc k) Vals.NoVal us e = absurd (omega arith)
firsts_join (suc k) (Vals.AddVal v vs) us e = ap (Vals.AddVal v) (firsts_join k vs us (omega arith))

pub field_join : (k : ℕ) (vs us : Vals) (u : Val) → val_count vs ≡ k → field_at k (join_vals vs (Vals.AddVal u us)) ≡ u
unfolding field_at join_vals val_count
field_join zero Vals.NoVal us u e = refl
field_join zero (Vals.AddVal v vs) us u e = absurd (omega arith)
field_join (suc k) Vals.NoVal us u e = absurd (omega arith)
field_join (suc k) (Vals.AddVal v vs) us u e = field_join k vs us u (omega arith)

-- ---- places: a part that was decoded up to the place p has p bytes

ends_at : (bs x : List ℕ) (p : ℕ) → p ≤ length bs → bs ≡ x ++ drop p bs → p ≡ length x
ends_at bs x p l e = let q : length bs ≡ length (x ++ drop p bs) = ap length e in omega (arith, q, length-append x (drop p bs), length-drop p bs)

-- the first k fields of a key that end at p
pub first_bytes_lem : (k : ℕ) (ts : Tys) (vs : Vals) (key : List ℕ) (p n : ℕ) → k ≤ field_count ts → AllBytes key → p ≤ length key → decode_bare (first_tys k ts) key ≡ Decoded.got vs (drop p key) n
    → (us : Vals) → (firsts k (join_vals vs us) ≡ vs) × (p ≡ length (first_bytes k (join_vals vs us))) × (first_bytes k (join_vals vs us) ≡ take p key)
first_bytes_lem k ts vs key p n l h lp e us =
    let c = bare_canon (first_tys k ts) key vs (drop p key) n h e in
    let m : val_count vs ≡ k = sym (fits_count (first_tys k ts) 0 vs c.fit) ∙ first_count k ts l in
    let f = firsts_join k vs us m in
    let q : p ≡ length (vals_bytes 0 vs) = ends_at key (vals_bytes 0 vs) p lp c.bytes in
    (f, q ∙ ap (λ (w : Vals). length (vals_bytes 0 w)) (sym f), ap (vals_bytes 0) f ∙ sym (ap (take p) c.bytes ∙ ap (λ (i : ℕ). take i (vals_bytes 0 vs ++ drop p key)) q ∙ take-append_seam (vals_bytes 0 vs) (drop p key)))

-- ---- whole keys by parts

module _ (k : ℕ) (ts : Tys) (key : List ℕ) where
  -- a refusal among the first k fields is the key's
  pub bad_first : (n d j : ℕ) → decode_bare (first_tys k ts) key ≡ Decoded.bad n d j → decode_key (Ty.Record ts) key ≡ Decoded.bad n d j
  unfolding decode_key whole
  bad_first n d j e = rw (bare_split k ts key, e, zero-add)

  module _ (vs : Vals) (p i : ℕ) (e : decode_bare (first_tys k ts) key ≡ Decoded.got vs (drop p key) i) where
    -- and so is one among the others
    pub bad_rest : (n d j : ℕ) → decode_bare (rest_tys k ts) (drop p key) ≡ Decoded.bad n d j → decode_key (Ty.Record ts) key ≡ Decoded.bad n d (i + j)
    unfolding decode_key whole
    bad_rest n d j f = rw (bare_split k ts key, e, f, zero-add)

    -- bytes behind the last field are left over
    pub left_over : (us : Vals) (b : ℕ) (r : List ℕ) (j : ℕ) → decode_bare (rest_tys k ts) (drop p key) ≡ Decoded.got us (b ∷ r) j → decode_key (Ty.Record ts) key ≡ Decoded.bad UnexpectedMark b (i + j)
    unfolding decode_key whole
    left_over us b r j f = rw (bare_split k ts key, e, f, zero-add)

    pub good_key : (us : Vals) (j : ℕ) → decode_bare (rest_tys k ts) (drop p key) ≡ Decoded.got us [] j → decode_key (Ty.Record ts) key ≡ Decoded.got (Val.Record (join_vals vs us)) [] (i + j)
    unfolding decode_key whole
    good_key us j f = rw (bare_split k ts key, e, f, zero-add)

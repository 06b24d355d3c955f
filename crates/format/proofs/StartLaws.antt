-- The beginning of a run: between a byte string and its strinc lie exactly the byte strings that begin with it, and a key begins with k fields, a mark and the
-- beginning of a run exactly if its first k fields are these and the next begins so.
use mathlib.Core.Path.{◌≡◌, refl, sym, ap, ◌∙◌, subst}
use mathlib.Core.Logic.{◌≢◌, ◌↔◌}
use mathlib.Core.Bool.{Bool, true, false}
use mathlib.Core.List.{List, [], ◌∷◌, ◌++◌, append_assoc, append-nil}
use Prim.Native.Nat.{Ordering}
use Prim.Native.Nat.{ℕ, suc, ◌+◌, ◌<◌, compare}
use native.Mathlib.Omega.{arith}
use lib.Dec.{eqb, lit<}
use lib.ListN.{length, drop, length-append}
use lib.Seq.{drop-append_seam}
use Rattle.format.specs.Answer.{if, Answer, ok, refused, NoBound}
use Rattle.format.specs.Tree.{Ty, Val, Vals}
use Rattle.format.specs.Sheet.{val_count}
use Rattle.format.specs.Scalar.{escaped, run_start}
use Rattle.format.specs.Encode.{val_bytes, vals_bytes, fits, fine}
use Rattle.format.specs.Zeros.{zeros}
use Rattle.format.specs.Read.{starts_ff}
use Rattle.format.specs.Order.{then, cmp_bytes}
use Rattle.format.specs.Bounds.{strinc, ByteString, firsts, rests, Between}
use Rattle.format.specs.Replace.{field_at}
use Rattle.format.specs.Spans.{run_mark, field_start, start_end, Begins, BeginsWith}
use Rattle.format.proofs.Bytes.{AllBytes}
use Rattle.format.proofs.CompareLaws.{less, more, alike, Tri, lower, equal, higher, tri}
use Rattle.format.proofs.Tests.{Test, holds, fails, eqb_test, eqb_no}
use Rattle.format.proofs.KindLaws.{built}
use Rattle.format.proofs.Sound.{AllSound}
use Rattle.format.proofs.EncodeLaws.{of_kind_lem}
use Rattle.format.proofs.ZeroLaws.{escaped_long}
use Rattle.format.proofs.StrincLaws.{no_bytes, one_more, end_after, strinc_step, strinc_nil, strinc_above}
use Rattle.format.proofs.BoundLaws.{bounds, split_sound}
use Rattle.format.proofs.ReplaceLaws.{field_split}
use Rattle.format.proofs.ByteLaws.{vals_bytes_lem}
use Rattle.format.proofs.RoundLaws.{starts_vals, optional_fine}

begins_cons : (b : ℕ) (p z : List ℕ) → Begins p z → Begins (b ∷ p) (b ∷ z)
begins_cons b p z h = (h.0, ap (λ (l : List ℕ). b ∷ l) h.1)

-- ---- byte strings

behind_bytes : (p t : List ℕ) → ByteString (p ++ t) → ByteString t
behind_bytes [] t h = h
behind_bytes (b ∷ p) t h = behind_bytes p t (λ i. h (suc i))

all_bytes : (l : List ℕ) → AllBytes l → ByteString l
all_bytes [] h = no_bytes
all_bytes (b ∷ l) h = one_more b l h.0 (all_bytes l h.1)

-- ---- what lies between a string and its strinc

-- a string without strinc is all FF: what is not below it begins with it
begins_top : (p : List ℕ) (n d : ℕ) → strinc p ≡ refused n d → (z : List ℕ) → ByteString z → cmp_bytes p z ≢ Ordering.gt → Begins p z
unfolding cmp_bytes
begins_top [] n d e z hz low = (z, refl)
begins_top (b ∷ p) n d e [] hz low = absurd (low refl)
begins_top (b ∷ p) n d e (c ∷ z) hz low = go (strinc p) refl (sym (strinc_step b p) ∙ e) (tri b c) (λ m k f. begins_top p m k f z (λ i. hz (suc i)))
  where
    go : (a : Answer (List ℕ)) → strinc p ≡ a → end_after b a ≡ refused n d → Tri b c
        → ((m k : ℕ) → strinc p ≡ refused m k → cmp_bytes p z ≢ Ordering.gt → Begins p z) → Begins (b ∷ p) (c ∷ z)
    go (ok q) f g t ih = absurd (let y : ◌≡◌ {A = ℕ} 0 1 = cc in omega arith)
    go (refused m k) f g t ih = last (eqb b 0xFF) (eqb_test b 0xFF) g t
      where
        last : (x : Bool) → Test (b ≡ 0xFF) (b ≢ 0xFF) x → if x (refused NoBound 0) (ok (suc b ∷ [])) ≡ refused n d → Tri b c → Begins (b ∷ p) (c ∷ z)
        last _ (fails l) h u = absurd (let y : ◌≡◌ {A = ℕ} 0 1 = cc in omega arith)
        last _ (holds l) h (lower u) = absurd (omega (arith, hz 0))
        last _ (holds l) h (higher u) = absurd (low (rw (more u)))
        last _ (holds l) h (equal u) = rw u (begins_cons c p z (ih m k f (λ w. low (rw (u, alike c) w))))

-- nothing between a string and its strinc but what begins with it
inside : (p q : List ℕ) → strinc p ≡ ok q → (z : List ℕ) → ByteString z → cmp_bytes p z ≢ Ordering.gt → cmp_bytes z q ≡ Ordering.lt → Begins p z
unfolding cmp_bytes
inside [] q e z hz low high = absurd (let y : ◌≡◌ {A = ℕ} 0 1 = cc (strinc_nil) in omega arith)
inside (b ∷ p) q e [] hz low high = absurd (low refl)
inside (b ∷ p) q e (c ∷ z) hz low high =
    go (strinc p) refl (sym (strinc_step b p) ∙ e) (tri b c) (λ r f. inside p r f z (λ i. hz (suc i))) (λ m k f. begins_top p m k f z (λ i. hz (suc i)))
  where
    go : (a : Answer (List ℕ)) → strinc p ≡ a → end_after b a ≡ ok q → Tri b c
        → ((r : List ℕ) → strinc p ≡ ok r → cmp_bytes p z ≢ Ordering.gt → cmp_bytes z r ≡ Ordering.lt → Begins p z)
        → ((m k : ℕ) → strinc p ≡ refused m k → cmp_bytes p z ≢ Ordering.gt → Begins p z) → Begins (b ∷ p) (c ∷ z)
    go a f g (higher u) ih top = absurd (low (rw (more u)))
    go (ok r) f g (lower u) ih top = let eq : q ≡ b ∷ r = cc in absurd (let y : ◌≡◌ {A = ℕ} 0 1 = cc (rw (eq, more u) at high) in omega arith)
    go (ok r) f g (equal u) ih top = let eq : q ≡ b ∷ r = cc in rw u (begins_cons c p z (ih r f (λ w. low (rw (u, alike c) w)) (rw (eq, u, alike c) at high)))
    go (refused m k) f g (equal u) ih top = rw u (begins_cons c p z (top m k f (λ w. low (rw (u, alike c) w))))
    go (refused m k) f g (lower u) ih top = last (eqb b 0xFF) g
      where
        beyond : (x : List ℕ) → Tri (suc b) c → then (compare c (suc b)) (cmp_bytes x []) ≡ Ordering.lt → ⊥
        beyond x (lower v) w = let y : ◌≡◌ {A = ℕ} 0 1 = cc (more v) in omega arith
        beyond [] (equal v) w = let y : ◌≡◌ {A = ℕ} 0 1 = cc (rw (v, alike c) at w) in omega arith
        beyond (d ∷ x) (equal v) w = let y : ◌≡◌ {A = ℕ} 0 1 = cc (rw (v, alike c) at w) in omega arith
        beyond x (higher v) w = omega (arith, u)

        last : (x : Bool) → if x (refused NoBound 0) (ok (suc b ∷ [])) ≡ ok q → Begins (b ∷ p) (c ∷ z)
        last true h = absurd (let y : ◌≡◌ {A = ℕ} 0 1 = cc in omega arith)
        last false h = let eq : q ≡ suc b ∷ [] = cc in absurd (beyond z (tri (suc b) c) (rw eq at high))

-- a string is not above what begins with it
prefix_low : (p t : List ℕ) → cmp_bytes p (p ++ t) ≢ Ordering.gt
unfolding cmp_bytes
prefix_low [] [] e = let y : ◌≡◌ {A = ℕ} 0 1 = cc in omega arith
prefix_low [] (b ∷ t) e = let y : ◌≡◌ {A = ℕ} 0 1 = cc in omega arith
prefix_low (b ∷ p) t e = prefix_low p t (rw (alike b) at e)

-- what two strings begin with alike does not decide
prefix_same : (p a b : List ℕ) → cmp_bytes (p ++ a) (p ++ b) ≡ cmp_bytes a b
unfolding cmp_bytes
prefix_same [] a b = refl
prefix_same (c ∷ p) a b = rw (alike c) (prefix_same p a b)

-- between a string and its strinc lie exactly the byte strings that begin with it
pub begins_range : (p q : List ℕ) → strinc p ≡ ok q → (z : List ℕ) → ByteString z → Between p q z ↔ Begins p z
begins_range p q e z hz = (
  λ b. inside p q e z hz b.from_low b.below_high,
  λ h. rw h.1 (record { from_low = prefix_low p h.0; below_high = strinc_above p q e h.0 (behind_bytes p h.0 (rw h.1 at hz)) }),
)

-- strinc has an end for every string with a byte below FF
pub has_end : (p : List ℕ) (m : ℕ) (r : List ℕ) → m < 0xFF → (q : List ℕ) × (strinc (p ++ m ∷ r) ≡ ok q)
has_end [] m r h = go (strinc r) refl
  where
    go : (a : Answer (List ℕ)) → strinc r ≡ a → (q : List ℕ) × (strinc (m ∷ r) ≡ ok q)
    go (ok z) e = (m ∷ z, strinc_step m r ∙ ap (end_after m) e)
    go (refused n d) e = (suc m ∷ [], strinc_step m r ∙ ap (end_after m) e ∙ ap (λ (b : Bool). if b (refused NoBound 0) (ok (suc m ∷ []))) (eqb_no m 0xFF (omega arith)))
has_end (b ∷ p) m r h = let i = has_end p m r h in (b ∷ i.0, strinc_step b (p ++ m ∷ r) ∙ ap (end_after b) i.1)

-- ---- what begins as a run begins

-- of two strings one behind the other, the beginnings stand so too
pub start_append : (s x : List ℕ) → run_start (s ++ x) ≡ run_start s ++ run_start x
unfolding run_start
start_append [] x = refl
start_append (b ∷ s) x = go (eqb b 0) (start_append s x)
  where
    go : (c : Bool) → run_start (s ++ x) ≡ run_start s ++ run_start x → if c (0 ∷ 0xFF ∷ run_start (s ++ x)) (b ∷ run_start (s ++ x)) ≡ if c (0 ∷ 0xFF ∷ run_start s) (b ∷ run_start s) ++ run_start x
    go true e = rw e
    go false e = rw e

-- a run is its beginning and its end
pub run_end : (s : List ℕ) → escaped s ≡ run_start s ++ 0 ∷ []
unfolding escaped run_start
run_end [] = refl
run_end (b ∷ s) = go (eqb b 0) (run_end s)
  where
    go : (c : Bool) → escaped s ≡ run_start s ++ 0 ∷ [] → if c (0 ∷ 0xFF ∷ escaped s) (b ∷ escaped s) ≡ if c (0 ∷ 0xFF ∷ run_start s) (b ∷ run_start s) ++ 0 ∷ []
    go true e = rw e
    go false e = rw e

run_append : (s x : List ℕ) → escaped (s ++ x) ≡ run_start s ++ escaped x
run_append s x = rw (run_end (s ++ x), start_append s x, run_end x) (append_assoc (run_start s) (run_start x) (0 ∷ []))

-- and its beginning has its own bytes and one more for each zero
pub start_long : (s : List ℕ) → length (run_start s) ≡ length s + zeros s
start_long s = omega (arith, escaped_long s, ap length (run_end s), length-append (run_start s) (0 ∷ []))

start_bytes : (s : List ℕ) → ByteString s → ByteString (run_start s)
unfolding run_start
start_bytes [] h = no_bytes
start_bytes (b ∷ s) h = go (eqb b 0) (start_bytes s (λ i. h (suc i)))
  where
    go : (c : Bool) → ByteString (run_start s) → ByteString (if c (0 ∷ 0xFF ∷ run_start s) (b ∷ run_start s))
    go true r = one_more 0 (0xFF ∷ run_start s) (lit< tt) (one_more 0xFF (run_start s) (lit< tt) r)
    go false r = one_more b (run_start s) (h 0) r

-- a run that begins as the run of s does is the run of a string that begins with s, where no FF stands behind the run's end
run_begins : (s x r : List ℕ) → starts_ff r ≡ false → Begins (run_start s) (escaped x ++ r) → Begins s x
unfolding escaped run_start starts_ff
run_begins [] x r low h = (x, refl)
run_begins (b ∷ s) [] r low h = absurd (go (eqb b 0) (eqb_test b 0) h.1)
  where
    first : (u : List ℕ) → r ≡ 0xFF ∷ u → ⊥
    first u e = let y : ◌≡◌ {A = ℕ} 0 1 = cc (ap starts_ff e, low) in omega arith

    go : (c : Bool) → Test (b ≡ 0) (b ≢ 0) c → 0 ∷ r ≡ if c (0 ∷ 0xFF ∷ run_start s) (b ∷ run_start s) ++ h.0 → ⊥
    go _ (holds p) e = first (run_start s ++ h.0) (cc)
    go _ (fails p) e = p (cc)
run_begins (b ∷ s) (c ∷ x) r low h = go (eqb b 0) (eqb c 0) (eqb_test b 0) (eqb_test c 0) h.1 (λ t e. run_begins s x r low (t, e))
  where
    go : (d g : Bool) → Test (b ≡ 0) (b ≢ 0) d → Test (c ≡ 0) (c ≢ 0) g
        → if g (0 ∷ 0xFF ∷ escaped x) (c ∷ escaped x) ++ r ≡ if d (0 ∷ 0xFF ∷ run_start s) (b ∷ run_start s) ++ h.0
        → ((t : List ℕ) → escaped x ++ r ≡ run_start s ++ t → Begins s x) → Begins (b ∷ s) (c ∷ x)
    go _ _ (holds p) (holds q) e ih = rw (p, q) (begins_cons 0 s x (ih h.0 (cc)))
    go _ _ (holds p) (fails q) e ih = absurd (q (cc))
    go _ _ (fails p) (holds q) e ih = absurd (p (cc))
    go _ _ (fails p) (fails q) e ih = let same : c ≡ b = cc in rw same (begins_cons b s x (ih h.0 (cc)))

-- ---- the field

-- every mark is below FF
pub mark_small : (u : Ty) → run_mark u < 0xFF
mark_small Ty.Int = lit< tt
mark_small Ty.Str = lit< tt
mark_small Ty.Bytes = lit< tt
mark_small (Ty.Ref p) = lit< tt
mark_small (Ty.Record ts) = lit< tt
mark_small (Ty.Union us) = lit< tt
mark_small (Ty.Optional t) = mark_small t

-- what stands in a Str or Bytes field, optional or not, by the mark of its type
abbrev pub RunVal : ℕ → Val → Type 0
RunVal mark Val.Null = 0 < mark
RunVal mark (Val.Int w) = ⊥
RunVal mark (Val.Str x) = mark ≡ 0x21
RunVal mark (Val.Bytes x) = mark ≡ 0x53
RunVal mark (Val.Ref r) = ⊥
RunVal mark (Val.Record us) = ⊥
RunVal mark (Val.Union d v) = ⊥

pub run_val : (u : Ty) (v : Val) → run_mark u ≢ 0 → fits u 0 v ≡ fine → RunVal (run_mark u) v
unfolding fits built
run_val Ty.Int v n h = absurd (n refl)
run_val Ty.Str v n h = subst (RunVal 0x21) (sym (of_kind_lem 2 v _ h).0) refl
run_val Ty.Bytes v n h = subst (RunVal 0x53) (sym (of_kind_lem 3 v _ h).0) refl
run_val (Ty.Ref p) v n h = absurd (n refl)
run_val (Ty.Record ts) v n h = absurd (n refl)
run_val (Ty.Union us) v n h = absurd (n refl)
run_val (Ty.Optional t) v n h = optional_fine t 0 v h (λ p. subst (RunVal (run_mark t)) (sym p) (omega (arith, n))) (λ z g. run_val t v n g)

-- ---- keys

module _ (k : ℕ) (ps vs : Vals) (count : val_count ps ≡ val_count (firsts k vs)) (l : k < val_count vs) (wp : AllSound ps) (wv : AllSound vs) (mark : ℕ) (small : mark < 0xFF) (s : List ℕ) where
  abbrev behind : List ℕ
  behind = vals_bytes 0 (rests (suc k) vs)

  -- what stands behind a run's end is no FF
  behind_starts : starts_ff behind ≡ false
  unfolding starts_ff
  behind_starts = rw append-nil at (starts_vals 0 (rests (suc k) vs) (split_sound (suc k) vs wv).1 [] refl)

  -- a run behind its mark
  run_field : (x : List ℕ) → Begins (field_start mark s) (mark ∷ (escaped x ++ behind)) ↔ Begins s x
  run_field x = (
    λ h. run_begins s x behind behind_starts (h.0, cc h.1),
    λ h. (
      escaped h.0 ++ behind,
      ap (λ (u : List ℕ). mark ∷ u) (ap (λ (u : List ℕ). escaped u ++ behind) h.1 ∙ ap (λ (u : List ℕ). u ++ behind) (run_append s h.0) ∙ append_assoc (run_start s) (escaped h.0) behind),
    ),
  )

  -- a field begins with the mark and the beginning of its run exactly if it is no blank and begins with s
  field_begins : (v : Val) → RunVal mark v → Begins (field_start mark s) (val_bytes 0 v ++ behind) ↔ BeginsWith s v
  unfolding val_bytes
  field_begins Val.Null z = (λ h. let e : 0 ≡ mark = cc h.1 in absurd (omega arith), λ h. absurd h)
  field_begins (Val.Int w) z = absurd z
  field_begins (Val.Str x) z = rw (← z) (run_field x)
  field_begins (Val.Bytes x) z = rw (← z) (run_field x)
  field_begins (Val.Ref r) z = absurd z
  field_begins (Val.Record us) z = absurd z
  field_begins (Val.Union d v) z = absurd z

  -- it is below FF, whatever follows
  lower_mark : (u : List ℕ) → cmp_bytes (field_start mark s ++ u) (0xFF ∷ []) ≡ Ordering.lt
  unfolding cmp_bytes
  lower_mark u = rw (less small)

  -- what begins with the k values and the mark has these k values
  first_k : Begins (start_end ps mark s) (vals_bytes 0 vs) → ps ≡ firsts k vs
  first_k h =
      let e : vals_bytes 0 vs ≡ vals_bytes 0 ps ++ (field_start mark s ++ h.0) = h.1 ∙ append_assoc (vals_bytes 0 ps) (field_start mark s) h.0 in
      (bounds k ps vs count wp wv).0 (rw e (record {
        from_low = prefix_low (vals_bytes 0 ps) (field_start mark s ++ h.0);
        below_high = prefix_same (vals_bytes 0 ps) (field_start mark s ++ h.0) (0xFF ∷ []) ∙ lower_mark h.0;
      }))

  cancel : (p a b : List ℕ) → p ++ a ≡ p ++ b → a ≡ b
  cancel p a b e = sym (drop-append_seam p a) ∙ ap (drop (length p)) e ∙ drop-append_seam p b

  begins_key : RunVal mark (field_at k vs) → Begins (start_end ps mark s) (vals_bytes 0 vs) ↔ ((ps ≡ firsts k vs) × BeginsWith s (field_at k vs))
  begins_key r = (there, back)
    where
      there : Begins (start_end ps mark s) (vals_bytes 0 vs) → (ps ≡ firsts k vs) × BeginsWith s (field_at k vs)
      there h =
          let f = first_k h in
          let rest : List ℕ = field_start mark s ++ h.0 in
          let e : vals_bytes 0 (firsts k vs) ++ (val_bytes 0 (field_at k vs) ++ behind) ≡ vals_bytes 0 (firsts k vs) ++ rest =
          sym (field_split k vs l) ∙ h.1 ∙ append_assoc (vals_bytes 0 ps) (field_start mark s) h.0 ∙ ap (λ (us : Vals). vals_bytes 0 us ++ rest) f in
          (f, (field_begins (field_at k vs) r).0 (h.0, cancel (vals_bytes 0 (firsts k vs)) _ _ e))

      back : (ps ≡ firsts k vs) × BeginsWith s (field_at k vs) → Begins (start_end ps mark s) (vals_bytes 0 vs)
      back h =
          let b = (field_begins (field_at k vs) r).1 h.1 in (
            b.0,
            field_split k vs l
                ∙ ap (λ (u : List ℕ). vals_bytes 0 (firsts k vs) ++ u) b.1
                ∙ ap (λ (us : Vals). vals_bytes 0 us ++ (field_start mark s ++ b.0)) (sym h.0)
                ∙ sym (append_assoc (vals_bytes 0 ps) (field_start mark s) b.0),
          )

  -- a key lies between the two ends exactly if its first k fields are these and the next begins with s
  pub start : (q : List ℕ) → strinc (start_end ps mark s) ≡ ok q → RunVal mark (field_at k vs)
      → Between (start_end ps mark s) q (vals_bytes 0 vs) ↔ ((ps ≡ firsts k vs) × BeginsWith s (field_at k vs))
  start q e r =
      let a = begins_range (start_end ps mark s) q e (vals_bytes 0 vs) (all_bytes (vals_bytes 0 vs) (vals_bytes_lem 0 vs wv)) in
      let b = begins_key r in
      (λ h. b.0 (a.0 h), λ h. a.1 (b.1 h))

-- the lower end is a byte string
pub end_bytes : (ps : Vals) (mark : ℕ) (s : List ℕ) → AllSound ps → mark < 0xFF → ByteString s → ByteString (start_end ps mark s)
end_bytes ps mark s w m h = go (vals_bytes 0 ps) (vals_bytes_lem 0 ps w)
  where
    go : (l : List ℕ) → AllBytes l → ByteString (l ++ field_start mark s)
    go [] b = one_more mark (run_start s) (omega (arith, m)) (start_bytes s h)
    go (c ∷ l) b = one_more c (l ++ field_start mark s) b.0 (go l b.1)

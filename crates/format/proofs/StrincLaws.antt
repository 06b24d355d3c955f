-- strinc: its answer is a byte string above every byte string that begins with the prefix, the least such, and it refuses exactly where there is none.
use mathlib.Core.Path.{◌≡◌, refl, sym, ap, ◌∙◌}
use mathlib.Core.Logic.{◌≢◌, ◌↔◌}
use mathlib.Core.Bool.{Bool, true, false}
use mathlib.Core.List.{List, [], ◌∷◌, ◌++◌}
use Prim.Native.Nat.{ℕ, zero, suc, ◌<◌, compare, Ordering}
use native.Mathlib.Omega.{arith}
use lib.Dec.{eqb, leb, lit<}
use lib.ListN.{length}
use Rattle.format.specs.Answer.{Answer, ok, refused, if, NoBound, shown}
use Rattle.format.specs.Calls.{Called, written, over, strinc_call}
use Rattle.format.specs.Order.{then, cmp_bytes}
use Rattle.format.specs.Bounds.{before, trimmed, raised, raised_or, strinc, Below, ByteString, Above, Least}
use Rattle.format.proofs.CompareLaws.{less, more, alike, Tri, lower, equal, higher, tri, lt_gt, flip, cmp_bytes_flip, nil_first, cmp_bytes_eq}
use Rattle.format.proofs.Tests.{Test, holds, fails, eqb_test}

-- ---- byte strings, byte by byte

pub no_bytes : ByteString []
no_bytes i = lit< tt

pub one_more : {n : ℕ} (b : ℕ) (l : List ℕ) → b < n → Below n l → Below n (b ∷ l)
one_more b l h t zero = h
one_more b l h t (suc i) = t i

-- ---- byte by byte: b in front of the end of what follows; where that has none, one more than b, or none for FF

abbrev pub end_after : ℕ → Answer (List ℕ) → Answer (List ℕ)
end_after b (ok q) = ok (b ∷ q)
end_after b (refused n d) = if (eqb b 0xFF) (refused NoBound 0) (ok (suc b ∷ []))

pub strinc_step : (b : ℕ) (p : List ℕ) → strinc (b ∷ p) ≡ end_after b (strinc p)
unfolding strinc trimmed raised
strinc_step b p = go (trimmed p)
  where
    last : (c : Bool) → raised_or (if c [] (b ∷ [])) ≡ if c (refused NoBound 0) (ok (suc b ∷ []))
    last true = refl
    last false = refl

    go : (t : List ℕ) → raised_or (before b t) ≡ end_after b (raised_or t)
    go [] = last (eqb b 0xFF)
    go (c ∷ s) = refl

pub strinc_nil : strinc [] ≡ refused NoBound 0
unfolding strinc trimmed
strinc_nil = refl

-- ---- what strinc answers

-- no other refusal
pub strinc_refusal : (p : List ℕ) (n d : ℕ) → strinc p ≡ refused n d → (n ≡ NoBound) × (d ≡ 0)
unfolding strinc
strinc_refusal p n d e = go (trimmed p) e
  where
    go : (t : List ℕ) → raised_or t ≡ refused n d → (n ≡ NoBound) × (d ≡ 0)
    go [] f = (cc, cc)
    go (b ∷ t) f = absurd (let z : ◌≡◌ {A = ℕ} 0 1 = cc in omega arith)

pub strinc_above : (p q : List ℕ) → strinc p ≡ ok q → Above p q
unfolding cmp_bytes
strinc_above [] q e s hs = cc (strinc_nil)
strinc_above (b ∷ p) q e s hs = go (strinc p) refl (sym (strinc_step b p) ∙ e) (λ z f. strinc_above p z f s hs)
  where
    go : (a : Answer (List ℕ)) → strinc p ≡ a → end_after b a ≡ ok q → ((z : List ℕ) → strinc p ≡ ok z → cmp_bytes (p ++ s) z ≡ Ordering.lt)
        → cmp_bytes ((b ∷ p) ++ s) q ≡ Ordering.lt
    go (ok z) f g ih = let eq : q ≡ b ∷ z = cc in rw (eq, alike b, ih z f)
    go (refused n d) f g ih = step (eqb b 0xFF) g
      where
        step : (c : Bool) → if c (refused NoBound 0) (ok (suc b ∷ [])) ≡ ok q → cmp_bytes ((b ∷ p) ++ s) q ≡ Ordering.lt
        step true h = cc
        step false h = let eq : q ≡ suc b ∷ [] = cc in rw (eq, less {m = b} {n = suc b} (omega arith))

pub strinc_bytes : (p q : List ℕ) → ByteString p → strinc p ≡ ok q → ByteString q
strinc_bytes [] q hp e = absurd (let z : ◌≡◌ {A = ℕ} 0 1 = cc (strinc_nil) in omega arith)
strinc_bytes (b ∷ p) q hp e = go (strinc p) refl (sym (strinc_step b p) ∙ e) (λ z f. strinc_bytes p z (λ i. hp (suc i)) f)
  where
    go : (a : Answer (List ℕ)) → strinc p ≡ a → end_after b a ≡ ok q → ((z : List ℕ) → strinc p ≡ ok z → ByteString z) → ByteString q
    go (ok z) f g ih = let eq : q ≡ b ∷ z = cc in rw eq (one_more b z (hp 0) (ih z f))
    go (refused n d) f g ih = step (eqb b 0xFF) (eqb_test b 0xFF) g
      where
        step : (c : Bool) → Test (b ≡ 0xFF) (b ≢ 0xFF) c → if c (refused NoBound 0) (ok (suc b ∷ [])) ≡ ok q → ByteString q
        step _ (holds t) h = absurd (let z : ◌≡◌ {A = ℕ} 0 1 = cc in omega arith)
        step _ (fails t) h = let eq : q ≡ suc b ∷ [] = cc in rw eq (one_more (suc b) [] (omega (arith, hp 0)) no_bytes)

-- ---- where it refuses

-- n times FF
abbrev tops : ℕ → List ℕ
tops zero = []
tops (suc n) = 0xFF ∷ tops n

tops_bytes : (n : ℕ) → ByteString (tops n)
tops_bytes zero = no_bytes
tops_bytes (suc n) = one_more 0xFF (tops n) (lit< tt) (tops_bytes n)

-- as many FF as a byte string has bytes are not below it
top : (q : List ℕ) → ByteString q → cmp_bytes (tops (length q)) q ≢ Ordering.lt
unfolding cmp_bytes
top [] h e = let z : ◌≡◌ {A = ℕ} 0 1 = cc in omega arith
top (b ∷ q) h e = go (tri 0xFF b) (top q (λ i. h (suc i)))
  where
    go : Tri 0xFF b → cmp_bytes (tops (length q)) q ≢ Ordering.lt → ⊥
    go (lower l) ih = omega (arith, h 0)
    go (equal p) ih = ih (rw (sym p) at e)
    go (higher l) ih = let z : ◌≡◌ {A = ℕ} 0 1 = cc (more l) in omega arith

-- a prefix that is refused has, for each byte string, one that begins with it and is not below
reached : (p : List ℕ) (n d : ℕ) → strinc p ≡ refused n d → (q : List ℕ) → ByteString q
    → (s : List ℕ) × ByteString s × (cmp_bytes (p ++ s) q ≢ Ordering.lt)
unfolding cmp_bytes
reached [] n d e q hq = (tops (length q), tops_bytes (length q), top q hq)
reached (b ∷ p) n d e [] hq = ([], no_bytes, λ f. let z : ◌≡◌ {A = ℕ} 0 1 = cc in omega arith)
reached (b ∷ p) n d e (c ∷ q) hq = go (strinc p) refl (sym (strinc_step b p) ∙ e) (λ m k f. reached p m k f q (λ i. hq (suc i)))
  where
    go : (a : Answer (List ℕ)) → strinc p ≡ a → end_after b a ≡ refused n d
        → ((m k : ℕ) → strinc p ≡ refused m k → (s : List ℕ) × ByteString s × (cmp_bytes (p ++ s) q ≢ Ordering.lt))
        → (s : List ℕ) × ByteString s × (cmp_bytes ((b ∷ p) ++ s) (c ∷ q) ≢ Ordering.lt)
    go (ok z) f g ih = absurd (let z : ◌≡◌ {A = ℕ} 0 1 = cc in omega arith)
    go (refused m k) f g ih = ((ih m k f).0, (ih m k f).1, λ h. last (eqb b 0xFF) (eqb_test b 0xFF) g (tri b c) h)
      where
        last : (t : Bool) → Test (b ≡ 0xFF) (b ≢ 0xFF) t → if t (refused NoBound 0) (ok (suc b ∷ [])) ≡ refused n d → Tri b c
            → then (compare b c) (cmp_bytes (p ++ (ih m k f).0) q) ≡ Ordering.lt → ⊥
        last _ (fails l) x t h = let z : ◌≡◌ {A = ℕ} 0 1 = cc in omega arith
        last _ (holds l) x (lower u) h = omega (arith, hq 0)
        last _ (holds l) x (equal u) h = (ih m k f).2 (rw (u, alike c) at h)
        last _ (holds l) x (higher u) h = let z : ◌≡◌ {A = ℕ} 0 1 = cc (more u) in omega arith

-- strinc refuses exactly when no byte string is above every byte string that begins with the prefix
pub strinc_none : (p : List ℕ) → ByteString p → (strinc p ≡ refused NoBound 0) ↔ ((q : List ℕ) → ByteString q → Above p q → ⊥)
strinc_none p hp = (λ e q hq up. let r = reached p NoBound 0 e q hq in r.2 (up r.0 r.1), λ none. go (strinc p) refl none)
  where
    go : (a : Answer (List ℕ)) → strinc p ≡ a → ((q : List ℕ) → ByteString q → Above p q → ⊥) → strinc p ≡ refused NoBound 0
    go (ok q) e none = absurd (none q (strinc_bytes p q hp e) (strinc_above p q e))
    go (refused n d) e none = let r = strinc_refusal p n d e in cc

-- and so does the call, whatever room it has
pub call_none : (p out : List ℕ) → ByteString p → ((strinc_call p out).answer ≡ refused NoBound 0) ↔ ((q : List ℕ) → ByteString q → Above p q → ⊥)
unfolding strinc_call
call_none p out hp = (λ e. (strinc_none p hp).0 (back (strinc p) e), λ none. ap (λ (a : Answer (List ℕ)). (written out a).answer) ((strinc_none p hp).1 none))
  where
    back : (a : Answer (List ℕ)) → (written out a).answer ≡ refused NoBound 0 → a ≡ refused NoBound 0
    back (refused n d) e = cc
    back (ok x) e = room (leb (length x) (length out)) e
      where
        room : (b : Bool) → (if {A = Called ℕ} b (record { answer = ok (length x); buffer = over x out }) (record { answer = refused 17 (shown (length x)); buffer = out })).answer ≡ refused NoBound 0 → ok x ≡ refused NoBound 0
        room true f = absurd (let z : ◌≡◌ {A = ℕ} 0 1 = cc in omega arith)
        room false f = absurd (let z : ◌≡◌ {A = ℕ} 17 19 = cc in omega arith)

-- ---- and it is the least such end

-- an end r is not empty, its first byte is not lower, and where that is the same, what follows is an end of the rest
least : (p q : List ℕ) → strinc p ≡ ok q → (r : List ℕ) → ByteString r → Above p r → cmp_bytes q r ≢ Ordering.gt
unfolding cmp_bytes
least [] q e r hr up = absurd (let z : ◌≡◌ {A = ℕ} 0 1 = cc (strinc_nil) in omega arith)
least (b ∷ p) q e [] hr up = absurd (let z : ◌≡◌ {A = ℕ} 0 1 = cc (up [] no_bytes) in omega arith)
least (b ∷ p) q e (c ∷ r) hr up = go (strinc p) refl (sym (strinc_step b p) ∙ e) (tri b c) (λ z f. least p z f r rest) (λ n d f. reached p n d f r rest)
  where
    rest : ByteString r
    rest i = hr (suc i)

    -- one more than b is not above a higher c, whatever follows
    next : b < c → Tri (suc b) c → then (compare (suc b) c) (cmp_bytes [] r) ≢ Ordering.gt
    next h (lower l) = rw (less l) lt_gt
    next h (equal l) = rw (l, alike c) (nil_first r)
    next h (higher l) = absurd (omega (arith, h))

    go : (a : Answer (List ℕ)) → strinc p ≡ a → end_after b a ≡ ok q → Tri b c
        → ((z : List ℕ) → strinc p ≡ ok z → Above p r → cmp_bytes z r ≢ Ordering.gt)
        → ((n d : ℕ) → strinc p ≡ refused n d → (s : List ℕ) × ByteString s × (cmp_bytes (p ++ s) r ≢ Ordering.lt))
        → cmp_bytes q (c ∷ r) ≢ Ordering.gt
    go a f g (higher h) ih reach = absurd (let z : ◌≡◌ {A = ℕ} 0 1 = cc (more h, up [] no_bytes) in omega arith)
    go (ok z) f g (lower h) ih reach = let eq : q ≡ b ∷ z = cc in rw (eq, less h) lt_gt
    go (ok z) f g (equal h) ih reach = let eq : q ≡ b ∷ z = cc in rw (eq, h, alike c) (ih z f (λ s hs. rw (h, alike c) at (up s hs)))
    go (refused n d) f g (equal h) ih reach = let k = reach n d f in absurd (k.2 (rw (h, alike c) at (up k.0 k.1)))
    go (refused n d) f g (lower h) ih reach = step (eqb b 0xFF) g
      where
        step : (t : Bool) → if t (refused NoBound 0) (ok (suc b ∷ [])) ≡ ok q → cmp_bytes q (c ∷ r) ≢ Ordering.gt
        step true k = absurd (let y : ◌≡◌ {A = ℕ} 0 1 = cc in omega arith)
        step false k = let eq : q ≡ suc b ∷ [] = cc in rw eq (next h (tri (suc b) c))

pub strinc_least : (p q : List ℕ) → ByteString p → strinc p ≡ ok q → Least p q
strinc_least p q hp e = record { bytes = strinc_bytes p q hp e; above = strinc_above p q e; least = least p q e }

-- there is one least end
pub least_one : (p q r : List ℕ) → Least p q → Least p r → q ≡ r
least_one p q r a b = go (cmp_bytes q r) refl
  where
    go : (o : Ordering) → cmp_bytes q r ≡ o → q ≡ r
    go Ordering.lt e = absurd (b.least q a.bytes a.above (cmp_bytes_flip q r ∙ ap flip e))
    go Ordering.eq e = cmp_bytes_eq q r e
    go Ordering.gt e = absurd (a.least r b.bytes b.above e)

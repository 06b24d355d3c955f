-- Trailing FF dropped from the end, and what a raised string is written as.
use mathlib.Core.Path.{◌≡◌, refl, sym, ap, ◌∙◌}
use mathlib.Core.List.{List, [], ◌∷◌, ◌++◌, append_assoc}
use Prim.Native.Nat.{ℕ, suc, ◌+◌, ◌-◌, ◌≤◌, ◌<◌, ◌^◌}
use native.Mathlib.Omega.{arith}
use native.Mathlib.Numerals.{add-one}
use borrow.Author.Tests.{ne_eqb, lt-ltb, le-leb, lt-leb}
use lib.ListN.{length, take, drop, get_or, set, length-append, length-take}
use lib.Seq.{take-suc, take_all, slice, drop-cons, set_at}
use Rattle.format.specs.Refusals.{Leaves}
use Rattle.format.specs.Answer.{ok, refused, NoBound, NoRoom}
use Rattle.format.specs.Bounds.{before, trimmed, raised, raised_or, strinc, above_field}
use Rattle.format.specs.Calls.{over, written, strinc_call, above_field_call}
use Rattle.format.specs.Fields.{put}
use Rattle.format.specs.declared.refusal.Refusal.TheVariants as made
use Rattle.std.specs.Prelude.{Ok, Err}
use Rattle.ends.specs.Ends.{Trims}

-- a trailing FF is dropped
pub trim_last : (s : List ℕ) → trimmed (s ++ 0xFF ∷ []) ≡ trimmed s
unfolding trimmed
trim_last [] = refl
trim_last (b ∷ s) = ap (before b) (trim_last s)

-- another last byte stays
pub trim_keep : (s : List ℕ) (b : ℕ) → (b ≡ 0xFF → ⊥) → trimmed (s ++ b ∷ []) ≡ s ++ b ∷ []
unfolding trimmed
trim_keep [] b h = rw (ne_eqb b 0xFF h)
trim_keep (c ∷ s) b h = ap (before c) (trim_keep s b h) ∙ kept c s
  where
    kept : (c : ℕ) (s : List ℕ) → before c (s ++ b ∷ []) ≡ c ∷ (s ++ b ∷ [])
    kept c [] = refl
    kept c (d ∷ s) = refl

-- nothing before another byte is dropped
pub trim_behind : (x : List ℕ) (b : ℕ) (r : List ℕ) → (b ≡ 0xFF → ⊥) → trimmed (x ++ b ∷ r) ≡ x ++ b ∷ trimmed r
unfolding trimmed
trim_behind [] b r h = go (trimmed r)
  where
    go : (t : List ℕ) → before b t ≡ b ∷ t
    go [] = rw (ne_eqb b 0xFF h)
    go (c ∷ t) = refl
trim_behind (c ∷ x) b r h = ap (before c) (trim_behind x b r h) ∙ kept x
  where
    kept : (y : List ℕ) → before c (y ++ b ∷ trimmed r) ≡ c ∷ (y ++ b ∷ trimmed r)
    kept [] = refl
    kept (d ∷ y) = refl

-- strinc is as long as what is left
pub strinc_long : (p q : List ℕ) → strinc p ≡ ok q → length q ≡ length (trimmed p)
unfolding strinc raised
strinc_long p q e = go (trimmed p) e
  where
    long : (l : List ℕ) → length (raised l) ≡ length l
    long [] = refl
    long (b ∷ []) = refl
    long (b ∷ c ∷ s) = ap suc (long (c ∷ s))

    go : (l : List ℕ) → raised_or l ≡ ok q → length q ≡ length l
    go [] f = absurd (let z : ◌≡◌ {A = ℕ} 0 1 = cc in omega arith)
    go (b ∷ l) f = let eq : q ≡ raised (b ∷ l) = cc in ap length eq ∙ long (b ∷ l)

-- one is added to the last byte
raise_last : (s : List ℕ) (b : ℕ) → raised (s ++ b ∷ []) ≡ s ++ suc b ∷ []
unfolding raised
raise_last [] b = refl
raise_last (c ∷ []) b = refl
raise_last (c ∷ d ∷ s) b = ap (λ (l : List ℕ). c ∷ l) (raise_last (d ∷ s) b)

raise_some : (s : List ℕ) (b : ℕ) → raised_or (s ++ b ∷ []) ≡ ok (s ++ suc b ∷ [])
raise_some [] b = ap ok (raise_last [] b)
raise_some (c ∷ s) b = ap ok (raise_last (c ∷ s) b)

-- the first n bytes are the n - 1 before, and the last
pub last_of : (p : List ℕ) (n : ℕ) → 0 < n → n ≤ length p → take n p ≡ take (n - 1) p ++ get_or p (n - 1) 0 ∷ []
last_of p n h l =
    let e : n ≡ suc (n - 1) = omega arith in
    ap (λ (m : ℕ). take m p) e ∙ take-suc p (n - 1) 0 (omega arith)

-- the loop: what is left to trim
pub record Trimming (p : List ℕ) (n : ℕ) : Type 0 where
  pub short : n ≤ length p
  pub rest : trimmed p ≡ trimmed (take n p)

pub trim_start : (p : List ℕ) → Trimming p (length p)
trim_start p = record { short = omega arith; rest = ap trimmed (sym (take_all (length p) p (omega arith))) }

pub trim_more : (p : List ℕ) (n : ℕ) → Trimming p n → 0 < n → get_or p (n - 1) 0 ≡ 0xFF → Trimming p (n - 1)
trim_more p n t h e =
    record { short = omega (arith, t.short); rest = t.rest ∙ ap trimmed (last_of p n h t.short ∙ ap (λ (b : ℕ). take (n - 1) p ++ b ∷ []) e) ∙ trim_last (take (n - 1) p) }

pub trim_stop : (p : List ℕ) (n : ℕ) → Trimming p n → 0 < n → (get_or p (n - 1) 0 ≡ 0xFF → ⊥) → Trims p n
trim_stop p n t h e =
    let l = last_of p n h t.short in
    record { short = t.short; left = t.rest ∙ ap trimmed l ∙ trim_keep (take (n - 1) p) (get_or p (n - 1) 0) e ∙ sym l; last = λ z. e }

pub trim_none : (p : List ℕ) (n : ℕ) → Trimming p n → n ≤ 0 → Trims p n
unfolding trimmed
trim_none p n t h =
    let z : n ≡ 0 = omega arith in
    record { short = t.short; left = t.rest ∙ ap (λ (m : ℕ). trimmed (take m p)) z ∙ ap (λ (m : ℕ). take m p) (sym z); last = λ l. absurd (omega arith) }

pub trim_empty : (p : List ℕ) → length p ≡ 0 → Trims p 0
trim_empty p e = trim_none p 0 (rw e at (trim_start p)) (omega arith)

-- ---- the calls

-- a store behind what was copied to the buffer's beginning
stored : (out x : List ℕ) (n b : ℕ) → length x ≡ n → n < length out → set (put out 0 x) n b ≡ over (x ++ b ∷ []) out
stored out x n b e l =
    let i : length x < length out = omega arith in
    let f : 0 + length x ≡ length x = omega arith in
    let d : drop (0 + length x) out ≡ get_or out (length x) 0 ∷ drop (suc (length x)) out = ap (λ (k : ℕ). drop k out) f ∙ drop-cons out (length x) 0 i in
    let m : suc (length x) ≡ length (x ++ b ∷ []) = omega (arith, length-append x (b ∷ [])) in
    ap (λ (s : List ℕ). set (x ++ s) n b) d
    ∙ set_at x (get_or out (length x) 0) (drop (suc (length x)) out) b n e
    ∙ ap (λ (k : ℕ). x ++ b ∷ drop k out) m
    ∙ sym (append_assoc x (b ∷ []) (drop (length (x ++ b ∷ [])) out))

-- what a call leaves that would write n bytes x
fills : (out x : List ℕ) (n : ℕ) → length x ≡ n → n ≤ length out → written out (ok x) ≡ record { answer = ok n; buffer = over x out }
fills out x n e l = let h : length x ≤ length out = omega arith in rw (le-leb (length x) (length out) h) (ap (λ (m : ℕ). record { answer = ok m; buffer = over x out }) e)

lacks : (out x : List ℕ) (n : ℕ) → length x ≡ n → length out < n → n < 2 ^ 64 → written out (ok x) ≡ record { answer = refused NoRoom n; buffer = out }
lacks out x n e l f = rw (e, lt-leb n (length out) l, lt-ltb n (2 ^ 64) f)

module _ (p out : List ℕ) (n : ℕ) (t : Trims p n) where
  pub s_none : n ≡ 0 → Leaves (strinc_call p out) (Err made.NoBound) out
  unfolding strinc_call strinc
  s_none z = let e : trimmed p ≡ [] = t.left ∙ ap (λ (m : ℕ). take m p) z in rw e (record { answer = refl; left = refl })

  -- what is to be written
  raises : (n ≡ 0 → ⊥) → strinc p ≡ ok (take (n - 1) p ++ suc (get_or p (n - 1) 0) ∷ [])
  unfolding strinc
  raises z = rw (t.left, last_of p n (omega arith) t.short) (raise_some (take (n - 1) p) (get_or p (n - 1) 0))

  raised_long : (n ≡ 0 → ⊥) → length (take (n - 1) p ++ suc (get_or p (n - 1) 0) ∷ []) ≡ n
  raised_long z = let s = t.short in length-append (take (n - 1) p) (suc (get_or p (n - 1) 0) ∷ []) ∙ simp length-take (omega arith)

  pub s_room : (n ≡ 0 → ⊥) → length out < n → n < 2 ^ 64 → Leaves (strinc_call p out) (Err (made.NoRoom n)) out
  unfolding strinc_call
  s_room z h f = rw (raises z, lacks out (take (n - 1) p ++ suc (get_or p (n - 1) 0) ∷ []) n (raised_long z) h f) (record { answer = refl; left = refl })

  pub s_done : (n ≡ 0 → ⊥) → n ≤ length out → (x : List ℕ) → x ≡ set (put out 0 (slice 0 (n - 1) p)) (n - 1) (get_or p (n - 1) 0 + 1) → Leaves (strinc_call p out) (Ok n) x
  unfolding strinc_call
  s_done z h x e =
      let s = t.short in
      let sl : length (take (n - 1) p) ≡ n - 1 = length-take (n - 1) p ∙ omega arith in
      rw (raises z, fills out (take (n - 1) p ++ suc (get_or p (n - 1) 0) ∷ []) n (raised_long z) h)
      (record { answer = refl; left = e ∙ stored out (take (n - 1) p) (n - 1) (get_or p (n - 1) 0 + 1) sl (omega arith) ∙ ap (λ (b : ℕ). over (take (n - 1) p ++ b ∷ []) out) (add-one (get_or p (n - 1) 0)) })

module _ (key out : List ℕ) where
  long : length (above_field key) ≡ length key + 1
  long = length-append key (0xFF ∷ [])

  pub a_room : length out < length key + 1 → length key + 1 < 2 ^ 64 → Leaves (above_field_call key out) (Err (made.NoRoom (length key + 1))) out
  unfolding above_field_call
  a_room h f = rw (lacks out (above_field key) (length key + 1) long h f) (record { answer = refl; left = refl })

  pub a_done : length key + 1 ≤ length out → (x : List ℕ) → x ≡ set (put out 0 (slice 0 (length key) key)) (length key) 0xFF → Leaves (above_field_call key out) (Ok (length key + 1)) x
  unfolding above_field_call
  a_done h x e =
      let si : slice 0 (length key) key ≡ key = take_all (length key) key (omega arith) in
      rw (fills out (above_field key) (length key + 1) long h)
      (record { answer = refl; left = e ∙ ap (λ (l : List ℕ). set (put out 0 l) (length key) 0xFF) si ∙ stored out key (length key) 0xFF refl (omega arith) })

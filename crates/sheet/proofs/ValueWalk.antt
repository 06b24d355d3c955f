-- What each step of the walk over a value sheet finds.
use Prim.Native.Nat.{ℕ, zero, suc, ◌+◌, ◌-◌, ◌≤◌, ◌<◌, ◌^◌}
use mathlib.Core.List.{List, [], ◌∷◌}
use mathlib.Core.Bool.{Bool, true, false}
use mathlib.Core.Path.{◌≡◌, refl, ap, sym, ◌∙◌, subst}
use native.Mathlib.Omega.{arith}
use lib.Dec.{leb, ltb}
use lib.ListN.{length, take, drop, get_or, drop_of_length-le, length-drop}
use lib.Seq.{drop-drop}
use borrow.Author.Tests.{le-leb, lt-leb, lt-ltb, le-ltb, leb-true, leb-false}
use Rattle.format.specs.Tree.{Val, Vals}
use Rattle.format.specs.Utf8.{utf8}
use Rattle.format.specs.ValueSheet.{Parts, got, no, map, after, only, bytes, any, one_value, values, value_at}
use Rattle.format.proofs.SheetPlaces.{front, front2}
use Rattle.sheet.specs.Places.{EndsAt, RunEnds}

abbrev ReadFields : Type 0
ReadFields = ℕ → List ℕ → List ℕ → Parts Vals

abbrev ReadPayload : Type 0
ReadPayload = List ℕ → List ℕ → Parts Val

-- ---- one value

-- whatever the groups, it is one value that is read
is_one : (w b : List ℕ) (g : ℕ) → (f : ReadFields) × (h : ReadPayload) × (value_at g w b ≡ one_value f h w b)
unfolding value_at
is_one w b zero = (λ n r c. no, λ r c. no, refl)
is_one w b (suc g) = (values (value_at g), value_at g, refl)

module _ (f : ReadFields) (h : ReadPayload) (b : List ℕ) where
  one_none : one_value f h [] b ≡ no
  unfolding one_value
  one_none = refl

  one_null : (r : List ℕ) → one_value f h (0 ∷ r) b ≡ got Val.Null r b
  unfolding one_value
  one_null r = refl

  one_int : (x : ℕ) (r : List ℕ) → one_value f h (1 ∷ x ∷ r) b ≡ got (Val.Int x) r b
  unfolding one_value
  one_int x r = refl

  one_str : (x : ℕ) (r : List ℕ) → one_value f h (2 ∷ x ∷ r) b ≡ bytes Val.Str utf8 x r b
  unfolding one_value
  one_str x r = refl

  one_bytes : (x : ℕ) (r : List ℕ) → one_value f h (3 ∷ x ∷ r) b ≡ bytes Val.Bytes any x r b
  unfolding one_value
  one_bytes x r = refl

  one_ref : (x : ℕ) (r : List ℕ) → one_value f h (4 ∷ x ∷ r) b ≡ got (Val.Ref x) r b
  unfolding one_value
  one_ref x r = refl

  one_unknown : (k : ℕ) (r : List ℕ) → 6 < k → one_value f h (k ∷ r) b ≡ no
  unfolding one_value
  one_unknown zero r a = absurd (omega arith)
  one_unknown (suc zero) r a = absurd (omega arith)
  one_unknown (suc (suc zero)) r a = absurd (omega arith)
  one_unknown (suc (suc (suc zero))) r a = absurd (omega arith)
  one_unknown (suc (suc (suc (suc zero)))) r a = absurd (omega arith)
  one_unknown (suc (suc (suc (suc (suc zero))))) r a = absurd (omega arith)
  one_unknown (suc (suc (suc (suc (suc (suc zero)))))) r a = absurd (omega arith)
  one_unknown (suc (suc (suc (suc (suc (suc (suc k))))))) r a = refl

  one_short : (k : ℕ) → (k ≡ 0 → ⊥) → one_value f h (k ∷ []) b ≡ no
  unfolding one_value
  one_short zero a = absurd (a refl)
  one_short (suc zero) a = refl
  one_short (suc (suc zero)) a = refl
  one_short (suc (suc (suc zero))) a = refl
  one_short (suc (suc (suc (suc zero)))) a = refl
  one_short (suc (suc (suc (suc (suc zero))))) a = refl
  one_short (suc (suc (suc (suc (suc (suc zero)))))) a = refl
  one_short (suc (suc (suc (suc (suc (suc (suc k))))))) a = refl

only_no : (t : Bool) → ◌≡◌ {A = Parts Val} (only t no) no
only_no true = refl
only_no false = refl

-- without a group left, no group opens
shut : (k x : ℕ) (r b : List ℕ) → 4 < k → value_at zero (k ∷ x ∷ r) b ≡ no
unfolding value_at one_value
shut zero x r b a = absurd (omega arith)
shut (suc zero) x r b a = absurd (omega arith)
shut (suc (suc zero)) x r b a = absurd (omega arith)
shut (suc (suc (suc zero))) x r b a = absurd (omega arith)
shut (suc (suc (suc (suc zero)))) x r b a = absurd (omega arith)
shut (suc (suc (suc (suc (suc zero))))) x r b a = refl
shut (suc (suc (suc (suc (suc (suc zero)))))) x r b a = only_no (ltb x (2 ^ 32))
shut (suc (suc (suc (suc (suc (suc (suc k))))))) x r b a = refl

opened_record : (g x : ℕ) (r b : List ℕ) → value_at (suc g) (5 ∷ x ∷ r) b ≡ map Val.Record (values (value_at g) x r b)
unfolding value_at one_value
opened_record g x r b = refl

opened_union : (g x : ℕ) (r b : List ℕ) → value_at (suc g) (6 ∷ x ∷ r) b ≡ only (ltb x (2 ^ 32)) (map (Val.Union x) (value_at g r b))
unfolding value_at one_value
opened_union g x r b = refl

-- bytes of the pool
module _ (f : List ℕ → Val) (t : List ℕ → Bool) (x : ℕ) (r b : List ℕ) where
  bytes_over : length b < x → bytes f t x r b ≡ no
  bytes_over h = rw (lt-leb x (length b) h)

  bytes_in : x ≤ length b → t (take x b) ≡ true → bytes f t x r b ≡ got (f (take x b)) r (drop x b)
  bytes_in h u = rw (le-leb x (length b) h, u)

  bytes_bad : x ≤ length b → t (take x b) ≡ false → bytes f t x r b ≡ no
  bytes_bad h u = rw (le-leb x (length b) h, u)

-- a group ends where its fields or its payload do, and a run where what follows its first does
ends_map : {A B : Type 0} (f : A → B) (w b : List ℕ) (low high from used r q : ℕ) (x : Parts A) → low ≤ high → from ≤ used → EndsAt w b high used x r q → EndsAt w b low from (map f x) r q
ends_map f w b low high from used r q (got a s c) h k e = (e.0, e.1, omega (arith, e.2), e.3, omega (arith, e.4), e.5)
ends_map f w b low high from used r q no h k e = e

module _ (w b : List ℕ) (at from g : ℕ) where
  abbrev Finds : ℕ → ℕ → Type 0
  Finds r q = EndsAt w b (at + 1) from (value_at g (drop at w) (drop from b)) r q

  finds : (r q : ℕ) (x : Parts Val) → value_at g (drop at w) (drop from b) ≡ x → EndsAt w b (at + 1) from x r q → Finds r q
  finds r q x e h = subst (λ (y : Parts Val). EndsAt w b (at + 1) from y r q) (sym e) h

  pub none_left : (q : ℕ) → length w ≤ at → Finds 0 q
  none_left q h =
      let o = is_one [] (drop from b) g in
      finds 0 q no (ap (λ (l : List ℕ). value_at g l (drop from b)) (drop_of_length-le w h) ∙ o.2 ∙ one_none o.0 o.1 (drop from b)) refl

  opens : (l : List ℕ) → drop at w ≡ l → (f : ReadFields) × (h : ReadPayload) × (value_at g (drop at w) (drop from b) ≡ one_value f h l (drop from b))
  opens l e = let o = is_one l (drop from b) g in (o.0, o.1, ap (λ (m : List ℕ). value_at g m (drop from b)) e ∙ o.2)

  module _ (here : at < length w) where
    one_word : (k : ℕ) (r : List ℕ) → get_or w at 0 ≡ k → drop (at + 1) w ≡ r → drop at w ≡ k ∷ r
    one_word k r e d = cc (front w at here)

    pub null : get_or w at 0 ≡ 0 → from ≤ length b → Finds (at + 1) from
    null k h =
        let o = opens (0 ∷ drop (at + 1) w) (one_word 0 (drop (at + 1) w) k refl) in
        finds (at + 1) from _ (o.2 ∙ one_null o.0 o.1 (drop from b) (drop (at + 1) w)) (refl, refl, omega arith, omega arith, omega arith, h)

    pub short : (q : ℕ) → (get_or w at 0 ≡ 0 → ⊥) → length w - at < 2 → Finds 0 q
    short q a l =
        let end : length w ≤ at + 1 = omega arith in
        let o = opens (get_or w at 0 ∷ []) (one_word (get_or w at 0) [] refl (drop_of_length-le w end)) in
        finds 0 q no (o.2 ∙ one_short o.0 o.1 (drop from b) (get_or w at 0) a) refl

  -- the second word, and the words behind it
  abbrev more : ℕ
  more = get_or w (at + 1) 0

  abbrev behind : List ℕ
  behind = drop (at + 2) w

  module _ (here : at < length w) (two : 2 ≤ length w - at) where
    opens2 : (k : ℕ) → get_or w at 0 ≡ k → (f : ReadFields) × (h : ReadPayload) × (value_at g (drop at w) (drop from b) ≡ one_value f h (k ∷ more ∷ behind) (drop from b))
    opens2 k e =
        let next : at + 1 < length w = omega arith in
        let same : drop at w ≡ k ∷ more ∷ behind = cc (front2 w at next) in
        opens (k ∷ more ∷ behind) same

    pub integer : get_or w at 0 ≡ 1 → from ≤ length b → Finds (at + 2) from
    integer k h = let o = opens2 1 k in finds (at + 2) from _ (o.2 ∙ one_int o.0 o.1 (drop from b) more behind) (refl, refl, omega arith, omega arith, omega arith, h)

    pub reference : get_or w at 0 ≡ 4 → from ≤ length b → Finds (at + 2) from
    reference k h = let o = opens2 4 k in finds (at + 2) from _ (o.2 ∙ one_ref o.0 o.1 (drop from b) more behind) (refl, refl, omega arith, omega arith, omega arith, h)

    is_str : get_or w at 0 ≡ 2 → value_at g (drop at w) (drop from b) ≡ bytes Val.Str utf8 more behind (drop from b)
    is_str k = let o = opens2 2 k in o.2 ∙ one_str o.0 o.1 (drop from b) more behind

    is_bytes : get_or w at 0 ≡ 3 → value_at g (drop at w) (drop from b) ≡ bytes Val.Bytes any more behind (drop from b)
    is_bytes k = let o = opens2 3 k in o.2 ∙ one_bytes o.0 o.1 (drop from b) more behind

    run_over : (q : ℕ) → 1 < get_or w at 0 → get_or w at 0 < 4 → length b - from < more → Finds 0 q
    run_over q low high h =
        let l : length (drop from b) < more = omega (arith, length-drop from b) in
        go (leb (get_or w at 0) 2) refl l
      where
        go : (t : Bool) → leb (get_or w at 0) 2 ≡ t → length (drop from b) < more → Finds 0 q
        go true e l =
            let k : get_or w at 0 ≡ 2 = omega (arith, leb-true (get_or w at 0) 2 e) in
            finds 0 q no (is_str k ∙ bytes_over Val.Str utf8 more behind (drop from b) l) refl
        go false e l =
            let k : get_or w at 0 ≡ 3 = omega (arith, leb-false (get_or w at 0) 2 e) in
            finds 0 q no (is_bytes k ∙ bytes_over Val.Bytes any more behind (drop from b) l) refl

    module _ (fits : more ≤ length b - from) (start : from ≤ length b) where
      room : more ≤ length (drop from b)
      room = omega (arith, length-drop from b)

      ends_run : (f : List ℕ → Val) → value_at g (drop at w) (drop from b) ≡ got (f (take more (drop from b))) behind (drop more (drop from b)) → Finds (at + 2) (from + more)
      ends_run f e = finds (at + 2) (from + more) _ e (refl, drop-drop more from b, omega arith, omega arith, omega arith, omega arith)

      run_raw : get_or w at 0 ≡ 3 → Finds (at + 2) (from + more)
      run_raw k = ends_run Val.Bytes (is_bytes k ∙ bytes_in Val.Bytes any more behind (drop from b) room refl)

      run_text : get_or w at 0 ≡ 2 → utf8 (take more (drop from b)) ≡ true → Finds (at + 2) (from + more)
      run_text k t = ends_run Val.Str (is_str k ∙ bytes_in Val.Str utf8 more behind (drop from b) room t)

      run_bad : (q : ℕ) → get_or w at 0 ≡ 2 → utf8 (take more (drop from b)) ≡ false → Finds 0 q
      run_bad q k t = finds 0 q no (is_str k ∙ bytes_bad Val.Str utf8 more behind (drop from b) room t) refl

  module _ (here : at < length w) (two : 2 ≤ length w - at) (n4 : get_or w at 0 ≡ 4 → ⊥) (up : 4 ≤ get_or w at 0) where
    group : 4 < get_or w at 0
    group = omega arith

    opens3 : (k n : ℕ) → get_or w at 0 ≡ k → g ≡ n → value_at g (drop at w) (drop from b) ≡ value_at n (k ∷ more ∷ behind) (drop from b)
    opens3 k n e d =
        let next : at + 1 < length w = omega arith in
        cc (front2 w at next)

    pub too_deep : (q : ℕ) → g ≡ 0 → Finds 0 q
    too_deep q z = finds 0 q no (opens3 (get_or w at 0) 0 refl z ∙ shut (get_or w at 0) more behind (drop from b) group) refl

    pub unknown : (q : ℕ) → 6 < get_or w at 0 → Finds 0 q
    unknown q k =
        let o = opens (get_or w at 0 ∷ drop (at + 1) w) (front w at here) in
        finds 0 q no (o.2 ∙ one_unknown o.0 o.1 (drop from b) (get_or w at 0) (drop (at + 1) w) k) refl

    module _ (gz : g ≡ 0 → ⊥) where
      pub record_end : (r q : ℕ) → get_or w at 0 ≡ 5 → EndsAt w b (at + 2 + more) from (values (value_at (g - 1)) more behind (drop from b)) r q → Finds r q
      record_end r q k e =
          let s : g ≡ suc (g - 1) = omega arith in
          finds r q (map Val.Record (values (value_at (g - 1)) more behind (drop from b)))
          (opens3 5 (suc (g - 1)) k s ∙ opened_record (g - 1) more behind (drop from b))
          (ends_map Val.Record w b (at + 1) (at + 2 + more) from from r q (values (value_at (g - 1)) more behind (drop from b)) (omega arith) (omega arith) e)

      module _ (n5 : get_or w at 0 ≡ 5 → ⊥) (top : get_or w at 0 ≤ 6) where
        is_union : (t : Bool) → ltb more (2 ^ 32) ≡ t → value_at g (drop at w) (drop from b) ≡ only t (map (Val.Union more) (value_at (g - 1) behind (drop from b)))
        is_union t e =
            let s : g ≡ suc (g - 1) = omega arith in
            let k : get_or w at 0 ≡ 6 = omega (arith, group) in
            opens3 6 (suc (g - 1)) k s ∙ opened_union (g - 1) more behind (drop from b) ∙ ap (λ (u : Bool). only u (map (Val.Union more) (value_at (g - 1) behind (drop from b)))) e

        pub big_tag : (q : ℕ) → 2 ^ 32 ≤ more → Finds 0 q
        big_tag q h = finds 0 q no (is_union false (le-ltb more (2 ^ 32) h)) refl

        pub payload : (r q : ℕ) → more < 2 ^ 32 → EndsAt w b (at + 2 + 1) from (value_at (g - 1) behind (drop from b)) r q → Finds r q
        payload r q h e =
            finds r q (map (Val.Union more) (value_at (g - 1) behind (drop from b))) (is_union true (lt-ltb more (2 ^ 32) h))
            (ends_map (Val.Union more) w b (at + 1) (at + 2 + 1) from from r q (value_at (g - 1) behind (drop from b)) (omega arith) (omega arith) e)

-- a Str or Bytes ends alike whatever the groups
module _ (w b : List ℕ) (at from : ℕ) (next : at + 1 < length w) (low : 1 < get_or w at 0) (high : get_or w at 0 < 4) where
  pub over : (q : ℕ) → length b - from < get_or w (at + 1) 0 → RunEnds w b at from 0 q
  over q h = record { ends = λ g. run_over w b at from g (omega arith) (omega arith) q low high h }

  module _ (fits : get_or w (at + 1) 0 ≤ length b - from) (start : from ≤ length b) where
    pub raw : get_or w at 0 ≡ 3 → RunEnds w b at from (at + 2) (from + get_or w (at + 1) 0)
    raw k = record { ends = λ g. run_raw w b at from g (omega arith) (omega arith) fits start k }

    module _ (k3 : get_or w at 0 ≡ 3 → ⊥) (ok : Bool) (is : ok ≡ utf8 (take (from + get_or w (at + 1) 0 - from) (drop from b))) where
      same : ok ≡ utf8 (take (get_or w (at + 1) 0) (drop from b))
      same =
          let e : from + get_or w (at + 1) 0 - from ≡ get_or w (at + 1) 0 = omega arith in
          is ∙ ap (λ (n : ℕ). utf8 (take n (drop from b))) e

      pub text : ok ≡ true → RunEnds w b at from (at + 2) (from + get_or w (at + 1) 0)
      text t =
          let k : get_or w at 0 ≡ 2 = omega arith in
          record { ends = λ g. run_text w b at from g (omega arith) (omega arith) fits start k (sym same ∙ t) }

      pub no_text : (q : ℕ) → ok ≡ false → RunEnds w b at from 0 q
      no_text q t =
          let k : get_or w at 0 ≡ 2 = omega arith in
          record { ends = λ g. run_bad w b at from g (omega arith) (omega arith) fits start q k (sym same ∙ t) }

-- ---- runs of values

-- `count` values from `at` and `from` on end at r and q
abbrev Fits : List ℕ → List ℕ → ℕ → ℕ → ℕ → ℕ → ℕ → ℕ → Type 0
Fits w b g at from count r q = EndsAt w b (at + count) from (values (value_at g) count (drop at w) (drop from b)) r q

-- of `count` values from `at` and `from` on, the first k end before `place` and `used`: all end where those behind them do
pub record Fields (w b : List ℕ) (at from count g k place used : ℕ) : Type 0 where
  pub high : place ≤ length w
  pub until : used ≤ length b
  pub ends : (r q : ℕ) → Fits w b g place used (count - k) r q → Fits w b g at from count r q

pub fields_start : (w b : List ℕ) (at from count g : ℕ) → at ≤ length w → from ≤ length b → Fields w b at from count g 0 at from
fields_start w b at from count g h k = record { high = h; until = k; ends = λ r q e. subst (λ (n : ℕ). Fits w b g at from n r q) (omega arith) e }

module _ {w b : List ℕ} {at from count g k place used : ℕ} (f : Fields w b at from count g k place used) where
  ends_as : (n r q : ℕ) → n ≡ count - k → Fits w b g place used n r q → Fits w b g at from count r q
  ends_as n r q l h = f.ends r q (subst (λ (m : ℕ). Fits w b g place used m r q) l h)

  pub fields_done : k ≤ count → count ≤ k → Fits w b g at from count place used
  unfolding values
  fields_done l h = ends_as 0 place used (omega arith) (refl, refl, omega arith, f.high, omega arith, f.until)

  module _ (r q : ℕ) (more : k < count) where
    -- the run that is left, by what its next value is
    abbrev Then : Parts Val → ℕ → ℕ → Type 0
    Then x = EndsAt w b (place + suc (count - (k + 1))) used (after x (λ v s c. map (Vals.AddVal v) (values (value_at g) (count - (k + 1)) s c)))

    missed : (u : ℕ) (x : Parts Val) → EndsAt w b (place + 1) used x r q → r ≡ 0 → Then x 0 u
    missed u (got v s c) e z = absurd (omega (arith, e.2))
    missed u no e z = refl

    passed : (x : Parts Val) → EndsAt w b (place + 1) used x r q → (r ≡ 0 → ⊥) → (r ≤ length w) × (q ≤ length b) × ((n m : ℕ) → Fits w b g r q (count - (k + 1)) n m → Then x n m)
    passed (got v s c) e z =
        let left : ℕ = count - (k + 1) in
        let rest = values (value_at g) left in
        let same : rest (drop r w) (drop q b) ≡ rest s c = cc (e.0, e.1) in
        let ends : (n m : ℕ) → Fits w b g r q left n m → EndsAt w b (r + left) q (rest s c) n m = λ n m h. subst (λ (x : Parts Vals). EndsAt w b (r + left) q x n m) same h in
        (e.3, e.5, λ n m h. ends_map (Vals.AddVal v) w b (place + suc left) (r + left) used q n m (rest s c) (omega (arith, e.2)) e.4 (ends n m h))
    passed no e z = absurd (z e)

    module _ (e : EndsAt w b (place + 1) used (value_at g (drop place w) (drop used b)) r q) where
      pub fields_fail : r ≡ 0 → Fits w b g at from count 0 0
      unfolding values
      fields_fail z = ends_as (suc (count - (k + 1))) 0 0 (omega arith) (missed 0 (value_at g (drop place w) (drop used b)) e z)

      pub fields_go : (r ≡ 0 → ⊥) → Fields w b at from count g (k + 1) r q
      unfolding values
      fields_go z =
          let n = passed (value_at g (drop place w) (drop used b)) e z in
          record { high = n.0; until = n.1; ends = λ m j h. ends_as (suc (count - (k + 1))) m j (omega arith) (n.2 m j h) }

-- What each step of the walk over a type sheet finds.
use Prim.Native.Nat.{ℕ, zero, suc, ◌+◌, ◌-◌, ◌≤◌, ◌<◌}
use mathlib.Core.List.{List, [], ◌∷◌}
use mathlib.Core.Bool.{Bool}
use mathlib.Core.Logic.{◌≢◌}
use mathlib.Core.Path.{◌≡◌, refl, ap, sym, ◌∙◌, subst}
use native.Mathlib.Omega.{arith}
use borrow.Author.Tests.{ne_eqb}
use lib.ListN.{length, drop, get_or, drop_of_length-le}
use Rattle.format.specs.Tree.{Ty, Tys, Alts}
use Rattle.format.specs.TypeSheet.{Part, got, no, map, after, one_type, types, alts, any_type, type_at}
use Rattle.format.proofs.SheetPlaces.{front, front2}
use Rattle.format.proofs.Tests.{Test, holds, fails, eqb_test}
use Rattle.std.specs.Prelude.{Option, Some, None}
use Rattle.std.proofs.lemmas.Option.{none-some}
use Rattle.sheet.specs.Places.{Ends}

-- ---- one type

-- whatever the groups, it is one type that is read: as it stands, or behind word 7
record One (g : ℕ) : Type 0 where
  f : ℕ → List ℕ → Part Tys
  h : ℕ → List ℕ → Part Alts
  empty : type_at g [] ≡ no
  plain : (k : ℕ) (r : List ℕ) → (k ≡ 7 → ⊥) → type_at g (k ∷ r) ≡ one_type f h (k ∷ r)
  optional : (r : List ℕ) → type_at g (7 ∷ r) ≡ map Ty.Optional (one_type f h r)

one : (g : ℕ) → One g
unfolding type_at any_type
one zero = record { f = λ n r. no; h = λ n r. no; empty = refl; plain = λ k r n. rw (ne_eqb k 7 n); optional = λ r. refl }
one (suc g) = record { f = types (type_at g); h = alts (type_at g); empty = refl; plain = λ k r n. rw (ne_eqb k 7 n); optional = λ r. refl }

module _ (f : ℕ → List ℕ → Part Tys) (h : ℕ → List ℕ → Part Alts) where
  one_none : one_type f h [] ≡ no
  unfolding one_type
  one_none = refl

  one_zero : (r : List ℕ) → one_type f h (0 ∷ r) ≡ no
  unfolding one_type
  one_zero r = refl

  one_ref : (p : ℕ) (r : List ℕ) → one_type f h (4 ∷ p ∷ r) ≡ got (Ty.Ref p) r
  unfolding one_type
  one_ref p r = refl

  one_scalar : (k : ℕ) (r : List ℕ) → (k ≡ 0 → ⊥) → k < 4 → (t : Ty) × (one_type f h (k ∷ r) ≡ got t r)
  unfolding one_type
  one_scalar zero r a b = absurd (a refl)
  one_scalar (suc zero) r a b = (Ty.Int, refl)
  one_scalar (suc (suc zero)) r a b = (Ty.Str, refl)
  one_scalar (suc (suc (suc zero))) r a b = (Ty.Bytes, refl)
  one_scalar (suc (suc (suc (suc k)))) r a b = absurd (omega arith)

  one_unknown : (k : ℕ) (r : List ℕ) → 6 < k → one_type f h (k ∷ r) ≡ no
  unfolding one_type
  one_unknown zero r a = absurd (omega arith)
  one_unknown (suc zero) r a = absurd (omega arith)
  one_unknown (suc (suc zero)) r a = absurd (omega arith)
  one_unknown (suc (suc (suc zero))) r a = absurd (omega arith)
  one_unknown (suc (suc (suc (suc zero)))) r a = absurd (omega arith)
  one_unknown (suc (suc (suc (suc (suc zero))))) r a = absurd (omega arith)
  one_unknown (suc (suc (suc (suc (suc (suc zero)))))) r a = absurd (omega arith)
  one_unknown (suc (suc (suc (suc (suc (suc (suc k))))))) r a = refl

  one_short : (k : ℕ) → 4 ≤ k → one_type f h (k ∷ []) ≡ no
  unfolding one_type
  one_short zero a = absurd (omega arith)
  one_short (suc zero) a = absurd (omega arith)
  one_short (suc (suc zero)) a = absurd (omega arith)
  one_short (suc (suc (suc zero))) a = absurd (omega arith)
  one_short (suc (suc (suc (suc zero)))) a = refl
  one_short (suc (suc (suc (suc (suc zero))))) a = refl
  one_short (suc (suc (suc (suc (suc (suc zero)))))) a = refl
  one_short (suc (suc (suc (suc (suc (suc (suc k))))))) a = refl

-- without a group left, no group opens
shut : (k n : ℕ) (r : List ℕ) → 4 < k → one_type (λ m q. no) (λ m q. no) (k ∷ n ∷ r) ≡ no
unfolding one_type
shut zero n r a = absurd (omega arith)
shut (suc zero) n r a = absurd (omega arith)
shut (suc (suc zero)) n r a = absurd (omega arith)
shut (suc (suc (suc zero))) n r a = absurd (omega arith)
shut (suc (suc (suc (suc zero)))) n r a = absurd (omega arith)
shut (suc (suc (suc (suc (suc zero))))) n r a = refl
shut (suc (suc (suc (suc (suc (suc zero)))))) n r a = refl
shut (suc (suc (suc (suc (suc (suc (suc k))))))) n r a = refl

none_opens : (k n : ℕ) (r : List ℕ) → 4 < k → (k ≡ 7 → ⊥) → type_at zero (k ∷ n ∷ r) ≡ no
unfolding type_at any_type
none_opens k n r a m = rw (ne_eqb k 7 m) (shut k n r a)

opened : (g n : ℕ) (r : List ℕ) → (type_at (suc g) (5 ∷ n ∷ r) ≡ map Ty.Record (types (type_at g) n r)) × (type_at (suc g) (6 ∷ n ∷ r) ≡ map Ty.Union (alts (type_at g) n r))
unfolding type_at any_type one_type
opened g n r = (refl, refl)

two_words : (w : List ℕ) (at k : ℕ) → get_or w at 0 ≡ k → at + 1 < length w → drop at w ≡ k ∷ get_or w (at + 1) 0 ∷ drop (at + 2) w
two_words w at k e h = cc (front2 w at h)

-- a group ends where its fields or its alternatives do, and a run where what follows its first does
ends_map : {A B : Type 0} (f : A → B) (w : List ℕ) (low high : ℕ) (r : Option ℕ) (q : Part A) → low ≤ high → Ends w high q r → Ends w low (map f q) r
ends_map f w low high (Some r) (got a s) h e = (e.0, omega (arith, e.1), e.2)
ends_map f w low high None (got a s) h e = e
ends_map f w low high r no h e = e

module _ (w : List ℕ) (at g : ℕ) where
  abbrev Finds : Option ℕ → Type 0
  Finds r = Ends w (at + 1) (type_at g (drop at w)) r

  finds : (r : Option ℕ) (q : Part Ty) → type_at g (drop at w) ≡ q → Ends w (at + 1) q r → Finds r
  finds r q e h = subst (λ (x : Part Ty). Ends w (at + 1) x r) (sym e) h

  pub none_left : length w ≤ at → Finds None
  none_left h = finds None no (ap (type_at g) (drop_of_length-le w h) ∙ (one g).empty) refl

  module _ (here : at < length w) where
    front_is : (k : ℕ) (r : List ℕ) → get_or w at 0 ≡ k → drop (at + 1) w ≡ r → drop at w ≡ k ∷ r
    front_is k r e d = cc (front w at here)

    opens : (k : ℕ) (r : List ℕ) → (k ≡ 7 → ⊥) → get_or w at 0 ≡ k → drop (at + 1) w ≡ r → (f : ℕ → List ℕ → Part Tys) × (h : ℕ → List ℕ → Part Alts) × (type_at g (drop at w) ≡ one_type f h (k ∷ r))
    opens k r n e d = let o = one g in (o.f, o.h, ap (type_at g) (front_is k r e d) ∙ o.plain k r n)

    pub zero_kind : get_or w at 0 ≡ 0 → Finds None
    zero_kind k = let o = opens 0 (drop (at + 1) w) (λ z. omega arith) k refl in finds None no (o.2 ∙ one_zero o.0 o.1 (drop (at + 1) w)) refl

    pub scalar : (get_or w at 0 ≡ 0 → ⊥) → get_or w at 0 < 4 → Finds (Some (at + 1))
    scalar a b =
        let o = opens (get_or w at 0) (drop (at + 1) w) (λ z. omega arith) refl refl in
        let s = one_scalar o.0 o.1 (get_or w at 0) (drop (at + 1) w) a b in
        finds (Some (at + 1)) (got s.0 (drop (at + 1) w)) (o.2 ∙ s.1) (refl, omega arith, omega arith)

    pub short : 4 ≤ get_or w at 0 → length w - at < 2 → Finds None
    short a b = go (eqb_test (get_or w at 0) 7)
      where
        end : drop (at + 1) w ≡ []
        end = let l : length w ≤ at + 1 = omega arith in drop_of_length-le w l

        go : {c : Bool} → Test (get_or w at 0 ≡ 7) (get_or w at 0 ≢ 7) c → Finds None
        go (holds q) = let o = one g in finds None no (ap (type_at g) (front_is 7 [] q end) ∙ o.optional [] ∙ ap (map Ty.Optional) (one_none o.f o.h)) refl
        go (fails n) = let o = opens (get_or w at 0) [] n refl end in finds None no (o.2 ∙ one_short o.0 o.1 (get_or w at 0) a) refl

    pub reference : 2 ≤ length w - at → get_or w at 0 ≡ 4 → Finds (Some (at + 2))
    reference next a =
        let o = one g in
        let q = o.plain 4 (get_or w (at + 1) 0 ∷ drop (at + 2) w) (λ z. omega arith) ∙ one_ref o.f o.h (get_or w (at + 1) 0) (drop (at + 2) w) in
        finds (Some (at + 2)) _ (ap (type_at g) (two_words w at 4 a (omega arith)) ∙ q) (refl, omega arith, omega arith)

  module _ (next : at + 1 < length w) (group : 4 < get_or w at 0) where
    opens2 : (k n : ℕ) → get_or w at 0 ≡ k → g ≡ n → type_at g (drop at w) ≡ type_at n (k ∷ get_or w (at + 1) 0 ∷ drop (at + 2) w)
    opens2 k n e d = cc (two_words w at k e next)

    -- behind word 7 no other stands, and its type ends where that without the word does
    behind : get_or w at 0 ≡ 7 → type_at g (drop at w) ≡ map Ty.Optional (one_type (one g).f (one g).h (get_or w (at + 1) 0 ∷ drop (at + 2) w))
    behind q = ap (type_at g) (two_words w at 7 q next) ∙ (one g).optional (get_or w (at + 1) 0 ∷ drop (at + 2) w)

    pub optional_end : get_or w at 0 ≡ 7 → (get_or w (at + 1) 0 ≡ 7 → ⊥) → (r : Option ℕ) → Ends w (at + 1 + 1) (type_at g (drop (at + 1) w)) r → Finds r
    optional_end q n r e =
        let o = one g in
        let m : at + 1 + 1 ≡ at + 2 = omega arith in
        let p = one_type o.f o.h (get_or w (at + 1) 0 ∷ drop (at + 2) w) in
        let inner : type_at g (drop (at + 1) w) ≡ p = ap (type_at g) (rw m at (front w (at + 1) next)) ∙ o.plain (get_or w (at + 1) 0) (drop (at + 2) w) n in
        finds r (map Ty.Optional p) (behind q) (ends_map Ty.Optional w (at + 1) (at + 1 + 1) r p (omega arith) (subst (λ (x : Part Ty). Ends w (at + 1 + 1) x r) inner e))

    pub seven_twice : get_or w at 0 ≡ 7 → get_or w (at + 1) 0 ≡ 7 → Finds None
    seven_twice q n = finds None no (behind q ∙ ap (map Ty.Optional) (one_unknown (one g).f (one g).h (get_or w (at + 1) 0) (drop (at + 2) w) (omega arith))) refl

    pub too_deep : (get_or w at 0 ≡ 7 → ⊥) → g ≡ 0 → Finds None
    too_deep n z = finds None no (opens2 (get_or w at 0) 0 refl z ∙ none_opens (get_or w at 0) (get_or w (at + 1) 0) (drop (at + 2) w) group n) refl

    pub unknown : (get_or w at 0 ≡ 7 → ⊥) → (get_or w at 0 ≡ 5 → ⊥) → (get_or w at 0 ≡ 6 → ⊥) → Finds None
    unknown n c d =
        let o = opens (omega arith) (get_or w at 0) (drop (at + 1) w) n refl refl in
        finds None no (o.2 ∙ one_unknown o.0 o.1 (get_or w at 0) (drop (at + 1) w) (omega arith)) refl

    module _ (gz : g ≡ 0 → ⊥) (r : Option ℕ) where
      pub record_end : get_or w at 0 ≡ 5 → Ends w (at + 2) (types (type_at (g - 1)) (get_or w (at + 1) 0) (drop (at + 2) w)) r → Finds r
      record_end k e =
          let s : g ≡ suc (g - 1) = omega arith in
          let q = types (type_at (g - 1)) (get_or w (at + 1) 0) (drop (at + 2) w) in
          finds r (map Ty.Record q) (opens2 5 (suc (g - 1)) k s ∙ (opened (g - 1) (get_or w (at + 1) 0) (drop (at + 2) w)).0) (ends_map Ty.Record w (at + 1) (at + 2) r q (omega arith) e)

      pub union_end_lem : get_or w at 0 ≡ 6 → Ends w (at + 2) (alts (type_at (g - 1)) (get_or w (at + 1) 0) (drop (at + 2) w)) r → Finds r
      union_end_lem k e =
          let s : g ≡ suc (g - 1) = omega arith in
          let q = alts (type_at (g - 1)) (get_or w (at + 1) 0) (drop (at + 2) w) in
          finds r (map Ty.Union q) (opens2 6 (suc (g - 1)) k s ∙ (opened (g - 1) (get_or w (at + 1) 0) (drop (at + 2) w)).1) (ends_map Ty.Union w (at + 1) (at + 2) r q (omega arith) e)

-- no group behind word 7
module _ (w : List ℕ) (at g : ℕ) (next : at + 1 < length w) (seven : get_or w at 0 ≡ 7) where
  pub optional_zero : get_or w (at + 1) 0 ≡ 0 → Ends w (at + 1) (type_at g (drop at w)) None
  optional_zero k = optional_end w at g next (omega arith) seven (λ z. omega arith) None (zero_kind w (at + 1) g next k)

  pub optional_scalar : (get_or w (at + 1) 0 ≡ 0 → ⊥) → get_or w (at + 1) 0 < 4 → Ends w (at + 1) (type_at g (drop at w)) (Some (at + 2))
  optional_scalar a b =
      let m : at + 1 + 1 ≡ at + 2 = omega arith in
      optional_end w at g next (omega arith) seven (λ z. omega arith) (Some (at + 2)) (subst (λ (r : ℕ). Ends w (at + 1 + 1) (type_at g (drop (at + 1) w)) (Some r)) m (scalar w (at + 1) g next a b))

  pub optional_short : (get_or w (at + 1) 0 ≡ 7 → ⊥) → 4 ≤ get_or w (at + 1) 0 → length w - at < 3 → Ends w (at + 1) (type_at g (drop at w)) None
  optional_short n a b = optional_end w at g next (omega arith) seven n None (short w (at + 1) g next a (omega arith))

  pub optional_reference : 3 ≤ length w - at → get_or w (at + 1) 0 ≡ 4 → Ends w (at + 1) (type_at g (drop at w)) (Some (at + 3))
  optional_reference a b =
      let m : at + 1 + 2 ≡ at + 3 = omega arith in
      optional_end w at g next (omega arith) seven (λ z. omega arith) (Some (at + 3)) (subst (λ (r : ℕ). Ends w (at + 1 + 1) (type_at g (drop (at + 1) w)) (Some r)) m (reference w (at + 1) g next (omega arith) b))

-- ---- runs of types and of alternatives

-- of a run of `count` from `at` on, the first k end before `place`: all end where those behind them do
pub record Run {A : Type 0} (read : ℕ → List ℕ → Part A) (w : List ℕ) (at count k place : ℕ) : Type 0 where
  pub low : at ≤ place
  pub high : place ≤ length w
  pub ends : (r : Option ℕ) → Ends w place (read (count - k) (drop place w)) r → Ends w at (read count (drop at w)) r

pub run_start_lem : {A : Type 0} (read : ℕ → List ℕ → Part A) (w : List ℕ) (at count : ℕ) → at ≤ length w → Run read w at count 0 at
run_start_lem read w at count h = record { low = omega arith; high = h; ends = λ r e. subst (λ (n : ℕ). Ends w at (read n (drop at w)) r) (omega arith) e }

module _ {A : Type 0} {read : ℕ → List ℕ → Part A} {w : List ℕ} {at count k place : ℕ} (f : Run read w at count k place) where
  abbrev Fits : Option ℕ → Type 0
  Fits r = Ends w at (read count (drop at w)) r

  ends_as : (n : ℕ) (r : Option ℕ) (x : Part A) → count - k ≡ n → read n (drop place w) ≡ x → Ends w place x r → Fits r
  ends_as n r x l is h =
      let same : x ≡ read (count - k) (drop place w) = cc (l, is) in
      f.ends r (subst (λ (y : Part A). Ends w place y r) same h)

  run_done : (none : A) → read 0 (drop place w) ≡ got none (drop place w) → k ≡ count → Fits (Some place)
  run_done none is h = ends_as 0 (Some place) _ (omega arith) is (refl, omega arith, f.high)

  module _ (more : k < count) where
    run_out : read (suc (count - (k + 1))) (drop place w) ≡ no → Fits None
    run_out is = ends_as (suc (count - (k + 1))) None no (omega arith) is refl

    -- the next type is q, at `p`, and the run ends where the rest behind it does
    module _ (p : ℕ) (add : Ty → A → A) where
      abbrev then : Part Ty → Part A
      then q = after q (λ t s. map (add t) (read (count - (k + 1)) s))

      run_fail : (q : Part Ty) → read (suc (count - (k + 1))) (drop place w) ≡ then q → Ends w (p + 1) q None → Fits None
      run_fail (got t s) is e = absurd e
      run_fail no is e = run_out is

      run_go : (q : Part Ty) → read (suc (count - (k + 1))) (drop place w) ≡ then q → place ≤ p → (r : ℕ) → Ends w (p + 1) q (Some r) → Run read w at count (k + 1) r
      run_go (got t s) is l r e =
          record {
            low = omega (arith, f.low, e.1);
            high = e.2;
            ends = λ n h.
                ends_as (suc (count - (k + 1))) n _ (omega arith) is
                (ends_map (add t) w place r n (read (count - (k + 1)) s) (omega (arith, e.1)) (subst (λ (x : List ℕ). Ends w r (read (count - (k + 1)) x) n) (sym e.0) h));
          }
      run_go no is l r e = absurd (none-some r (sym e))

module _ (g : ℕ) {w : List ℕ} {at count k place : ℕ} (f : Run (types (type_at g)) w at count k place) where
  pub fields_done : k ≤ count → count ≤ k → Ends w at (types (type_at g) count (drop at w)) (Some place)
  unfolding types
  fields_done l h = run_done f Tys.NoTy refl (omega arith)

  module _ (more : k < count) where
    pub fields_fail : Ends w (place + 1) (type_at g (drop place w)) None → Ends w at (types (type_at g) count (drop at w)) None
    unfolding types
    fields_fail e = run_fail f more place Tys.AddTy (type_at g (drop place w)) refl e

    pub fields_go : {r : ℕ} → Ends w (place + 1) (type_at g (drop place w)) (Some r) → Run (types (type_at g)) w at count (k + 1) r
    unfolding types
    fields_go {r} e = run_go f more place Tys.AddTy (type_at g (drop place w)) refl (omega arith) r e

module _ (g : ℕ) {w : List ℕ} {at count k place : ℕ} (f : Run (alts (type_at g)) w at count k place) where
  pub alts_done : k ≤ count → count ≤ k → Ends w at (alts (type_at g) count (drop at w)) (Some place)
  unfolding alts
  alts_done l h = run_done f Alts.NoAlt refl (omega arith)

  module _ (more : k < count) where
    pub alts_out : length w ≤ place → Ends w at (alts (type_at g) count (drop at w)) None
    unfolding alts
    alts_out h = run_out f more (ap (alts (type_at g) (suc (count - (k + 1)))) (drop_of_length-le w h))

    module _ (here : place < length w) where
      abbrev add : Ty → Alts → Alts
      add = Alts.AddAlt (get_or w place 0)

      one_alt : alts (type_at g) (suc (count - (k + 1))) (drop place w) ≡ after (type_at g (drop (place + 1) w)) (λ t s. map (add t) (alts (type_at g) (count - (k + 1)) s))
      unfolding alts
      one_alt = ap (alts (type_at g) (suc (count - (k + 1)))) (front w place here)

      pub alts_fail : Ends w (place + 1 + 1) (type_at g (drop (place + 1) w)) None → Ends w at (alts (type_at g) count (drop at w)) None
      alts_fail e = run_fail f more (place + 1) add (type_at g (drop (place + 1) w)) one_alt e

      pub alts_go : {r : ℕ} → Ends w (place + 1 + 1) (type_at g (drop (place + 1) w)) (Some r) → Run (alts (type_at g)) w at count (k + 1) r
      alts_go {r} e = run_go f more (place + 1) add (type_at g (drop (place + 1) w)) one_alt (omega arith) r e

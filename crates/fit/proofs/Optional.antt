-- What the walk says under an optional type: a blank is one word; any other value goes by the type behind word 7. So a value of its type's kind goes by the type itself.
use mathlib.Core.Logic.{◌≢◌}
use mathlib.Core.Path.{◌≡◌, refl, sym, ◌∙◌, subst}
use mathlib.Core.List.{List}
use mathlib.Core.Bool.{Bool, true}
use Prim.Native.Nat.{ℕ, zero, suc, ◌+◌, ◌≤◌, ◌<◌}
use native.Mathlib.Omega.{arith}
use borrow.Author.Tests.{eq-eqb, ne_eqb, lt-ltb}
use lib.ListN.{length, get_or}
use Rattle.std.specs.Prelude.{Ok, Err}
use Rattle.format.specs.Tree.{Ty, Val, val_kind}
use Rattle.format.specs.Sheet.{val_words, val_pool}
use Rattle.format.specs.Encode.{null_bytes, val_bytes, fits}
use Rattle.format.proofs.ValuePlaces as values
use Rattle.format.proofs.TypeKinds as type
use Rattle.format.proofs.KindLaws.{is_null}
use Rattle.format.proofs.Tests.{Test, holds, fails, eqb_test}
use Rattle.sheet.specs.Places.{SkipsType}
use Rattle.format.specs.declared.refusal.Refusal.TheVariants as made
use Rattle.fit.specs.Fit.{Outcome, placed, plain_place, Pair, Standing, FitValue}
use Rattle.fit.proofs.Steps.{value_kind, type_in_lem, plain_kind, word_in, differ}

-- ---- the place of the type itself

module _ (ty : List ℕ) (t : ℕ) where
  place_here : (get_or ty t 0 ≡ 7 → ⊥) → plain_place ty t ≡ t
  place_here n = rw (ne_eqb (get_or ty t 0) 7 n)

  place_behind : get_or ty t 0 ≡ 7 → plain_place ty t ≡ t + 1
  place_behind seven = rw (eq-eqb (get_or ty t 0) 7 seven)

-- ---- behind word 7

module _ {ty words pool : List ℕ} {t w p : ℕ} (seven : get_or ty t 0 ≡ 7) where
  filled_pair : {T : Ty} {v : Val} {e f g : ℕ} (s : Pair ty words pool t w p T v e f g) → Pair ty words pool (t + 1) w p (type.optional_here T s.type seven).filled v e f g
  filled_pair {T} s =
      let o = type.optional_here T s.type seven in
      let d = s.deep in
      record { type = o.behind; deep = omega (arith, o.deep); value = s.value }

  -- a value that is not Null goes by the type there
  peeled : (get_or words w 0 ≡ 0 → ⊥) → {depth : ℕ} {asked : Bool} {r : Outcome} → FitValue ty words pool (t + 1) w p depth asked r → FitValue ty words pool t w p depth asked r
  unfolding fits
  peeled n i =
      record {
        brief = i.brief;
        says = λ T v e f g s.
            let o = type.optional_here T s.type seven in
            rw (o.is, ne_eqb (val_kind v) 0 (λ z. n (value_kind s ∙ z))) (i.says o.filled v e f g (filled_pair s));
      }

module _ {ty words pool : List ℕ} {t w p : ℕ} (s : Standing ty words pool t w p) (seven : get_or ty t 0 ≡ 7) where
  pub behind_stands : Standing ty words pool (t + 1) w p
  behind_stands = record { T = _; v = s.v; e = s.e; f = s.f; g = s.g; here = filled_pair seven s.here; few = s.few; small = s.small }

  behind_plain : get_or ty (t + 1) 0 < 7
  behind_plain = let o = type.optional_here s.T s.here.type seven in omega (arith, type.plain_kind o.filled o.behind o.plain)

  -- a Null is one word, and one byte or two
  pub blank : get_or words w 0 ≡ 0 → {depth : ℕ} {asked : Bool} {end n : ℕ} → (asked ≡ true → SkipsType ty t end) → n ≡ length (null_bytes depth)
      → FitValue ty words pool t w p depth asked (Ok (placed end (w + 1) p n))
  unfolding fits val_bytes val_words val_pool
  blank z {depth} skip long =
      record {
        brief = (omega arith, omega (arith, word_in s), omega arith, omega (arith, s.here.value.pool.long, s.here.value.pool.within), omega (arith, short depth));
        says = λ T v e f g q.
            let null = is_null v (sym (value_kind q) ∙ z) in
            let i = subst (λ (u : Val). values.ValueIn words pool w p u f g) null q.value in
            rw ((type.optional_here T q.type seven).is, null)
            (record { answer = refl; ends = (λ h. (skip h).skips T e q.type q.deep, omega (arith, i.words.long), omega (arith, i.pool.long), long) });
      }
    where
      short : (d : ℕ) → length (null_bytes d) ≤ 2
      short zero = omega arith
      short (suc d) = rw (lt-ltb 0 (suc d) (omega arith)) (omega arith)

-- ---- a value of another kind than the type itself

module _ {ty words pool : List ℕ} {t w p : ℕ} (s : Standing ty words pool t w p) (other : get_or words w 0 ≡ get_or ty (plain_place ty t) 0 → ⊥) {depth : ℕ} {asked : Bool} where
  pub differ_here : (get_or ty t 0 ≡ 7 → ⊥) → FitValue ty words pool t w p depth asked (Err (made.TypeMismatch (get_or ty t 0)))
  differ_here n = differ (plain_kind s n) (λ z. other (rw (place_here ty t n) z))

  pub differ_behind : get_or ty t 0 ≡ 7 → (get_or words w 0 ≡ 0 → ⊥) → FitValue ty words pool t w p depth asked (Err (made.TypeMismatch (get_or ty (t + 1) 0)))
  differ_behind seven n = peeled seven n (differ (behind_plain s seven) (λ z. other (rw (place_behind ty t seven) z)))

-- ---- a value of its kind

-- the type itself stands at `at`, and the value at w is of its kind: what is said of it under that type is said of it under the type at t
pub record Matched (ty words pool : List ℕ) (t w p at : ℕ) : Type 0 where
  pub stands : Standing ty words pool at w p
  pub plain : get_or ty at 0 < 7
  pub same : get_or words w 0 ≡ get_or ty at 0
  pub back : {depth : ℕ} {asked : Bool} {r : Outcome} → FitValue ty words pool at w p depth asked r → FitValue ty words pool t w p depth asked r

module _ {ty words pool : List ℕ} {t w p : ℕ} (s : Standing ty words pool t w p) {at : ℕ} (is : at ≡ plain_place ty t) where
  pub place_in : at < length ty
  place_in = go (eqb_test (get_or ty t 0) 7)
    where
      go : {b : Bool} → Test (get_or ty t 0 ≡ 7) (get_or ty t 0 ≢ 7) b → at < length ty
      go (holds q) = omega (arith, is ∙ place_behind ty t q, type_in_lem (behind_stands s q))
      go (fails n) = omega (arith, is ∙ place_here ty t n, type_in_lem s)

  pub matched : get_or words w 0 ≡ get_or ty at 0 → Matched ty words pool t w p at
  matched same = go (eqb_test (get_or ty t 0) 7)
    where
      go : {b : Bool} → Test (get_or ty t 0 ≡ 7) (get_or ty t 0 ≢ 7) b → Matched ty words pool t w p at
      go (holds q) =
          let e : at ≡ t + 1 = is ∙ place_behind ty t q in
          let behind = behind_stands s q in
          let k : get_or words w 0 ≡ get_or ty (t + 1) 0 = rw e at same in
          let no_null : get_or words w 0 ≡ 0 → ⊥ = λ z. omega (arith, k, (type.kind_here behind.T behind.here.type).1) in
          rw e (record { stands = behind; plain = behind_plain s q; same = k; back = peeled q no_null })
      go (fails n) =
          let e : at ≡ t = is ∙ place_here ty t n in
          rw e (record { stands = s; plain = plain_kind s n; same = rw e at same; back = λ i. i })

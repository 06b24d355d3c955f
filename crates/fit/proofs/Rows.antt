-- The fields of a record one after another: those that are left decide, and the first of them is passed or refused.
use mathlib.Core.Path.{◌≡◌, refl, sym, ap, ◌∙◌}
use mathlib.Core.List.{List}
use mathlib.Core.Bool.{Bool, true}
use Prim.Native.Nat.{ℕ, ◌+◌, ◌≤◌, ◌<◌}
use native.Mathlib.Omega.{arith}
use lib.ListN.{length, length-append}
use Rattle.std.specs.Prelude.{Ok, Err}
use Rattle.format.specs.Answer.{Answer, and_then}
use Rattle.format.specs.Tree.{Ty, Tys, Val, Vals}
use Rattle.format.specs.Sheet.{field_count, val_count, ty_words, val_words, val_pool}
use Rattle.format.specs.TypeSheet.{nesting, nestings, max_groups}
use Rattle.format.specs.Encode.{val_bytes, vals_bytes, fits, fits_all, fine}
use Rattle.format.proofs.TypePlaces as types
use Rattle.format.proofs.ValuePlaces as values
use Rattle.format.specs.declared.refusal.Refusal.{Refusal}
use Rattle.fit.specs.declared.Fitted.{Fitted}
use Rattle.fit.specs.Fit.{placed, Pair, Row, Standing, StandingRow, Brief, FitValue, FitFields}

-- what is left of the row ts, vs from the places t, w and p on; it decides, and what was passed is `sum` bytes long. Its types need stand only where they are asked for
pub record Rest (ty words pool : List ℕ) (depth : ℕ) (asked : Bool) (ts : Tys) (vs : Vals) (e f g t w p sum left : ℕ) : Type 0 where
  pub ts' : Tys
  pub vs' : Vals
  pub asked_types : asked ≡ true → types.TypesIn ty t ts' e
  pub types : 0 < left → types.TypesIn ty t ts' e
  pub deep : nestings ts' ≤ max_groups
  pub values : values.ValuesIn words pool w p vs' f g
  pub count : field_count ts' ≡ left
  pub same : val_count vs' ≡ left
  pub answer : fits_all ts depth vs ≡ fits_all ts' depth vs'
  pub long : length (vals_bytes depth vs) ≡ sum + length (vals_bytes depth vs')

-- of every row at the start
pub record Left (ty words pool : List ℕ) (at from start n depth : ℕ) (asked : Bool) (t w p sum left : ℕ) : Type 0 where
  pub brief : Brief words pool from start (Ok (placed t w p sum))
  pub rest : (ts : Tys) (vs : Vals) (e f g : ℕ) → Row ty words pool at from start n ts vs e f g → Rest ty words pool depth asked ts vs e f g t w p sum left

-- the first of what is left, and what is behind it
record Next (ty words pool : List ℕ) (depth : ℕ) (ts : Tys) (vs : Vals) (e f g t w p sum left : ℕ) : Type 0 where
  T : Ty
  v : Val
  more : Tys
  others : Vals
  m : ℕ
  f₁ : ℕ
  g₁ : ℕ
  pair : Pair ty words pool t w p T v m f₁ g₁
  types : types.TypesIn ty m more e
  deep : nestings more ≤ max_groups
  values : values.ValuesIn words pool f₁ g₁ others f g
  count : field_count more + 1 ≡ left
  same : val_count others + 1 ≡ left
  answer : fits_all ts depth vs ≡ and_then (fits T depth v) (λ u. fits_all more depth others)
  long : length (vals_bytes depth vs) ≡ sum + length (val_bytes depth v) + length (vals_bytes depth others)

next : {ty words pool : List ℕ} {depth : ℕ} {asked : Bool} {ts : Tys} {vs : Vals} {e f g t w p sum left : ℕ} → 0 < left
    → Rest ty words pool depth asked ts vs e f g t w p sum left → Next ty words pool depth ts vs e f g t w p sum left
unfolding fits val_bytes field_count val_count nesting
next {ty} {words} {pool} {depth} {asked} {ts} {vs} {e} {f} {g} {t} {w} {p} {sum} {left} some r = go r.ts' r.vs' (r.types some) r.deep r.values r.count r.same r.answer r.long
  where
    go : (ts' : Tys) (vs' : Vals) → types.TypesIn ty t ts' e → nestings ts' ≤ max_groups → values.ValuesIn words pool w p vs' f g → field_count ts' ≡ left → val_count vs' ≡ left
        → fits_all ts depth vs ≡ fits_all ts' depth vs' → length (vals_bytes depth vs) ≡ sum + length (vals_bytes depth vs') → Next ty words pool depth ts vs e f g t w p sum left
    go Tys.NoTy vs' a d b i j k l = absurd (omega arith)
    go (Tys.AddTy T more) Vals.NoVal a d b i j k l = absurd (omega arith)
    go (Tys.AddTy T more) (Vals.AddVal v others) a d b i j k l =
        let x = types.field_in ty t e T more a in
        let y = values.field_in words pool w p f g v others b in
        record {
          T = T;
          v = v;
          more = more;
          others = others;
          m = _;
          f₁ = _;
          g₁ = _;
          pair = record { type = x.0; deep = omega arith; value = y.0 };
          types = x.1;
          deep = omega arith;
          values = y.1;
          count = omega arith;
          same = omega arith;
          answer = k;
          long = omega (arith, length-append (val_bytes depth v) (vals_bytes depth others));
        }

-- nothing is left
none_left : {ty words pool : List ℕ} {depth : ℕ} {asked : Bool} {ts : Tys} {vs : Vals} {e f g t w p sum left : ℕ} → left ≤ 0
    → Rest ty words pool depth asked ts vs e f g t w p sum left → (fits_all ts depth vs ≡ fine) × (asked ≡ true → t ≡ e) × (w ≡ f) × (p ≡ g) × (sum ≡ length (vals_bytes depth vs))
unfolding fits val_bytes field_count val_count ty_words val_words val_pool
none_left {ty} {words} {pool} {depth} {asked} {ts} {vs} {e} {f} {g} {t} {w} {p} {sum} {left} none r = go r.ts' r.vs' r.asked_types r.values r.count r.same r.answer r.long
  where
    go : (ts' : Tys) (vs' : Vals) → (asked ≡ true → types.TypesIn ty t ts' e) → values.ValuesIn words pool w p vs' f g → field_count ts' ≡ left → val_count vs' ≡ left
        → fits_all ts depth vs ≡ fits_all ts' depth vs' → length (vals_bytes depth vs) ≡ sum + length (vals_bytes depth vs')
        → (fits_all ts depth vs ≡ fine) × (asked ≡ true → t ≡ e) × (w ≡ f) × (p ≡ g) × (sum ≡ length (vals_bytes depth vs))
    go Tys.NoTy Vals.NoVal a b i j k l = (k, λ q. omega (arith, (a q).span.long), omega (arith, b.words.long), omega (arith, b.pool.long), omega arith)
    go Tys.NoTy (Vals.AddVal v vs') a b i j k l = absurd (omega arith)
    go (Tys.AddTy T ts') vs' a b i j k l = absurd (omega arith)

module _ {ty words pool : List ℕ} {at from start n : ℕ} (s : StandingRow ty words pool at from start n) where
  pub start_left : (depth : ℕ) (asked : Bool) {left : ℕ} → n ≡ left → Left ty words pool at from start n depth asked at from start 0 left
  start_left depth asked e =
      let i = s.here.values in
      rw (← e)
      (record {
        brief = (omega arith, omega (arith, i.words.long, i.words.within), omega arith, omega (arith, i.pool.long, i.pool.within), omega arith);
        rest = λ ts vs e f g r.
            record {
              ts' = ts;
              vs' = vs;
              asked_types = λ q. r.types;
              types = λ q. r.types;
              deep = r.deep;
              values = r.values;
              count = r.count;
              same = r.same;
              answer = refl;
              long = omega arith;
            };
      })

  module _ {depth : ℕ} {asked : Bool} {t w p sum left : ℕ} (i : Left ty words pool at from start n depth asked t w p sum left) where
    pub next_stands : 0 < left → Standing ty words pool t w p
    next_stands some =
        let x = next some (i.rest s.ts s.vs s.e s.f s.g s.here) in
        record { T = x.T; v = x.v; e = x.m; f = x.f₁; g = x.g₁; here = x.pair; few = s.few; small = s.small }

module _ {ty words pool : List ℕ} {at from start n depth : ℕ} {asked : Bool} {t w p sum left : ℕ} (i : Left ty words pool at from start n depth asked t w p sum left) where
  pub all_passed : left ≤ 0 → FitFields ty words pool at from start n depth asked (Ok (placed t w p sum))
  all_passed none =
      record {
        brief = i.brief;
        says = λ ts vs e f g r. let x = none_left none (i.rest ts vs e f g r) in record { answer = sym x.0; ends = (x.1, x.2, x.3, x.4) };
      }

  module _ (some : 0 < left) {ask : Bool} where
    pub field_refused : {d : Refusal} → FitValue ty words pool t w p depth ask (Err d) → FitFields ty words pool at from start n depth asked (Err d)
    field_refused right =
        record {
          brief = tt;
          says = λ ts vs e f g r.
              let x = next some (i.rest ts vs e f g r) in
              let q = (right.says x.T x.v x.m x.f₁ x.g₁ x.pair).answer in
              record { answer = sym (x.answer ∙ ap (λ (a : Answer Unit). and_then a (λ u. fits_all x.more depth x.others)) (sym q)); ends = tt };
        }

    pub field_passed : (1 < left → ask ≡ true) → (asked ≡ true → ask ≡ true) → {x : Fitted} {k : ℕ} → left ≡ k + 1 → FitValue ty words pool t w p depth ask (Ok x)
        → Left ty words pool at from start n depth asked x.at x.word x.pool (sum + x.len) k
    field_passed more last one right =
        let b = i.brief in
        let c = right.brief in
        record {
          brief = (omega (arith, b.0, c.0), c.1, omega (arith, b.2, c.2), c.3, omega (arith, b.4, c.4));
          rest = λ ts vs e f g r.
              let x = next some (i.rest ts vs e f g r) in
              let s = right.says x.T x.v x.m x.f₁ x.g₁ x.pair in
              let k = s.ends in
              record {
                ts' = x.more;
                vs' = x.others;
                deep = x.deep;
                count = omega (arith, one, x.count);
                same = omega (arith, one, x.same);
                asked_types = λ q. rw (k.0 (last q)) x.types;
                types = λ q. rw (k.0 (more (omega arith))) x.types;
                values = rw (k.1, k.2) x.values;
                answer = x.answer ∙ ap (λ (a : Answer Unit). and_then a (λ u. fits_all x.more depth x.others)) (sym s.answer);
                long = x.long ∙ ap (λ (j : ℕ). sum + j + length (vals_bytes depth x.others)) (sym k.3);
              };
        }

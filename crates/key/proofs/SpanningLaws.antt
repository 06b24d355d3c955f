-- From what the steps of the span call found to what it answers and leaves.
use mathlib.Core.Path.{◌≡◌, refl, sym, ap, ap₂, ◌∙◌}
use mathlib.Core.Bool.{Bool, true, false}
use mathlib.Core.Option.{some}
use mathlib.Core.List.{List, [], ◌∷◌, ◌++◌}
use Prim.Native.Nat.{ℕ, ◌+◌, ◌-◌, ◌≤◌, ◌<◌, ◌^◌}
use native.Mathlib.Omega.{arith}
use lib.ListN.{length, get_or, set, length-append}
use Rattle.std.specs.Prelude.{Result, Ok, Err}
use Rattle.format.specs.Answer.{Answer, ok, refused, BadType, BadValue, NoField}
use Rattle.format.specs.Refusals.{number_of, detail_of}
use Rattle.format.specs.declared.refusal.Refusal.{Refusal}
use Rattle.format.specs.declared.refusal.Refusal.TheVariants as made
use Rattle.format.specs.Tree.{Ty, Val, Vals}
use Rattle.format.specs.Sheet.{field_count, val_count, ty_words}
use Rattle.format.specs.TypeSheet.{type_of, is_some}
use Rattle.format.specs.ValueSheet as value_sheets
use Rattle.format.specs.ValueSheet.{value_of}
use Rattle.format.specs.Encode.{val_bytes, vals_bytes, fits, fine}
use Rattle.format.specs.Bounds.{above_field}
use Rattle.format.specs.Calls as calls
use Rattle.format.specs.Calls.{TwoEnds}
use Rattle.format.specs.Spans.{first_tys, field_type, span_ends, span_of, span_for, span_call}
use Rattle.format.proofs.Tests.{ltb_yes, ltb_no}
use Rattle.format.proofs.ValueLaws as values
use Rattle.format.proofs.ValuePlaces as value_places
use Rattle.format.proofs.Ranges.{given}
use Rattle.blocks.proofs.Put.{set_put, put_then}
use Rattle.fit.specs.declared.Fitted.{Fitted}
use Rattle.fit.specs.Fit as fit
use Rattle.fit.specs.Fit.{FitValue, FitFields, Says, Brief}
use Rattle.write.specs.declared.Put.{Put}
use Rattle.write.specs.Write.{standing, WroteValue, WroteFields}
use Rattle.key.specs.declared.bounding.Ends.{Ends}
use Rattle.key.specs.Keys.{bounded_of, BoundsLeft}
use Rattle.key.specs.Records.{is_record, has_next}
use Rattle.key.specs.Firsts.{Firsts}
use Rattle.key.specs.Spanning.{Asked, Refuses, longs, PutsEnd}
use Rattle.key.proofs.SpanLaws.{place_at}
use Rattle.key.proofs.CallLaws.{no_type_lem}
use Rattle.key.proofs.ValueLaws.{no_value, its_value, it_is}
use Rattle.key.proofs.FirstsLaws.{not_record, its_type, its_first, no_field, the_firsts, sheet, fields_in_lem, count_in, next_in, first_refused, first_fit, place, first_long, put_over}

-- ---- the checks

module _ (ty words pool low_words low_pool high_words high_pool : List ℕ) where
  -- what the sheets are refused for
  abbrev No : ℕ → Type 0
  No n = span_for ty words pool low_words low_pool high_words high_pool ≡ refused n 0

  module _ {b : Bool} (said : b ≡ is_some (type_of ty)) where
    pub c_type : b ≡ false → No BadType
    unfolding span_for
    c_type h = rw (no_type_lem ty (sym said ∙ h))

    module _ (yes : b ≡ true) {q : Bool} (first : q ≡ is_record (value_of words pool)) where
      pub c_first : q ≡ false → No BadValue
      unfolding span_for
      c_first h = rw (its_type ty words pool said yes).1 (not_record (value_of words pool) _ (sym first ∙ h))

      module _ (record_yes : q ≡ true) {l : Bool} (low : l ≡ is_some (value_of low_words low_pool)) where
        abbrev vs : (vs : Vals) × (value_of words pool ≡ some (Val.Record vs))
        vs = its_first ty words pool said yes first record_yes

        pub c_low : l ≡ false → No BadValue
        unfolding span_for
        c_low h = rw ((its_type ty words pool said yes).1, vs.1, no_value low_words low_pool (sym low ∙ h))

        module _ (low_yes : l ≡ true) {u : Bool} (high : u ≡ is_some (value_of high_words high_pool)) where
          pub c_high : u ≡ false → No BadValue
          unfolding span_for
          c_high h = rw ((its_type ty words pool said yes).1, vs.1, it_is low_words low_pool low low_yes, no_value high_words high_pool (sym high ∙ h))

          module _ (high_yes : u ≡ true) {n : Bool} (after : n ≡ has_next ty words) where
            pub c_next : n ≡ false → No NoField
            unfolding span_for
            c_next h =
                rw ((its_type ty words pool said yes).1, vs.1, it_is low_words low_pool low low_yes, it_is high_words high_pool high high_yes)
                (no_field ty words pool said yes first record_yes after (span_of vs.0 (its_value low_words low_pool low low_yes) (its_value high_words high_pool high high_yes)) h)

            pub c_none : n ≡ true → Asked ty words pool low_words low_pool high_words high_pool
            c_none h =
                let i = the_firsts ty words pool said yes first record_yes after h in
                record {
                  ts = i.ts;
                  vs = i.vs;
                  lo = its_value low_words low_pool low low_yes;
                  hi = its_value high_words high_pool high high_yes;
                  typed = i.typed;
                  first_is = i.first_is;
                  lowest_is = it_is low_words low_pool low low_yes;
                  highest_is = it_is high_words high_pool high high_yes;
                  inside = i.inside;
                }

-- ---- the lengths of the ends

module _ {ty words pool low_words low_pool high_words high_pool : List ℕ} (a : Asked ty words pool low_words low_pool high_words high_pool) where
  abbrev pub firsts : Firsts ty words pool
  firsts = record { ts = a.ts; vs = a.vs; typed = a.typed; first_is = a.first_is; inside = a.inside }

  -- the type of the field behind the first k, and the place behind it
  abbrev u : Ty
  u = field_type (val_count a.vs) a.ts

  abbrev behind : ℕ
  behind = place_at (val_count a.vs) a.ts + length (ty_words u)

  -- behind the checks
  span_is : span_for ty words pool low_words low_pool high_words high_pool ≡ span_of a.vs a.lo a.hi (first_tys (val_count a.vs) a.ts) u
  unfolding span_for
  span_is = rw (a.typed, a.first_is, a.lowest_is, a.highest_is, ltb_yes (val_count a.vs) (field_count a.ts) a.inside)

  -- what the lengths are to be
  abbrev Long : Result Ends Refusal → Type 0
  Long r = bounded_of r ≡ longs (span_for ty words pool low_words low_pool high_words high_pool)

  pub m_first : {e : Refusal} → FitFields ty words pool 2 2 0 (get_or words 1 0) 0 true (Err e) → Long (Err e)
  m_first f = rw (span_is, first_refused firsts f)

  module _ {x : Fitted} (f : FitFields ty words pool 2 2 0 (get_or words 1 0) 0 true (Ok x)) where
    -- a value of the next field's type, on its own sheet
    module _ (next_words next_pool : List ℕ) {v : Val} (is : value_of next_words next_pool ≡ some v) where
      own : value_sheets.Admitted next_words next_pool v
      own = (values.admitted next_words next_pool v).0 is

      pair : fit.Pair ty next_words next_pool x.at 0 0 u v behind (length next_words) (length next_pool)
      pair = rw (place firsts f refl) (record { type = (next_in firsts).0; deep = (next_in firsts).1; value = value_places.top next_words next_pool v own })

      next_stands : fit.Standing ty next_words next_pool x.at 0 0
      next_stands = record { T = u; v = v; e = behind; f = length next_words; g = length next_pool; here = pair; few = own.long; small = own.large }

      next_says : {o : Result Fitted Refusal} → FitValue ty next_words next_pool x.at 0 0 0 false o
          → Says (fits u 0 v) false behind (length next_words) (length next_pool) (length (val_bytes 0 v)) o
      next_says g = g.says u v _ (length next_words) (length next_pool) pair

      next_refused : {e : Refusal} → FitValue ty next_words next_pool x.at 0 0 0 false (Err e) → fits u 0 v ≡ refused (number_of e) (detail_of e)
      next_refused g = sym (next_says g).answer

      module _ {y : Fitted} (g : FitValue ty next_words next_pool x.at 0 0 0 false (Ok y)) where
        next_fit : fits u 0 v ≡ fine
        next_fit = sym (next_says g).answer

        next_long : (y.len ≡ length (val_bytes 0 v)) × (y.len < 2 ^ 32)
        next_long = let b : Brief next_words next_pool 0 0 (Ok y) = g.brief in ((next_says g).ends.3, omega (arith, b.1, b.3, b.4, own.long, own.large))

    pub m_low_stands : fit.Standing ty low_words low_pool x.at 0 0
    m_low_stands = next_stands low_words low_pool a.lowest_is

    pub m_high_stands : fit.Standing ty high_words high_pool x.at 0 0
    m_high_stands = next_stands high_words high_pool a.highest_is

    pub m_low : {e : Refusal} → FitValue ty low_words low_pool x.at 0 0 0 false (Err e) → Long (Err e)
    m_low g = rw (span_is, first_fit firsts f, next_refused low_words low_pool a.lowest_is g)

    module _ {low : Fitted} (g : FitValue ty low_words low_pool x.at 0 0 0 false (Ok low)) where
      pub m_high : {e : Refusal} → FitValue ty high_words high_pool x.at 0 0 0 false (Err e) → Long (Err e)
      m_high h = rw (span_is, first_fit firsts f, next_fit low_words low_pool a.lowest_is g, next_refused high_words high_pool a.highest_is h)

      module _ {high : Fitted} (h : FitValue ty high_words high_pool x.at 0 0 0 false (Ok high)) where
        -- no sum is too large
        pub m_short : (x.len < 2 ^ 32) × (low.len < 2 ^ 32) × (high.len < 2 ^ 32)
        m_short = ((first_long firsts f).1, (next_long low_words low_pool a.lowest_is g).1, (next_long high_words high_pool a.highest_is h).1)

        pub m_done : Long (Ok (record { lower = x.len + low.len; upper = x.len + high.len + 1 }))
        m_done =
            let x₁ = vals_bytes 0 a.vs in
            let n = (first_long firsts f).0 in
            let lower : x.len + low.len ≡ length (x₁ ++ val_bytes 0 a.lo) = omega (arith, n, (next_long low_words low_pool a.lowest_is g).0, length-append x₁ (val_bytes 0 a.lo)) in
            let upper : x.len + high.len + 1 ≡ length (above_field (x₁ ++ val_bytes 0 a.hi)) =
            omega (arith, n, (next_long high_words high_pool a.highest_is h).0, length-append x₁ (val_bytes 0 a.hi), length-append (x₁ ++ val_bytes 0 a.hi) (0xFF ∷ [])) in
            rw (span_is, first_fit firsts f, next_fit low_words low_pool a.lowest_is g, next_fit high_words high_pool a.highest_is h, lower, upper)

-- ---- the bytes of an end

-- the fields, and the value behind them
pub end_put : {words pool next_words next_pool out m out' : List ℕ} {r s : Put} → WroteFields words pool (standing 2 0 0 0) (get_or words 1 0) 0 out r m
    → WroteValue next_words next_pool (standing 0 0 r.at 0) 0 m s out' → PutsEnd words pool next_words next_pool out out'
unfolding value_sheets.Proper
end_put {words} {pool} {next_words} {next_pool} {out} {m} {out'} {r} f g = record {
  kept = g.onward.kept ∙ f.onward.kept;
  puts = λ ts vs t v is next_is fit_first fit_next room.
      let x = vals_bytes 0 vs in
      let y = val_bytes 0 v in
      let l = length-append x y in
      let a = (values.admitted next_words next_pool v).0 next_is in
      let d = f.says.row ts vs _ _ fit_first (sheet words pool is).proper (count_in words pool is).1 (fields_in_lem words pool is) (omega arith) in
      let e = g.says.one t v _ _ fit_next a.proper (value_places.top next_words next_pool v a) (omega (arith, d.at_byte, f.onward.kept)) in
      put_then out 0 x y (omega arith) d.at_byte d.wrote e.wrote;
}

-- ---- the call

module _ (ty words pool low_words low_pool high_words high_pool lower upper : List ℕ) where
  -- what the call says and leaves
  abbrev Left : Result Ends Refusal → (lower' upper' : List ℕ) → Type 0
  Left r lower' upper' = BoundsLeft (span_call ty words pool low_words low_pool high_words high_pool lower upper) r lower' upper'

  pub s_sheets : {e : Refusal} → Refuses ty words pool low_words low_pool high_words high_pool (Err e) → Left (Err e) lower upper
  unfolding span_call
  s_sheets q = rw q (record { answer = refl; low = refl; high = refl })

  pub s_refused : {e : Refusal} → bounded_of (Err e) ≡ longs (span_for ty words pool low_words low_pool high_words high_pool) → Left (Err e) lower upper
  s_refused {e} m = s_sheets (go (span_for ty words pool low_words low_pool high_words high_pool) m)
    where
      go : (o : Answer TwoEnds) → bounded_of (Err e) ≡ longs o → o ≡ refused (number_of e) (detail_of e)
      go (ok x) f = absurd (let z : ◌≡◌ {A = ℕ} 0 1 = cc in omega arith)
      go (refused n d) f = cc

  module _ {z : Ends} (m : bounded_of (Ok z) ≡ longs (span_for ty words pool low_words low_pool high_words high_pool)) where
    -- the lengths of a call that is not refused, and what it was given
    its_ends : (x : TwoEnds) × (span_for ty words pool low_words low_pool high_words high_pool ≡ ok x) × (z.lower ≡ length x.low) × (z.upper ≡ length x.high)
    its_ends = go (span_for ty words pool low_words low_pool high_words high_pool) refl m
      where
        go : (o : Answer TwoEnds) → span_for ty words pool low_words low_pool high_words high_pool ≡ o → bounded_of (Ok z) ≡ longs o
            → (x : TwoEnds) × (span_for ty words pool low_words low_pool high_words high_pool ≡ ok x) × (z.lower ≡ length x.low) × (z.upper ≡ length x.high)
        go (ok x) q f =
            let same : ◌≡◌ {A = calls.Ends} (record { lower = z.lower; upper = z.upper }) (record { lower = length x.low; upper = length x.high }) = cc in
            (x, q, ap (λ (i : calls.Ends). i.lower) same, ap (λ (i : calls.Ends). i.upper) same)
        go (refused n d) q f = absurd (let z : ◌≡◌ {A = ℕ} 0 1 = cc in omega arith)

    pub s_low_room : length lower < z.lower → z.lower < 2 ^ 64 → Left (Err (made.NoRoom z.lower)) lower upper
    unfolding span_call
    s_low_room h f =
        let x = its_ends in
        rw (x.1, ltb_yes (length lower) (length x.0.low) (omega (arith, x.2)), ← x.2, ltb_yes z.lower (2 ^ 64) f) (record { answer = refl; low = refl; high = refl })

    module _ (room : z.lower ≤ length lower) where
      pub s_high_room : length upper < z.upper → z.upper < 2 ^ 64 → Left (Err (made.NoRoom z.upper)) lower upper
      unfolding span_call
      s_high_room h f =
          let x = its_ends in
          rw (x.1, ltb_no (length lower) (length x.0.low) (omega (arith, x.2)), ltb_yes (length upper) (length x.0.high) (omega (arith, x.3)), ← x.3, ltb_yes z.upper (2 ^ 64) f)
          (record { answer = refl; low = refl; high = refl })

      -- the upper end has its FF behind the highest
      pub s_last : 0 < z.upper
      s_last =
          let x = its_ends in
          let g = given ty words pool low_words low_pool high_words high_pool x.1 in
          let long : z.upper ≡ length (span_ends g.vs g.lo g.hi).high = x.3 ∙ ap (λ (i : TwoEnds). length i.high) (sym g.ends) in
          omega (arith, length-append (vals_bytes 0 g.vs ++ val_bytes 0 g.hi) (0xFF ∷ []))

      pub s_done : z.upper ≤ length upper → {lower' upper₁ upper' : List ℕ} → PutsEnd words pool low_words low_pool lower lower' → PutsEnd words pool high_words high_pool upper upper₁
          → upper' ≡ set upper₁ (z.upper - 1) 0xFF → Left (Ok z) lower' upper'
      unfolding span_call
      s_done h {lower'} {upper₁} {upper'} p q w =
          let x = its_ends in
          let g = given ty words pool low_words low_pool high_words high_pool x.1 in
          let l = vals_bytes 0 g.vs ++ val_bytes 0 g.lo in
          let u = vals_bytes 0 g.vs ++ val_bytes 0 g.hi in
          let is : span_for ty words pool low_words low_pool high_words high_pool ≡ ok (span_ends g.vs g.lo g.hi) = x.1 ∙ ap ok (sym g.ends) in
          let long_low : z.lower ≡ length l = x.2 ∙ ap (λ (i : TwoEnds). length i.low) (sym g.ends) in
          let long_high : z.upper ≡ length (above_field u) = x.3 ∙ ap (λ (i : TwoEnds). length i.high) (sym g.ends) in
          let more = length-append u (0xFF ∷ []) in
          let low_put = p.puts (first_tys (val_count g.vs) g.ts) g.vs (field_type (val_count g.vs) g.ts) g.lo g.first_is g.lowest_is g.first_fit g.lowest_fit (omega arith) in
          let high_put = q.puts (first_tys (val_count g.vs) g.ts) g.vs (field_type (val_count g.vs) g.ts) g.hi g.first_is g.highest_is g.first_fit g.highest_fit (omega arith) in
          let seat : z.upper - 1 ≡ 0 + length u = omega arith in
          let last = put_then upper 0 u (0xFF ∷ []) (omega arith) seat high_put (w ∙ set_put upper₁ (z.upper - 1) 0xFF (omega (arith, q.kept, s_last))) in
          rw (is, ltb_no (length lower) (length l) (omega arith), ltb_no (length upper) (length (above_field u)) (omega arith))
          (record {
            answer = ap₂ {C = Answer calls.Ends} (λ (i j : ℕ). ok (record { lower = i; upper = j })) long_low long_high;
            low = low_put ∙ put_over lower l;
            high = last ∙ put_over upper (above_field u);
          })

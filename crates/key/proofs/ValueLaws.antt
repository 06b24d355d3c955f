-- What replacement answers once its field was found: the sheet, the value's fit, the limit, the room, the splice.
use mathlib.Core.Path.{◌≡◌, refl, sym, ap, ◌∙◌, subst}
use mathlib.Core.Bool.{Bool, true, false}
use mathlib.Core.Option.{Option, some, none}
use mathlib.Core.List.{List, ◌++◌}
use Prim.Native.Nat.{ℕ, ◌+◌, ◌-◌, ◌*◌, ◌≤◌, ◌<◌, ◌^◌}
use native.Mathlib.Omega.{arith}
use lib.ListN.{length, take, drop}
use Rattle.std.specs.Prelude.{Result, Ok, Err}
use Rattle.format.specs.Tree.{Ty, Val}
use Rattle.format.specs.TypeSheet.{is_some, max_groups, nesting}
use Rattle.format.specs.ValueSheet.{value_of, max_value_words, Admitted}
use Rattle.format.specs.Encode.{val_bytes, encode, fits, fine, max_key_bytes}
use Rattle.format.specs.Calls.{Called, written, with_value}
use Rattle.format.specs.Refusals.{Leaves}
use Rattle.format.specs.declared.refusal.Refusal.{Refusal}
use Rattle.format.specs.declared.refusal.Refusal.TheVariants as made
use Rattle.format.proofs.Tests.{leb_yes, leb_no, ltb_yes}
use Rattle.format.proofs.TypePlaces.{TypeIn}
use Rattle.format.proofs.ValuePlaces.{ValueIn, top}
use Rattle.format.proofs.ValueLaws as values
use Rattle.read.specs.Walk.{TypeAt}
use Rattle.fit.specs.declared.Fitted.{Fitted}
use Rattle.fit.specs.Fit.{Standing, FitValue, Brief, Says}
use Rattle.key.specs.Keys.{ValueStands, Splices, with, put}
use Rattle.key.proofs.SpliceLaws.{whole_long}

pub no_value : (words pool : List ℕ) → is_some (value_of words pool) ≡ false → value_of words pool ≡ none
no_value words pool h = go (value_of words pool) h
  where
    go : (o : Option Val) → is_some o ≡ false → o ≡ none
    go none e = refl
    go (some t) e = absurd (let z : ◌≡◌ {A = ℕ} 0 1 = cc in omega arith)

-- an admitted sheet, by the test's answer
module _ (words pool : List ℕ) {b : Bool} (said : b ≡ is_some (value_of words pool)) (yes : b ≡ true) where
  pub its : (v : Val) × Admitted words pool v
  its = values.its_tree words pool (sym said ∙ yes)

  abbrev pub its_value : Val
  its_value = its.0

  pub it_is : value_of words pool ≡ some its_value
  it_is = (values.admitted words pool its_value).1 its.1

  pub it_stands : ValueIn words pool 0 0 its_value (length words) (length pool)
  it_stands = top words pool its_value its.1

  -- it is there to be measured
  pub v_stands : {ty : List ℕ} {at : ℕ} → TypeAt ty at → Standing ty words pool at 0 0
  v_stands y = record {
    T = y.t;
    v = its_value;
    e = y.end;
    f = length words;
    g = length pool;
    here = record { type = y.here; deep = y.deep; value = it_stands };
    few = its.1.long;
    small = its.1.large;
  }

  -- and its length is short enough for the sums
  pub v_short : {ty : List ℕ} {at : ℕ} {x : Fitted} → FitValue ty words pool at 0 0 0 false (Ok x) → x.len ≤ 8 * max_value_words
  v_short {x = x} f =
      let q : Brief words pool 0 0 (Ok x) = f.brief in
      omega (arith, q.1, q.3, q.4, its.1.long, its.1.large)

module _ (ty : List ℕ) (at : ℕ) (buffer : List ℕ) (used start end : ℕ) (words pool : List ℕ) {b : Bool} (said : b ≡ is_some (value_of words pool)) where
  module _ (yes : b ≡ true) where
    abbrev the_value : Val
    the_value = its_value words pool said yes

    -- what the walk says of it under a type
    says : {o : Result Fitted Refusal} → FitValue ty words pool at 0 0 0 false o → (t : Ty) (e : ℕ) → TypeIn ty at t e → nesting t ≤ max_groups
        → Says (fits t 0 the_value) false e (length words) (length pool) (length (val_bytes 0 the_value)) o
    says f t e i d = f.says t the_value e (length words) (length pool) (record { type = i; deep = d; value = it_stands words pool said yes })

    -- the call with the value's encoding
    abbrev Call : Ty → Called ℕ
    Call t = written buffer (put t (take used buffer) start end the_value)

    by_call : (a : Result ℕ Refusal) (buffer' : List ℕ) → ((t : Ty) (e : ℕ) → TypeIn ty at t e → nesting t ≤ max_groups → Leaves (Call t) a buffer')
        → ValueStands ty at buffer used start end words pool a buffer'
    by_call a buffer' g = record {
      stands = λ t e i d. subst (λ (o : Option Val). Leaves (written buffer (with_value o (λ u. put t (take used buffer) start end u))) a buffer') (sym (it_is words pool said yes)) (g t e i d);
    }

    pub v_refused : {f : Refusal} → FitValue ty words pool at 0 0 0 false (Err f) → ValueStands ty at buffer used start end words pool (Err f) buffer
    unfolding encode
    v_refused f = by_call _ _ (λ t e i d. rw (← (says f t e i d).answer) (record { answer = refl; left = refl }))

    module _ {x : Fitted} (f : FitValue ty words pool at 0 0 0 false (Ok x)) where
      -- it fits, and this is its length
      fitting : (t : Ty) (e : ℕ) → TypeIn ty at t e → nesting t ≤ max_groups → fits t 0 the_value ≡ fine
      fitting t e i d = sym (says f t e i d).answer

      value_long : (t : Ty) (e : ℕ) → TypeIn ty at t e → nesting t ≤ max_groups → x.len ≡ length (val_bytes 0 the_value)
      value_long t e i d = (says f t e i d).ends.3

      module _ (span : (start ≤ end) × (end ≤ used) × (used ≤ length buffer)) where
        abbrev len : ℕ
        len = start + x.len + (used - end)

        -- the new key's length
        new_long : (t : Ty) (e : ℕ) → TypeIn ty at t e → nesting t ≤ max_groups → length (with (take used buffer) start end (val_bytes 0 the_value)) ≡ len
        new_long t e i d = whole_long buffer (val_bytes 0 the_value) start end used span.0 span.1 span.2 ∙ ap (λ (m : ℕ). start + m + (used - end)) (sym (value_long t e i d))

        pub v_long : max_key_bytes < len → ValueStands ty at buffer used start end words pool (Err (made.KeyTooLong len)) buffer
        unfolding encode
        v_long h = by_call _ _ (λ t e i d.
            let l = new_long t e i d in
            rw (fitting t e i d, l, leb_no len max_key_bytes h) (record { answer = refl; left = refl }))

        module _ (short : len ≤ max_key_bytes) where
          pub v_room : length buffer < len → ValueStands ty at buffer used start end words pool (Err (made.NoRoom len)) buffer
          unfolding encode
          v_room h = by_call _ _ (λ t e i d.
              let l = new_long t e i d in
              rw (fitting t e i d, l, leb_yes len max_key_bytes short, l, leb_no len (length buffer) h, ltb_yes len (2 ^ 64) (omega arith))
              (record { answer = refl; left = refl }))

          pub v_done : len ≤ length buffer → {buffer' : List ℕ} → Splices buffer used start end x.len words pool buffer' → ValueStands ty at buffer used start end words pool (Ok len) buffer'
          unfolding encode
          v_done h s = by_call _ _ (λ t e i d.
              let l = new_long t e i d in
              let g = fitting t e i d in
              let b = s.splices t the_value (it_stands words pool said yes) (its words pool said yes).1.proper g (value_long t e i d) in
              rw (g, l, leb_yes len max_key_bytes short, l, leb_yes len (length buffer) h)
              (record { answer = refl; left = b ∙ ap (λ (m : ℕ). with (take used buffer) start end (val_bytes 0 the_value) ++ drop m buffer) l }))

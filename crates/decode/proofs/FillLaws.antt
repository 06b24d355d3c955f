-- From what was measured and filled to what the calls answer and leave.
use mathlib.Core.Path.{◌≡◌, refl, sym, ap, ◌∙◌}
use mathlib.Core.Bool.{Bool, true, false, not}
use mathlib.Core.Option.{Option, some, none}
use mathlib.Core.List.{List, [], ◌∷◌}
use Prim.Native.Nat.{ℕ, ◌≤◌, ◌<◌, ◌^◌}
use native.Mathlib.Omega.{arith}
use borrow.Author.Tests.{lt-ltb, le-ltb, not-true, not-false}
use lib.ListN.{length}
use Rattle.std.specs.Prelude.{Result, Ok, Err}
use Rattle.format.specs.Answer.{ok, refused}
use Rattle.format.specs.Refusals.{number_of, detail_of}
use Rattle.format.specs.declared.refusal.Refusal.TheVariants as made
use Rattle.format.specs.Tree.{Ty, Val, Vals}
use Rattle.format.specs.Sheet.{val_words, val_pool}
use Rattle.format.specs.TypeSheet.{type_of, is_some}
use Rattle.format.specs.Decode as format
use Rattle.format.specs.Calls.{Sizes, Filled, over, filled, decoded_by, checked_by, decode_typed_call, decode_key_call, check_key_call}
use Rattle.format.proofs.Bytes.{AllBytes}
use Rattle.format.proofs.CountLaws.{few_typed_call, few_key_call, few_check_call}
use Rattle.format.proofs.FitLaws.{types_in}
use Rattle.fill.specs.Fill.{ValueFilled, BareFilled}
use Rattle.decode.specs.declared.Decoded.{Decoded}
use Rattle.read.specs.declared.Refused.{Refused}
use Rattle.read.specs.Walk.{bad}
use Rattle.decode.specs.Answers.{decoded_of, checked_of, Decodes, ChecksKey, is_bare, read_top, decoded_top, measured_by, measure_of, TopIs, TopFilled, Measures, Fills}
use Rattle.decode.proofs.TopLaws.{ItsType, its_type, key_is_lem}

-- no type was admitted
none_is : {A : Type 0} (o : Option A) → is_some o ≡ false → o ≡ none
none_is none e = refl
none_is (some t) e = let z : ◌≡◌ {A = ℕ} 0 1 = cc in absurd (omega arith)

-- ---- the filling walks

module _ {bytes win pin wout pout : List ℕ} {bare : Bool} where
  pub filled_bare : bare ≡ true → BareFilled bytes win pin wout pout → TopFilled bare bytes win pin wout pout
  filled_bare e f = rw e (record { fills = λ t v k h. go t v k (format.decode_bare (types_in t) bytes) refl h })
    where
      go : (t : Ty) (v : Val) (k : ℕ) (D : format.Decoded Vals) → format.decode_bare (types_in t) bytes ≡ D → format.after 0 Val.Record D ≡ format.Decoded.got v [] k
          → length (val_words v) ≤ length win → length (val_pool v) ≤ length pin → (wout ≡ over (val_words v) win) × (pout ≡ over (val_pool v) pin)
      go t v k (format.Decoded.got vs l j) d h =
          let ev : Val.Record vs ≡ v = cc in
          let el : l ≡ [] = cc in
          rw (← ev) (f.fills (types_in t) vs j (d ∙ ap (λ (x : List ℕ). format.Decoded.got vs x j) el))
      go t v k (format.Decoded.bad x c j) d h = let z : ◌≡◌ {A = ℕ} 0 1 = cc in absurd (omega arith)

  pub filled_value : bare ≡ false → ValueFilled bytes win pin wout pout → TopFilled bare bytes win pin wout pout
  filled_value e f = rw e (record { fills = λ t v k h. f.fills t v k h })

-- ---- what was measured, in the definition

abbrev sizes_in : format.Decoded Sizes → Sizes
sizes_in (format.Decoded.got s l k) = s
sizes_in (format.Decoded.bad n d k) = record { words = 0; pool = 0 }

refused_is : (f : Refused) (D : format.Decoded Val) → measure_of (Err f) ≡ measured_by D → D ≡ format.Decoded.bad (number_of f.why) (detail_of f.why) f.begun
refused_is f (format.Decoded.got v rest j) e = let z : ◌≡◌ {A = ℕ} 0 1 = cc in absurd (omega arith)
refused_is f (format.Decoded.bad x c j) e =
    let e1 : x ≡ number_of f.why = cc in
    let e2 : c ≡ detail_of f.why = cc in
    let e3 : j ≡ f.begun = cc in
    λ i. format.Decoded.bad (e1 i) (e2 i) (e3 i)

accepted_is : {s : Decoded} (D : format.Decoded Val) → measure_of (Ok s) ≡ measured_by D → checked_of (Ok s.begun) ≡ checked_by D
accepted_is {s} (format.Decoded.got v rest j) e = let e3 : s.begun ≡ j = cc in ap (λ (x : ℕ). checked_of (Ok x)) e3
accepted_is (format.Decoded.bad x c j) e = let z : ◌≡◌ {A = ℕ} 0 1 = cc in absurd (omega arith)

-- a value, with nothing left over
done_is : {s : Decoded} (D : format.Decoded Val) → measure_of (Ok s) ≡ measured_by (format.whole D) → (v : Val) × (D ≡ format.Decoded.got v [] s.begun) × (s.words ≡ length (val_words v)) × (s.pool ≡ length (val_pool v))
unfolding format.whole
done_is {s} (format.Decoded.got v [] j) e = let e3 : j ≡ s.begun = cc in (v, ap (format.Decoded.got v []) e3, ap (λ (d : format.Decoded Sizes). (sizes_in d).words) e, ap (λ (d : format.Decoded Sizes). (sizes_in d).pool) e)
done_is (format.Decoded.got v (b ∷ bs) j) e = let z : ◌≡◌ {A = ℕ} 0 1 = cc in absurd (omega arith)
done_is (format.Decoded.bad x c j) e = let z : ◌≡◌ {A = ℕ} 0 1 = cc in absurd (omega arith)

-- a sheet and the room for it
module _ (win pin : List ℕ) (v : Val) (k : ℕ) where
  no_words : {n : ℕ} → n ≡ length (val_words v) → n < 2 ^ 64 → length win < n → filled win pin (format.Decoded.got v [] k) ≡ record { answer = refused 17 n; begun = k; words = win; pool = pin }
  no_words {n} e small h = rw (← e, lt-ltb (length win) n h, lt-ltb n (2 ^ 64) small)

  module _ (room : length (val_words v) ≤ length win) where
    no_pool : {n : ℕ} → n ≡ length (val_pool v) → n < 2 ^ 64 → length pin < n → filled win pin (format.Decoded.got v [] k) ≡ record { answer = refused 17 n; begun = k; words = win; pool = pin }
    no_pool {n} e small h = rw (le-ltb _ _ room, ← e, lt-ltb (length pin) n h, lt-ltb n (2 ^ 64) small)

    all_room : length (val_pool v) ≤ length pin
        → filled win pin (format.Decoded.got v [] k) ≡ record { answer = ok (record { words = length (val_words v); pool = length (val_pool v) }); begun = k; words = over (val_words v) win; pool = over (val_pool v) pin }
    all_room h = rw (le-ltb _ _ room, le-ltb _ _ h)

-- ---- the ways out of decoding, where the type at the top was asked for and the value measured

pub record Measured (key : Bool) (ty bytes : List ℕ) (bare : Bool) (m : Result Decoded Refused) : Type 0 where
  pub admits : is_some (type_of ty) ≡ true
  pub top_is : TopIs key ty bare
  pub measures : Measures bare ty bytes m

pub measured : {key : Bool} {ty bytes : List ℕ} {bare : Bool} {m : Result Decoded Refused} {q : Bool} → q ≡ is_some (type_of ty) → not q ≡ false → TopIs key ty bare → Measures bare ty bytes m
    → Measured key ty bytes bare m
measured {q = q} e l i h = record { admits = sym e ∙ not-false q l; top_is = i; measures = h }

-- no type is admitted
pub f_type : {key : Bool} {ty bytes win pin : List ℕ} {q : Bool} → q ≡ is_some (type_of ty) → not q ≡ true → Fills key ty bytes win pin (Err (bad made.BadType 0)) win pin
f_type {ty = ty} {q = q} a l = record { is = rw (none_is (type_of ty) (sym a ∙ not-true q l)) }

module _ {key : Bool} {ty bytes : List ℕ} {bare : Bool} {m : Result Decoded Refused} (M : Measured key ty bytes bare m) where
  its : ItsType ty
  its = its_type ty M.admits

  top_read : decoded_top key ty bytes ≡ format.whole (read_top bare its.t bytes)
  top_read =
      ap (λ (o : Option Ty). decoded_by o (λ t. format.whole (read_top (is_bare key t) t bytes))) its.typed
      ∙ ap (λ (b : Bool). format.whole (read_top b its.t bytes)) (M.top_is.is its.t (length ty) its.here)

  measured_is : measure_of m ≡ measured_by (decoded_top key ty bytes)
  measured_is = M.measures.is its.t (length ty) its.here its.deep ∙ sym (ap measured_by top_read)

module _ {key : Bool} {ty bytes : List ℕ} {bare : Bool} where
  pub f_bad : {f : Refused} → Measured key ty bytes bare (Err f) → {win pin : List ℕ} → Fills key ty bytes win pin (Err f) win pin
  f_bad M {win} {pin} = record { is = sym (ap (filled win pin) (refused_is _ (decoded_top key ty bytes) (measured_is M))) }

  module _ {s : Decoded} (M : Measured key ty bytes bare (Ok s)) where
    value : (v : Val) × (read_top bare (its M).t bytes ≡ format.Decoded.got v [] s.begun) × (s.words ≡ length (val_words v)) × (s.pool ≡ length (val_pool v))
    value = done_is (read_top bare (its M).t bytes) (measured_is M ∙ ap measured_by (top_read M))

    -- the call's buffers and answer, by the room for the value
    fills : {win pin : List ℕ} {r : Result Decoded Refused} {wout pout : List ℕ} (F : Filled) → decoded_of r wout pout ≡ F → filled win pin (format.Decoded.got value.0 [] s.begun) ≡ F
        → Fills key ty bytes win pin r wout pout
    unfolding format.whole
    fills {win} {pin} F e f = record { is = e ∙ sym (ap (filled win pin) (top_read M ∙ ap format.whole value.1) ∙ f) }

    module _ {win pin : List ℕ} where
      pub f_words : s.words < 2 ^ 64 → length win < s.words → Fills key ty bytes win pin (Err (bad (made.NoRoom s.words) s.begun)) win pin
      f_words small short = fills _ refl (no_words win pin value.0 s.begun value.2 small short)

      module _ (room : s.words ≤ length win) where
        pub f_pool : s.pool < 2 ^ 64 → length pin < s.pool → Fills key ty bytes win pin (Err (bad (made.NoRoom s.pool) s.begun)) win pin
        f_pool small short = fills _ refl (no_pool win pin value.0 s.begun (omega (arith, value.2)) value.3 small short)

        pub f_done : s.pool ≤ length pin → {wout pout : List ℕ} → TopFilled bare bytes win pin wout pout → Fills key ty bytes win pin (Ok s) wout pout
        f_done room2 f =
            let lw : length (val_words value.0) ≤ length win = omega (arith, value.2) in
            let lp : length (val_pool value.0) ≤ length pin = omega (arith, value.3) in
            let g = f.fills (its M).t value.0 s.begun value.1 lw lp in
            fills _ (λ j. decoded_of (Ok (record { words = value.2 j; pool = value.3 j; begun = s.begun })) (g.0 j) (g.1 j)) (all_room win pin value.0 s.begun lw lp)

-- ---- the calls

module _ {ty bytes win pin : List ℕ} {r : Result Decoded Refused} {wout pout : List ℕ} where
  pub typed_call : AllBytes bytes → Fills false ty bytes win pin r wout pout → Decodes (decode_typed_call ty bytes win pin) bytes r wout pout
  unfolding decode_typed_call
  typed_call ab f = record { is = f.is; few = rw f.is (few_typed_call ty bytes win pin ab) }

  pub key_call : AllBytes bytes → Fills true ty bytes win pin r wout pout → Decodes (decode_key_call ty bytes win pin) bytes r wout pout
  unfolding decode_key_call
  key_call ab f =
      let q : decoded_of r wout pout ≡ decode_key_call ty bytes win pin = f.is ∙ (λ j. filled win pin (decoded_by (type_of ty) (λ t. key_is_lem t bytes j))) in
      record { is = q; few = rw q (few_key_call ty bytes win pin ab) }

module _ (ty : List ℕ) {bytes : List ℕ} (ab : AllBytes bytes) where
  checked : {r : Result ℕ Refused} → checked_of r ≡ checked_by (decoded_top true ty bytes) → ChecksKey (check_key_call ty bytes) bytes r
  unfolding check_key_call
  checked {r} e =
      let q : checked_of r ≡ check_key_call ty bytes = e ∙ (λ j. checked_by (decoded_by (type_of ty) (λ t. key_is_lem t bytes j))) in
      record { is = q; few = rw q (few_check_call ty bytes ab) }

  pub c_type : {q : Bool} → q ≡ is_some (type_of ty) → not q ≡ true → ChecksKey (check_key_call ty bytes) bytes (Err (bad made.BadType 0))
  c_type {q} a l = checked (rw (none_is (type_of ty) (sym a ∙ not-true q l)))

  module _ {bare : Bool} where
    pub c_bad : {f : Refused} → Measured true ty bytes bare (Err f) → ChecksKey (check_key_call ty bytes) bytes (Err f)
    c_bad M = checked (sym (ap checked_by (refused_is _ (decoded_top true ty bytes) (measured_is M))))

    pub c_good : {s : Decoded} → Measured true ty bytes bare (Ok s) → ChecksKey (check_key_call ty bytes) bytes (Ok s.begun)
    c_good M = checked (accepted_is (decoded_top true ty bytes) (measured_is M))

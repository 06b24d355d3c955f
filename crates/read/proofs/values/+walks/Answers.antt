-- Each goal is what stands at its place (a turn of the loop, behind a record's opening, at an alternative, a blank or what is none), and the law of that way out.
use Rattle.std.proofs.Common.{◌*◌, ◌^◌, ◌≤◌, take, ◌≡◌, List, ℕ, ◌-◌, ◌<◌, drop, length, arith, get_or, ap}
use Rattle.std.specs.Prelude.{Result, Ok, Err, Option, Some, None}
use Rattle.std.proofs.lemmas.Result.{err_from_is_err_and}
use Rattle.format.specs.declared.refusal.Refusal.{Refusal}
use Rattle.format.specs.declared.refusal.Refusal.TheVariants as made
use Rattle.format.specs.Fields.{taken_from}
use Rattle.format.specs.Cursor.{union_mark}
use Rattle.scalar.specs.Answers.{got_int}
use Rattle.scalar.specs.declared.taken.Taken.{Taken}
use Rattle.sheet.specs.Places.{Picks}
use Rattle.read.specs.Walk.{TypeAt}
use Rattle.read.proofs.ValueLaws as laws
use Rattle.read.proofs.BlankLaws as blanks
use Rattle.read.proofs.FieldLaws as fields
use Rattle.read.proofs.values.+walks.Goals as goal
use Rattle.read.proofs.values.+walks.Goals.{walk_fields-In-Ok, walk_fields-In-Err-walk_value, walk_plain-In_ok-used, walk_plain-In_ok-place, walk_value-then-ty-at-eq-KIND_OPTIONAL+in_default, walk_value-else-ty-at-eq-KIND_OPTIONAL}

-- what is at hand once a field's walk has answered
refused_field : (t : ℕ) (c : walk_fields-In-Err-walk_value t) → fields.Turn c.args.ty.now c.args.at c.args.n c.args.bytes.now c.args.i c.args.depth c.args.asked (c.args.n - c.loop-done.done) c.loop-done.sum (Err c.in-Err-walk_value.refused)
refused_field t c = record { one = c.asks.result; turned = c.loop-done.invariant; some = omega (arith, c.loop-done-test.true); begins = c.in_default.ensures; asks = c.asks.ensures; value = c.in-Err-walk_value.ensures }

read_field : (t : ℕ) (c : walk_fields-In-Ok t) → fields.Turn c.args.ty.now c.args.at c.args.n c.args.bytes.now c.args.i c.args.depth c.args.asked (c.args.n - c.loop-done.done) c.loop-done.sum (Ok c.in-Ok.field)
read_field t c = record { one = c.asks.result; turned = c.loop-done.invariant; some = omega (arith, c.loop-done-test.true); begins = c.in_default.ensures; asks = c.asks.ensures; value = c.in-Ok.ensures }

-- and behind a group's opening
in_record : (t : ℕ) (c : walk_plain-In_ok-used t) → laws.InRecord c.args.ty.now c.args.at c.args.bytes.now c.args.i c.args.depth c.in_ok-used.used
in_record t c = record { o = c.open_record.result; opened = laws.record_opened c.args.bytes.now c.args.i c.args.depth c.requires c.well_formed.0.1 c.if-kind-eq-KIND_RECORD.true c.open_record.ensures; done = c.in_ok-used.was }

module _ {ty : List ℕ} {at : ℕ} {bytes : List ℕ} {i depth : ℕ} (g : TypeAt ty at × ((i ≤ length bytes) × (get_or ty at 0 < 7))) (few : length ty * 4 < 2 ^ 63) (k : 5 ≤ get_or ty at 0) (l : get_or ty at 0 ≡ 5 → ⊥) where
  in_union : {o : Result (Taken ℕ) Refusal} → got_int o ≡ taken_from (take (length bytes - i) (drop i bytes)) (union_mark depth (take (length bytes - i) (drop i bytes))) → {x : Taken ℕ} → o ≡ Ok x
      → {place : Option ℕ} {left : ℕ} → Picks ty at x.value place left → laws.InUnion ty at bytes i depth x place left
  in_union {o} h {x} e p = record { o = o; opening = laws.union_opened bytes i depth g few k l h; tagged = e; picks = p }

in_alternative : (t : ℕ) (c : walk_plain-In_ok-place t)
    → laws.InUnion c.args.ty.now c.args.at c.args.bytes.now c.args.i c.args.depth c.in_ok-opened.opened c.alternative-choice.result.place c.alternative-choice.result.left
in_alternative t c = in_union c.requires c.well_formed.0.1 c.if-kind-lt-KIND_RECORD.false c.if-kind-eq-KIND_RECORD.false c.open_union.ensures c.in_ok-opened.was c.alternative-choice.ensures.picks

is_there : (t : ℕ) (c : walk_plain-In_ok-place t) → c.alternative-choice.result.place ≡ Some c.in_ok-place.place
is_there t c = grind arith

pub walk_fields-loop-done-init : goal.walk_fields-loop-done-init
walk_fields-loop-done-init t c = fields.t_start (omega arith) c.requires.0 c.requires.1

pub walk_fields-field_refusal-requires : goal.walk_fields-field_refusal-requires
walk_fields-field_refusal-requires t c = c.loop-done.invariant.place

pub walk_fields-returns-in-Err : goal.walk_fields-returns-in-Err
walk_fields-returns-in-Err t c = fields.t_not c.loop-done.invariant (omega (arith, c.loop-done-test.true)) c.in-Err.ensures

pub walk_fields-walk_value-requires : goal.walk_fields-walk_value-requires
walk_fields-walk_value-requires t c =
    let some : 0 < c.args.n - c.loop-done.done = omega (arith, c.loop-done-test.true) in
    (omega (arith, c.decreases, c.loop-done.invariant.few some), (fields.t_type c.loop-done.invariant some, c.loop-done.invariant.place))

pub walk_fields-after-requires : goal.walk_fields-after-requires
walk_fields-after-requires t c = omega (arith, fields.t_few (refused_field t (goal.at.walk_fields-after-requires t c).In-Err-walk_value), c.well_formed.0.0)

pub walk_fields-returns-in-Err-walk_value : goal.walk_fields-returns-in-Err-walk_value
walk_fields-returns-in-Err-walk_value t c = rw c.after.ensures (fields.t_bad (refused_field t (goal.at.walk_fields-returns-in-Err-walk_value t c).In-Err-walk_value))

pub walk_fields-overflow_add-sum : goal.walk_fields-overflow_add-sum
walk_fields-overflow_add-sum t c = omega (arith, (fields.t_sums (read_field t (goal.at.walk_fields-overflow_add-sum t c).In-Ok)).0, c.well_formed.0.1)

pub walk_fields-overflow_add-sum-in-Ok : goal.walk_fields-overflow_add-sum-in-Ok
walk_fields-overflow_add-sum-in-Ok t c = omega (arith, (fields.t_sums (read_field t (goal.at.walk_fields-overflow_add-sum-in-Ok t c).In-Ok)).1, c.well_formed.1.1.1.0.0)

pub walk_fields-overflow_add-sum-in-Ok-2 : goal.walk_fields-overflow_add-sum-in-Ok-2
walk_fields-overflow_add-sum-in-Ok-2 t c = omega (arith, (fields.t_sums (read_field t (goal.at.walk_fields-overflow_add-sum-in-Ok-2 t c).In-Ok)).2, c.well_formed.0.0)

pub walk_fields-loop-done-preserved : goal.walk_fields-loop-done-preserved
walk_fields-loop-done-preserved t c = fields.t_next (read_field t (goal.at.walk_fields-loop-done-preserved t c).In-Ok) (omega arith)

pub walk_fields-fields_end-requires : goal.walk_fields-fields_end-requires
walk_fields-fields_end-requires t c = c.loop-done.invariant.place

pub walk_fields-returns-in-Err-fields_end : goal.walk_fields-returns-in-Err-fields_end
walk_fields-returns-in-Err-fields_end t c = fields.t_end c.loop-done.invariant (omega (arith, c.loop-done-test.false)) (rw c.in-Err-fields_end.is at c.fields_end.ensures)

pub walk_fields-returns-in-Ok-fields_end : goal.walk_fields-returns-in-Ok-fields_end
walk_fields-returns-in-Ok-fields_end t c = fields.t_done c.loop-done.invariant (omega (arith, c.loop-done-test.false)) (rw c.in-Ok-fields_end.is at c.fields_end.ensures)

pub walk_plain-bounds-ty-at : goal.walk_plain-bounds-ty-at
walk_plain-bounds-ty-at t c = omega (arith, laws.at_in c.requires.0)

pub walk_plain-walk_scalar-requires : goal.walk_plain-walk_scalar-requires
walk_plain-walk_scalar-requires t c = record {
  typed = c.requires.0;
  plain = (c.if-kind-lt-KIND_RECORD.true, omega (arith, laws.rest_room c.args.bytes.now c.args.i c.requires.1.0));
}

pub walk_plain-returns-then-kind-lt-KIND_RECORD : goal.walk_plain-returns-then-kind-lt-KIND_RECORD
walk_plain-returns-then-kind-lt-KIND_RECORD t c = laws.v_scalar c.requires.1.0 c.walk_scalar.ensures

pub walk_plain-bounds-ty-at-then-kind-eq-KIND_RECORD : goal.walk_plain-bounds-ty-at-then-kind-eq-KIND_RECORD
walk_plain-bounds-ty-at-then-kind-eq-KIND_RECORD t c = omega (arith, laws.second_in c.requires.0 c.if-kind-eq-KIND_RECORD.true)

pub walk_plain-returns-in_err-used : goal.walk_plain-returns-in_err-used
walk_plain-returns-in_err-used t c =
    let p = err_from_is_err_and c.from_residual.result c.from_residual.ensures.1 in
    rw (p.1, p.2)
    (laws.v_record_bad (laws.record_opened c.args.bytes.now c.args.i c.args.depth c.requires c.well_formed.0.1 c.if-kind-eq-KIND_RECORD.true c.open_record.ensures) c.in_err-used.was)

pub walk_plain-overflow_add-at : goal.walk_plain-overflow_add-at
walk_plain-overflow_add-at t c = omega (arith, laws.second_in c.requires.0 c.if-kind-eq-KIND_RECORD.true)

pub walk_plain-overflow_add-i : goal.walk_plain-overflow_add-i
walk_plain-overflow_add-i t c = omega (arith, (laws.v_record_next (in_record t (goal.at.walk_plain-overflow_add-i t c).In_ok-used)).1)

pub walk_plain-overflow_add-depth : goal.walk_plain-overflow_add-depth
walk_plain-overflow_add-depth t c = omega (arith, (laws.v_record_next (in_record t (goal.at.walk_plain-overflow_add-depth t c).In_ok-used)).0)

pub walk_plain-walk_fields-r-requires : goal.walk_plain-walk_fields-r-requires
walk_plain-walk_fields-r-requires t c =
    let n = laws.v_record_next (in_record t (goal.at.walk_plain-walk_fields-r-requires t c).In_ok-used) in
    (omega (arith, c.decreases, laws.second_in c.requires.0 c.if-kind-eq-KIND_RECORD.true), (n.2, n.1))

pub walk_plain-more-requires : goal.walk_plain-more-requires
walk_plain-more-requires t c = (omega arith, omega arith, laws.v_record_small (in_record t (goal.at.walk_plain-more-requires t c).In_ok-used) c.walk_fields-r.ensures)

pub walk_plain-returns-then-kind-eq-KIND_RECORD : goal.walk_plain-returns-then-kind-eq-KIND_RECORD
walk_plain-returns-then-kind-eq-KIND_RECORD t c = rw c.more.ensures (laws.v_record (in_record t (goal.at.walk_plain-returns-then-kind-eq-KIND_RECORD t c).In_ok-used) c.walk_fields-r.ensures)

pub walk_plain-returns-in_err-opened : goal.walk_plain-returns-in_err-opened
walk_plain-returns-in_err-opened t c =
    let p = err_from_is_err_and c.from_residual-in_err-opened.result c.from_residual-in_err-opened.ensures.1 in
    rw (p.1, p.2)
    (laws.v_union_bad (laws.union_opened c.args.bytes.now c.args.i c.args.depth c.requires c.well_formed.0.1 c.if-kind-lt-KIND_RECORD.false c.if-kind-eq-KIND_RECORD.false c.open_union.ensures) c.in_err-opened.was)

pub walk_plain-returns-in_err-place : goal.walk_plain-returns-in_err-place
walk_plain-returns-in_err-place t c =
    let p = err_from_is_err_and c.from_residual-in_err-place.result c.from_residual-in_err-place.ensures.1 in
    let none : c.alternative-choice.result.place ≡ None = grind arith in
    let why : c.in_err-place.field-0.0 ≡ made.UnknownDiscriminant c.in_ok-opened.opened.value = grind arith in
    rw (p.1, p.2, why)
    (laws.v_missing (in_union c.requires c.well_formed.0.1 c.if-kind-lt-KIND_RECORD.false c.if-kind-eq-KIND_RECORD.false c.open_union.ensures c.in_ok-opened.was c.alternative-choice.ensures.picks) none)

pub walk_plain-overflow_add-i-2 : goal.walk_plain-overflow_add-i-2
walk_plain-overflow_add-i-2 t c =
    let y : c.alternative-choice.result.place ≡ Some c.in_ok-place.place = grind arith in
    omega (arith, (laws.v_union_next (in_union c.requires c.well_formed.0.1 c.if-kind-lt-KIND_RECORD.false c.if-kind-eq-KIND_RECORD.false c.open_union.ensures c.in_ok-opened.was c.alternative-choice.ensures.picks) y).2)

pub walk_plain-overflow_add-depth-2 : goal.walk_plain-overflow_add-depth-2
walk_plain-overflow_add-depth-2 t c =
    let y : c.alternative-choice.result.place ≡ Some c.in_ok-place.place = grind arith in
    omega (arith, (laws.v_union_next (in_union c.requires c.well_formed.0.1 c.if-kind-lt-KIND_RECORD.false c.if-kind-eq-KIND_RECORD.false c.open_union.ensures c.in_ok-opened.was c.alternative-choice.ensures.picks) y).1)

pub walk_plain-walk_value-r-requires : goal.walk_plain-walk_value-r-requires
walk_plain-walk_value-r-requires t c =
    let p = (goal.at.walk_plain-walk_value-r-requires t c).In_ok-place in
    let n = laws.v_union_next (in_alternative t p) (is_there t p) in
    (omega (arith, c.decreases, laws.at_in c.requires.0, n.0), (n.3, n.2))

pub walk_plain-close_union-requires : goal.walk_plain-close_union-requires
walk_plain-close_union-requires t c =
    let p = (goal.at.walk_plain-close_union-requires t c).In_ok-place in
    laws.v_in_key (in_alternative t p) (is_there t p) c.walk_value-r.ensures

pub walk_plain-more-requires-2 : goal.walk_plain-more-requires-2
walk_plain-more-requires-2 t c =
    let y : c.alternative-choice.result.place ≡ Some c.in_ok-place.place = grind arith in (
      omega arith,
      omega arith,
      laws.v_union_small (in_union c.requires c.well_formed.0.1 c.if-kind-lt-KIND_RECORD.false c.if-kind-eq-KIND_RECORD.false c.open_union.ensures c.in_ok-opened.was c.alternative-choice.ensures.picks) y
          c.walk_value-r.ensures _ c.close_union.ensures,
    )

pub walk_plain-returns : goal.walk_plain-returns
walk_plain-returns t c =
    let p = (goal.at.walk_plain-returns t c).In_ok-place in
    rw c.more-2.ensures (laws.v_union (in_alternative t p) (is_there t p) c.walk_value-r.ensures _ c.close_union.ensures)

pub walk_value-bounds-ty-at : goal.walk_value-bounds-ty-at
walk_value-bounds-ty-at t c = omega (arith, laws.at_in c.requires.0)

pub walk_value-overflow_add-i : goal.walk_value-overflow_add-i
walk_value-overflow_add-i t c = omega (arith, blanks.null_room c.args.bytes.now c.args.i c.args.depth c.null.ensures c.requires.1 c.in-Ok.is)

pub walk_value-returns-in-Ok : goal.walk_value-returns-in-Ok
walk_value-returns-in-Ok t c = blanks.v_blank c.if-ty-at-eq-KIND_OPTIONAL.true c.null.ensures c.requires.1 c.in-Ok.is c.skip_type.ensures (ap Ok c.blank.ensures)

pub walk_value-walk_plain-requires : goal.walk_value-walk_plain-requires
walk_value-walk_plain-requires t c =
    let peeled : blanks.Peeled c.args.ty.now c.args.at c.args.bytes.now c.args.i c.args.depth c.if-ty-at-eq-KIND_OPTIONAL.place = elim c.if-ty-at-eq-KIND_OPTIONAL.branch [
      | walk_value-then-ty-at-eq-KIND_OPTIONAL+in_default w ↦ blanks.p_filled w.if-ty-at-eq-KIND_OPTIONAL.true w.null.ensures w.in_default.is w.place-is
      | walk_value-else-ty-at-eq-KIND_OPTIONAL w ↦ blanks.plain w.if-ty-at-eq-KIND_OPTIONAL.false w.place-is
    ] in
    let n = blanks.p_next peeled c.requires.0 in
    (omega (arith, c.decreases, n.2), (n.0, (c.requires.1, n.1)))

pub walk_value-returns : goal.walk_value-returns
walk_value-returns t c =
    let peeled : blanks.Peeled c.args.ty.now c.args.at c.args.bytes.now c.args.i c.args.depth c.if-ty-at-eq-KIND_OPTIONAL.place = elim c.if-ty-at-eq-KIND_OPTIONAL.branch [
      | walk_value-then-ty-at-eq-KIND_OPTIONAL+in_default w ↦ blanks.p_filled w.if-ty-at-eq-KIND_OPTIONAL.true w.null.ensures w.in_default.is w.place-is
      | walk_value-else-ty-at-eq-KIND_OPTIONAL w ↦ blanks.plain w.if-ty-at-eq-KIND_OPTIONAL.false w.place-is
    ] in
    blanks.p_value peeled c.walk_plain.ensures

use native.Mathlib.Omega.{arith}
use mathlib.Core.Path.{sym, ◌∙◌}
use borrow.Author.Rules.{rules}
use Rattle.std.proofs.lemmas.Result.{err_from_is_err_and}
use Rattle.fit.proofs.Steps as laws
use Rattle.fit.proofs.Leaves.{closed_bad}
use Rattle.fit.proofs.Optional as optional
use Rattle.fit.proofs.Rows.{start_left, next_stands, all_passed, field_refused, field_passed}
use Rattle.fit.proofs.+fits.Goals as goal

pub fit_fields-loop-passed-init : goal.fit_fields-loop-passed-init
fit_fields-loop-passed-init t c = start_left c.requires _ _ (omega arith)

pub fit_fields-fit_value-requires : goal.fit_fields-fit_value-requires
fit_fields-fit_value-requires t c =
    let i = c.loop-passed.invariant in
    (omega (arith, c.decreases, i.brief), next_stands c.requires i (omega arith))

pub fit_fields-returns-in_err-field : goal.fit_fields-returns-in_err-field
fit_fields-returns-in_err-field t c =
    let p = err_from_is_err_and c.from_residual.result c.from_residual.ensures.1 in
    rw (p.1, p.2) (field_refused c.loop-passed.invariant (omega arith) c.in_err-field.ensures)

pub fit_fields-overflow_add-row : goal.fit_fields-overflow_add-row
fit_fields-overflow_add-row t c =
    let s = c.requires in
    omega (arith, c.loop-passed.invariant.brief, c.in_ok-field.ensures.brief, s.few, s.small)

pub fit_fields-loop-passed-preserved : goal.fit_fields-loop-passed-preserved
fit_fields-loop-passed-preserved t c =
    let a = c.asks-asks.ensures in
    field_passed c.loop-passed.invariant (omega arith) a.0 a.1 (omega arith) c.in_ok-field.ensures

pub fit_fields-returns : goal.fit_fields-returns
fit_fields-returns t c = all_passed c.loop-passed.invariant (omega arith)

pub fit_value-plain_place-at-requires : goal.fit_value-plain_place-at-requires
fit_value-plain_place-at-requires t c = omega (arith, laws.type_in_lem c.requires)

pub fit_value-offset_bounds-ty-at : goal.fit_value-offset_bounds-ty-at
fit_value-offset_bounds-ty-at t c = search (rules, optional.place_in c.requires c.plain_place-at.ensures)

pub fit_value-bounds-ty-at : goal.fit_value-bounds-ty-at
fit_value-bounds-ty-at t c = omega (arith, optional.place_in c.requires c.plain_place-at.ensures)

pub fit_value-bounds-words-w : goal.fit_value-bounds-words-w
fit_value-bounds-words-w t c = omega (arith, laws.word_in c.requires)

pub fit_value-fit_other-requires : goal.fit_value-fit_other-requires
fit_value-fit_other-requires t c = (c.requires, λ z. c.if-words-w.true (rw (c.from.ensures, c.plain_place-at.ensures) z))

pub fit_value-returns-then-words-w : goal.fit_value-returns-then-words-w
fit_value-returns-then-words-w t c = c.fit_other.ensures

pub fit_value-bounds-words-w-2 : goal.fit_value-bounds-words-w-2
fit_value-bounds-words-w-2 t c = let m = optional.matched c.requires c.plain_place-at.ensures (c.if-words-w.false ∙ c.from.ensures) in omega (arith, laws.word_second m.stands m.same)

pub fit_value-fit_leaf-requires : goal.fit_value-fit_leaf-requires
fit_value-fit_leaf-requires t c =
    let m = optional.matched c.requires c.plain_place-at.ensures (c.if-words-w.false ∙ c.from.ensures) in
    let s = m.stands in
    (omega (arith, laws.type_in_lem s), omega (arith, laws.word_second s m.same), laws.leaf_room s m.same c.if-kind-lt-KIND_FACT.true, s.small, λ z. omega (arith, c.if-kind-lt-KIND_FACT.true))

pub fit_value-returns-then-kind-lt-KIND_FACT : goal.fit_value-returns-then-kind-lt-KIND_FACT
fit_value-returns-then-kind-lt-KIND_FACT t c =
    let m = optional.matched c.requires c.plain_place-at.ensures (c.if-words-w.false ∙ c.from.ensures) in
    rw c.fit_leaf.ensures (m.back (laws.leaf m.same m.stands c.if-kind-lt-KIND_FACT.true))

pub fit_value-overflow_add-n : goal.fit_value-overflow_add-n
fit_value-overflow_add-n t c = search (rules, optional.place_in c.requires c.plain_place-at.ensures)

pub fit_value-offset_bounds-ty-at-2 : goal.fit_value-offset_bounds-ty-at-2
fit_value-offset_bounds-ty-at-2 t c = search (rules, optional.place_in c.requires c.plain_place-at.ensures)

pub fit_value-bounds-ty-at-2 : goal.fit_value-bounds-ty-at-2
fit_value-bounds-ty-at-2 t c = let m = optional.matched c.requires c.plain_place-at.ensures (c.if-words-w.false ∙ c.from.ensures) in omega (arith, laws.type_second m.stands c.if-kind-lt-KIND_FACT.false m.plain)

pub fit_value-fit_ref-requires : goal.fit_value-fit_ref-requires
fit_value-fit_ref-requires t c =
    let m = optional.matched c.requires c.plain_place-at.ensures (c.if-words-w.false ∙ c.from.ensures) in
    (omega (arith, laws.type_second m.stands c.if-kind-lt-KIND_FACT.false m.plain), omega (arith, laws.word_second m.stands m.same))

pub fit_value-returns-then-kind-eq-KIND_FACT : goal.fit_value-returns-then-kind-eq-KIND_FACT
fit_value-returns-then-kind-eq-KIND_FACT t c =
    let m = optional.matched c.requires c.plain_place-at.ensures (c.if-words-w.false ∙ c.from.ensures) in
    m.back (laws.reference m.same m.stands c.if-kind-eq-KIND_FACT.true c.fit_ref.ensures)

pub fit_value-returns-then-x-from : goal.fit_value-returns-then-x-from
fit_value-returns-then-x-from t c =
    let m = optional.matched c.requires c.plain_place-at.ensures (c.if-words-w.false ∙ c.from.ensures) in
    m.back (laws.miscount m.same c.if-kind-eq-KIND_RECORD.true (λ z. c.if-x-from.true (z ∙ sym c.from-then-kind-eq-KIND_RECORD.ensures)))

pub fit_value-returns-then-depth-ge-MAX_RECORD_DEPTH : goal.fit_value-returns-then-depth-ge-MAX_RECORD_DEPTH
fit_value-returns-then-depth-ge-MAX_RECORD_DEPTH t c =
    let m = optional.matched c.requires c.plain_place-at.ensures (c.if-words-w.false ∙ c.from.ensures) in
    m.back (laws.too_deep m.same c.if-kind-eq-KIND_RECORD.true (c.if-x-from.false ∙ c.from-then-kind-eq-KIND_RECORD.ensures) c.if-depth-ge-MAX_RECORD_DEPTH.true)

pub fit_value-overflow_add-at : goal.fit_value-overflow_add-at
fit_value-overflow_add-at t c = search (rules, optional.place_in c.requires c.plain_place-at.ensures)

pub fit_value-fit_fields-requires : goal.fit_value-fit_fields-requires
fit_value-fit_fields-requires t c =
    let m = optional.matched c.requires c.plain_place-at.ensures (c.if-words-w.false ∙ c.from.ensures) in
    let s = m.stands in
    let count = c.if-x-from.false ∙ c.from-then-kind-eq-KIND_RECORD.ensures in
    (omega (arith, c.decreases, laws.word_second s m.same), laws.fields_stand s m.same c.if-kind-eq-KIND_RECORD.true count)

pub fit_value-overflow_add-result : goal.fit_value-overflow_add-result
fit_value-overflow_add-result t c = let n = laws.fields_short c.requires c.in_ok-row.ensures in omega arith

pub fit_value-returns-in_err-row : goal.fit_value-returns-in_err-row
fit_value-returns-in_err-row t c =
    let m = optional.matched c.requires c.plain_place-at.ensures (c.if-words-w.false ∙ c.from.ensures) in
    let count = c.if-x-from.false ∙ c.from-then-kind-eq-KIND_RECORD.ensures in
    let p = err_from_is_err_and c.from_residual.result c.from_residual.ensures.1 in
    rw (p.1, p.2) (m.back (laws.in_record m.same c.if-kind-eq-KIND_RECORD.true count c.if-depth-ge-MAX_RECORD_DEPTH.false c.in_err-row.ensures))

pub fit_value-returns-then-kind-eq-KIND_RECORD : goal.fit_value-returns-then-kind-eq-KIND_RECORD
fit_value-returns-then-kind-eq-KIND_RECORD t c =
    let m = optional.matched c.requires c.plain_place-at.ensures (c.if-words-w.false ∙ c.from.ensures) in
    let count = c.if-x-from.false ∙ c.from-then-kind-eq-KIND_RECORD.ensures in
    m.back (laws.in_record m.same c.if-kind-eq-KIND_RECORD.true count c.if-depth-ge-MAX_RECORD_DEPTH.false c.in_ok-row.ensures)

pub fit_value-returns-in_default : goal.fit_value-returns-in_default
fit_value-returns-in_default t c =
    let m = optional.matched c.requires c.plain_place-at.ensures (c.if-words-w.false ∙ c.from.ensures) in
    m.back (laws.no_alternative m.same (omega (arith, m.plain)) c.alternative-choice.ensures.picks c.in_default.not-Some)

pub fit_value-returns-then-depth-ge-MAX_RECORD_DEPTH-2 : goal.fit_value-returns-then-depth-ge-MAX_RECORD_DEPTH-2
fit_value-returns-then-depth-ge-MAX_RECORD_DEPTH-2 t c =
    let m = optional.matched c.requires c.plain_place-at.ensures (c.if-words-w.false ∙ c.from.ensures) in
    m.back (laws.deep_union m.same (omega (arith, m.plain)) c.alternative-choice.ensures.picks c.in-Some.is c.if-depth-ge-MAX_RECORD_DEPTH-2.true)

pub fit_value-fit_value-requires : goal.fit_value-fit_value-requires
fit_value-fit_value-requires t c =
    let m = optional.matched c.requires c.plain_place-at.ensures (c.if-words-w.false ∙ c.from.ensures) in
    let s = m.stands in
    let found = c.alternative-choice.ensures.picks in
    (omega (arith, c.decreases, laws.word_second s m.same), laws.payload_stands m.same (omega (arith, m.plain)) found s c.in-Some.is)

pub fit_value-in_union-requires : goal.fit_value-in_union-requires
fit_value-in_union-requires t c = laws.value_short c.requires c.in-Ok.ensures

pub fit_value-returns-in-Ok : goal.fit_value-returns-in-Ok
fit_value-returns-in-Ok t c =
    let m = optional.matched c.requires c.plain_place-at.ensures (c.if-words-w.false ∙ c.from.ensures) in
    let found = c.alternative-choice.ensures.picks in
    m.back (laws.in_union_lem m.same (omega (arith, m.plain)) found c.in-Some.is c.if-depth-ge-MAX_RECORD_DEPTH-2.false c.in-Ok.ensures c.in_union.ensures)

pub fit_value-returns-in-Err : goal.fit_value-returns-in-Err
fit_value-returns-in-Err t c =
    let m = optional.matched c.requires c.plain_place-at.ensures (c.if-words-w.false ∙ c.from.ensures) in
    let found = c.alternative-choice.ensures.picks in
    let closed = closed_bad _ _ _ _ c.in-Err.why _ c.union_refusal.ensures in
    m.back (laws.in_union_lem m.same (omega (arith, m.plain)) found c.in-Some.is c.if-depth-ge-MAX_RECORD_DEPTH-2.false c.in-Err.ensures closed)

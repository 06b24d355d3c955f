use Rattle.std.proofs.Common.{sym, ◌∙◌, arith}
use Rattle.fill.proofs.RowLaws as laws
use Rattle.fill.proofs.groups.+groups.Goals as goal
use Rattle.fill.proofs.groups.+groups.Goals.{fill_fields-then-mark-eq-MARK_NULL+else-words-w1, fill_fields-else-mark-eq-MARK_NULL+else-words-w1-lt2+then-opens_group, fill_fields-else-mark-eq-MARK_NULL+else-words-w1-lt2+else-opens_group}

pub fill_fields-loop-mark-init : goal.fill_fields-loop-mark-init
fill_fields-loop-mark-init t c = laws.passing_start (omega arith) c.requires

pub fill_fields-bounds-bytes-j : goal.fill_fields-bounds-bytes-j
fill_fields-bounds-bytes-j t c = laws.goes_on c.args.bytes.now c.loop-mark.j c.args.depth (sym c.loop-mark-test.true ∙ c.fields_end.ensures)

pub fill_fields-overflow_add-j : goal.fill_fields-overflow_add-j
fill_fields-overflow_add-j t c =
    let on = sym c.loop-mark-test.true ∙ c.fields_end.ensures in
    omega (arith, c.fill_null-j.ensures.0, (laws.null_long c.args.bytes.now c.loop-mark.j c.args.depth on c.if-mark-eq-MARK_NULL.true).1)

pub fill_fields-fill_group-g-requires : goal.fill_fields-fill_group-g-requires
fill_fields-fill_group-g-requires t c =
    let on = laws.goes_on c.args.bytes.now c.loop-mark.j c.args.depth (sym c.loop-mark-test.true ∙ c.fields_end.ensures) in
    let inv = c.loop-mark.invariant in
    (omega (arith, c.decreases, inv.onward.on), (laws.passing_ready inv c.requires.deep, (on, omega (arith, c.if-words-w1-lt2.false), sym c.opens_group.ensures ∙ c.if-opens_group.true)))

pub fill_fields-fill_leaf-j-requires : goal.fill_fields-fill_leaf-j-requires
fill_fields-fill_leaf-j-requires t c =
    let on = laws.goes_on c.args.bytes.now c.loop-mark.j c.args.depth (sym c.loop-mark-test.true ∙ c.fields_end.ensures) in
    let inv = c.loop-mark.invariant in
    (on, omega (arith, c.if-words-w1-lt2.false), omega (arith, inv.onward.pool_in, inv.onward.kept_pool), omega (arith, c.if-mark-eq-MARK_NULL.false), sym c.opens_group.ensures ∙ c.if-opens_group.false)

pub fill_fields-overflow_add-n : goal.fill_fields-overflow_add-n
fill_fields-overflow_add-n t c = omega (arith, c.loop-mark.invariant.onward.few, laws.goes_on c.args.bytes.now c.loop-mark.j c.args.depth (sym c.loop-mark-test.true ∙ c.fields_end.ensures))

pub fill_fields-loop-mark-smaller : goal.fill_fields-loop-mark-smaller
fill_fields-loop-mark-smaller t c =
    let on = sym c.loop-mark-test.true ∙ c.fields_end.ensures in
    elim c.if-mark-eq-MARK_NULL.branch [
      | fill_fields-then-mark-eq-MARK_NULL+else-words-w1 w ↦
          let k = laws.null_long c.args.bytes.now c.loop-mark.j c.args.depth on w.if-mark-eq-MARK_NULL.true in omega (arith, k.0, k.1, w.fill_null-j.ensures.0, w.j-is)
      | fill_fields-else-mark-eq-MARK_NULL+else-words-w1-lt2+then-opens_group w ↦ omega (arith, w.fill_group-g.ensures.onward.on, w.fill_group-g.ensures.onward.inside, w.j-is)
      | fill_fields-else-mark-eq-MARK_NULL+else-words-w1-lt2+else-opens_group w ↦ omega (arith, w.fill_leaf-j.ensures.onward.on, w.fill_leaf-j.ensures.onward.inside, w.j-is)
    ]

pub fill_fields-loop-mark-preserved : goal.fill_fields-loop-mark-preserved
fill_fields-loop-mark-preserved t c =
    let inv = c.loop-mark.invariant in
    let on = sym c.loop-mark-test.true ∙ c.fields_end.ensures in
    elim c.if-mark-eq-MARK_NULL.branch [
      | fill_fields-then-mark-eq-MARK_NULL+else-words-w1 w ↦
          laws.passing_on inv on (laws.null_filled on w.if-mark-eq-MARK_NULL.true (omega (arith, w.if-words-w1.false)) (omega (arith, inv.onward.pool_in, inv.onward.kept_pool)) w.fill_null-j.ensures)
          w.words-is w.pool-is w.j-is w.w1-is w.p1-is
      | fill_fields-else-mark-eq-MARK_NULL+else-words-w1-lt2+then-opens_group w ↦ laws.passing_on inv on w.fill_group-g.ensures w.words-is w.pool-is w.j-is w.w1-is w.p1-is
      | fill_fields-else-mark-eq-MARK_NULL+else-words-w1-lt2+else-opens_group w ↦
          laws.passing_on inv on (laws.leaf_filled c.args.depth w.fill_leaf-j.ensures) w.words-is w.pool-is w.j-is w.w1-is (rw (← w.pool_taken-p1.ensures) w.p1-is)
    ]

pub fill_fields-returns-after-loop-mark : goal.fill_fields-returns-after-loop-mark
fill_fields-returns-after-loop-mark t c = laws.passing_end c.loop-mark.invariant (sym c.loop-mark-test.false ∙ c.fields_end.ensures)

pub fill_fields-returns-then-words-w1 : goal.fill_fields-returns-then-words-w1
fill_fields-returns-then-words-w1 t c = laws.passing_short c.loop-mark.invariant (sym c.loop-mark-test.true ∙ c.fields_end.ensures) (omega (arith, c.if-words-w1.true)) (λ z. c.if-words-w1.true)

pub fill_fields-returns-then-words-w1-lt2 : goal.fill_fields-returns-then-words-w1-lt2
fill_fields-returns-then-words-w1-lt2 t c = laws.passing_short c.loop-mark.invariant (sym c.loop-mark-test.true ∙ c.fields_end.ensures) c.if-words-w1-lt2.true (λ z. absurd (c.if-mark-eq-MARK_NULL.false z))

pub fill_group-returns-then-bytes-i-eq-MARK_RECORD : goal.fill_group-returns-then-bytes-i-eq-MARK_RECORD
fill_group-returns-then-bytes-i-eq-MARK_RECORD t c = laws.record_filled c.requires.1.0 c.requires.1.1 c.behind.ensures c.if-bytes-i-eq-MARK_RECORD.true c.fill_fields-r.ensures c.put_pair.ensures

pub fill_group-returns-then-bytes-j : goal.fill_group-returns-then-bytes-j
fill_group-returns-then-bytes-j t c = laws.no_tag c.requires.1.0 c.requires.1.1 c.requires.0.pool_in (laws.union_mark_lem _ c.requires.1.2 c.if-bytes-i-eq-MARK_RECORD.false) c.if-bytes-j.true

pub fill_group-returns : goal.fill_group-returns
fill_group-returns t c = laws.union_filled c.requires.1.0 c.requires.1.1 c.behind-2.ensures (laws.union_mark_lem _ c.requires.1.2 c.if-bytes-i-eq-MARK_RECORD.false) c.fill_uint-payload.ensures c.fill_fields-r-2.ensures

-- The cases of `union_mark`; what the discriminant took is known from the call that read it.
use Rattle.std.proofs.Common.{arith}
use Rattle.std.proofs.lemmas.Result.{err_from_is_err_and}
use Rattle.scalar.proofs.GroupLaws as laws
use Rattle.scalar.proofs.groups.open_union.Goals as goal

pub returns-in_err-tag : goal.returns-in_err-tag
returns-in_err-tag c =
    let e = err_from_is_err_and c.from_residual-in_err-tag.result c.from_residual-in_err-tag.ensures.1 in
    rw (e.1, e.2) (laws.union_bad c.args.depth c.args.rest.now c.in_ok-expect_mark.ensures c.in_err-tag.ensures)

pub returns-then-depth-ge-MAX_RECORD_DEPTH : goal.returns-then-depth-ge-MAX_RECORD_DEPTH
returns-then-depth-ge-MAX_RECORD_DEPTH c = search (laws.union_deep, c.in_ok-expect_mark.ensures, c.in_ok-tag.ensures)

pub overflow_add-result : goal.overflow_add-result
overflow_add-result c = omega (arith, laws.union_within c.args.depth c.args.rest.now c.in_ok-expect_mark.ensures c.in_ok-tag.ensures)

pub returns : goal.returns
returns c = search (laws.union_open, c.in_ok-expect_mark.ensures, c.in_ok-tag.ensures)

-- Too deep first; below 256 what opened is what the field opens, one deeper.
use Rattle.std.proofs.lemmas.Result.{err_from_is_err_and}
use Rattle.skip.proofs.Marks as laws
use Rattle.skip.proofs.union_token.Goals as goal

pub returns-then-depth-ge-MAX_RECORD_DEPTH : goal.returns-then-depth-ge-MAX_RECORD_DEPTH
returns-then-depth-ge-MAX_RECORD_DEPTH c = search laws.union_deep

pub returns-in_err-tag : goal.returns-in_err-tag
returns-in_err-tag c =
    let p = err_from_is_err_and c.from_residual.result c.from_residual.ensures.1 in
    rw (p.1, p.2) (laws.union_refused _ _ _ c.requires c.if-depth-ge-MAX_RECORD_DEPTH.false c.in_err-tag.ensures)

pub returns : goal.returns
returns c = laws.union_passed _ _ _ c.requires c.if-depth-ge-MAX_RECORD_DEPTH.false c.in_ok-tag.ensures

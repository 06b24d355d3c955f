-- `read_first` meets its contract: too long, no first line, or what its text says.
use Rattle.std.proofs.lemmas.Result.{err_from_is_err_and}
use mathlib.Core.Path.{◌≡◌}
use Rattle.keylines.specs.declared.reason.Reason.{Reason}
use Rattle.keylines.proofs.FirstLaws as laws
use Rattle.keylines.proofs.first.read_first.Goals as goal

pub returns-then-input-gt-MAX_INPUT : goal.returns-then-input-gt-MAX_INPUT
returns-then-input-gt-MAX_INPUT c = laws.too_long c.if-input-gt-MAX_INPUT.true

pub returns-in_err-feed : goal.returns-in_err-feed
returns-in_err-feed c =
    let none = c.in_err-feed.ensures.ok_part in
    let p = err_from_is_err_and c.from_residual.result c.from_residual.ensures.1 in
    let why = rw none at c.in_err-feed.ensures.value in
    let e : p.0 ≡ Reason.NoLine = cc in
    rw (p.1, e) (laws.no_line c.if-input-gt-MAX_INPUT.false (rw none at c.find.ensures.found))

pub returns-in_err-words : goal.returns-in_err-words
returns-in_err-words c =
    let feed = c.in_ok-feed.ensures.ok_part in
    let p = err_from_is_err_and c.from_residual-in_err-words.result c.from_residual-in_err-words.ensures.1 in
    rw (p.1, p.2) (laws.no_first c.if-input-gt-MAX_INPUT.false (rw feed at c.find.ensures.found) (c.find.ensures.inside _ feed) c.in_err-words.ensures)

pub returns : goal.returns
returns c =
    let feed = c.in_ok-feed.ensures.ok_part in
    laws.a_first c.if-input-gt-MAX_INPUT.false (rw feed at c.find.ensures.found) (c.find.ensures.inside _ feed) c.in_ok-words.ensures

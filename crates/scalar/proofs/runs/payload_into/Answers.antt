-- A payload as long as its run is the run, copied as it stands.
use Rattle.std.proofs.Common.{sym, ap, ◌∙◌, arith, take_all}
use Rattle.format.specs.Fields.{put}
use Rattle.scalar.proofs.Escapes.{unescape_same}
use Rattle.scalar.proofs.runs.payload_into.Goals as goal

pub returns-then-n-run : goal.returns-then-n-run
returns-then-n-run c =
    let a = c.args in
    rw (unescape_same a.run.now (sym c.requires.0 ∙ c.if-n-run.true)) (c.copy_to.ensures ∙ ap (λ x. put a.dst.now a.at x) (take_all a.n a.run.now (omega (arith, c.if-n-run.true))))

-- A payload as long as its run is the run.
use Rattle.std.proofs.Common.{sym, ◌∙◌}
use Rattle.scalar.proofs.Escapes.{unescape_same}
use Rattle.scalar.proofs.runs.payload_is_text.Goals as goal

pub returns-then-n-run : goal.returns-then-n-run
returns-then-n-run c = rw (unescape_same c.args.run.now (sym c.requires ∙ c.if-n-run.true)) c.valid.ensures

pub returns-else-n-run : goal.returns-else-n-run
returns-else-n-run c = c.run_is_text.ensures

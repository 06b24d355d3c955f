-- A mark, and a run behind it: each where there is room, so both where there is room for both.
use mathlib.Core.Path.{sym, ◌∙◌}
use native.Mathlib.Omega.{arith}
use borrow.Author.Tests.{leb-true, leb-false}
use Rattle.write.proofs.Stores.{run_counted, run_short}
use Rattle.write.proofs.put_run.Goals as goal

pub overflow_sub-out : goal.overflow_sub-out
overflow_sub-out c = let b = c.put_byte-end in omega (arith, b.ensures.inside, b.ensures.kept)

pub write_escaped-requires : goal.write_escaped-requires
write_escaped-requires c =
    let b = c.put_byte-end in
    let fit = sym c.run_fits.ensures ∙ c.if-run_fits.true in
    omega (arith, leb-true, b.ensures.inside, b.ensures.kept)

pub returns-then-run_fits : goal.returns-then-run_fits
returns-then-run_fits c =
    let b = c.put_byte-end.ensures in
    run_counted _ b (leb-true _ _ (sym c.run_fits.ensures ∙ c.if-run_fits.true)) c.write_escaped.ensures

pub returns : goal.returns
returns c = run_short _ c.put_byte-end.ensures (leb-false _ _ (sym c.run_fits.ensures ∙ c.if-run_fits.false))

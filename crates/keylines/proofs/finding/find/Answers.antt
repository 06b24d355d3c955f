-- `find` meets its contract: the first such byte of the rest is the first from the place on.
use Rattle.std.proofs.lemmas.List.{take_rest}
use mathlib.Core.Path.{refl}
use native.Mathlib.Omega.{arith}
use Rattle.keylines.proofs.TextLaws as laws
use Rattle.keylines.proofs.finding.find.Goals as goal

pub returns-in_err-behind : goal.returns-in_err-behind
returns-in_err-behind c =
    let a = c.args in
    rw c.from_residual.ensures (laws.found_none a.text.now a.at a.byte c.requires (rw (take_rest a.text.now a.at) at c.in_err-behind.ensures))

pub overflow_add-result : goal.overflow_add-result
overflow_add-result c =
    let a = c.args in
    omega (arith, (laws.found_some a.text.now a.at a.byte c.requires (rw (take_rest a.text.now a.at) at c.in_ok-behind.ensures)).inside _ refl)

pub returns : goal.returns
returns c = let a = c.args in laws.found_some a.text.now a.at a.byte c.requires (rw (take_rest a.text.now a.at) at c.in_ok-behind.ensures)

-- What ends the fields, by what is left of the key: nothing, or inside a group its end.
use Rattle.std.proofs.Common.{ap, ◌∙◌, arith, length-drop}
use Rattle.format.specs.Read.{ends_here}
use Rattle.scalar.proofs.Parts.{part_rest}
use Rattle.fill.proofs.RowLaws as laws
use Rattle.fill.proofs.groups.fields_end.Goals as goal

pub returns-then-bytes-j : goal.returns-then-bytes-j
returns-then-bytes-j c = let a = c.args in laws.end_past a.depth _ (omega (arith, length-drop a.j a.bytes.now))

pub returns-then-depth-eq0 : goal.returns-then-depth-eq0
returns-then-depth-eq0 c = let a = c.args in laws.end_outside a.depth _ (omega (arith, length-drop a.j a.bytes.now)) c.if-depth-eq0.true

pub returns : goal.returns
returns c =
    let a = c.args in
    c.ends_here.ensures ∙ ap ends_here (part_rest a.j a.bytes.now) ∙ laws.end_inside a.depth _ (omega (arith, length-drop a.j a.bytes.now)) c.if-depth-eq0.false

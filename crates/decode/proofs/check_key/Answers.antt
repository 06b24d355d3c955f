-- A type that is not admitted is refused with nothing begun; else the call on an admitted type answers.
use Rattle.decode.proofs.FillLaws as laws
use Rattle.format.proofs.SoundLaws.{all_bytes}
use native.Mathlib.Omega.{arith}
use mathlib.Core.Path.{sym, ap, ◌∙◌}
use mathlib.Core.Bool.{not}
use Rattle.decode.proofs.check_key.Goals as goal

pub returns-then-not-admit_type : goal.returns-then-not-admit_type
returns-then-not-admit_type c =
    laws.c_type c.args.ty.now (all_bytes c.args.bytes.now (λ i. omega (arith, c.type_inv.bytes i)))
    c.admit_type.ensures (ap not c.if-not-admit_type.true)

pub check_admitted-requires : goal.check_admitted-requires
check_admitted-requires c = sym c.admit_type.ensures ∙ c.if-not-admit_type.false

-- By the type's first word, and by the value's where that is 7: a blank, or the mismatch with the type itself.
use native.Mathlib.Omega.{arith}
use Rattle.fit.proofs.Steps as laws
use Rattle.fit.proofs.Optional as optional
use Rattle.fit.proofs.fit_other.Goals as goal

pub bounds-ty-t : goal.bounds-ty-t
bounds-ty-t c = omega (arith, laws.type_in_lem c.requires.0)

pub bounds-ty-t-then-ty-t-ne-KIND_OPTIONAL : goal.bounds-ty-t-then-ty-t-ne-KIND_OPTIONAL
bounds-ty-t-then-ty-t-ne-KIND_OPTIONAL c = omega (arith, laws.type_in_lem c.requires.0)

pub returns-then-ty-t-ne-KIND_OPTIONAL : goal.returns-then-ty-t-ne-KIND_OPTIONAL
returns-then-ty-t-ne-KIND_OPTIONAL c =
    let h = c.requires in
    optional.differ_here h.0 h.1 (λ z. omega (arith, c.if-ty-t-ne-KIND_OPTIONAL.true))

pub bounds-words-w : goal.bounds-words-w
bounds-words-w c = omega (arith, laws.word_in c.requires.0)

pub returns-then-words-w-eq-VALUE_NULL : goal.returns-then-words-w-eq-VALUE_NULL
returns-then-words-w-eq-VALUE_NULL c = optional.blank c.requires.0 (omega (arith, c.if-ty-t-ne-KIND_OPTIONAL.false)) c.if-words-w-eq-VALUE_NULL.true c.skip_type.ensures c.null_len.ensures

pub bounds-ty-t-2 : goal.bounds-ty-t-2
bounds-ty-t-2 c = omega (arith, laws.type_in_lem (optional.behind_stands c.requires.0 c.if-ty-t-ne-KIND_OPTIONAL.false))

pub returns : goal.returns
returns c =
    let h = c.requires in
    (optional.differ_behind h.0 h.1 c.if-ty-t-ne-KIND_OPTIONAL.false c.if-words-w-eq-VALUE_NULL.false)

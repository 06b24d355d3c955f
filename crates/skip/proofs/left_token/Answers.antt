-- By the mark: a union, a null, a record too deep, a number cut short, or no mark.
use Rattle.skip.proofs.Marks as laws
use Rattle.skip.proofs.left_token.Goals as goal

pub returns-in_default : goal.returns-in_default
returns-in_default c = laws.left_none _ _ _ c.in_default.ensures.value

pub returns-in-34 : goal.returns-in-34
returns-in-34 c = laws.left_deep _ _ _ c.requires c.in-Some.ensures.value c.in-34.is

pub returns-in_default-mark : goal.returns-in_default-mark
returns-in_default-mark c = laws.left_cut _ _ _ c.requires c.in-Some.ensures.value c.if-number_mark.ensures

pub returns-in_default-2 : goal.returns-in_default-2
returns-in_default-2 c =
    let b = c.in-Some.ensures.value in
    let e = c.if-number_mark.ensures in
    search laws.left_other

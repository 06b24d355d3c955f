-- By the lead, as the definition's first character goes: each width has its law.
use native.Mathlib.Omega.{arith}
use Rattle.text.proofs.Ranges.{bounds3, bounds4}
use Rattle.text.proofs.Chars.{none_at, one_at, cut_two, two_at, cut_three, three_at, cut_four, four_at, not_four}
use Rattle.text.proofs.characters.char_at.Goals as goal

pub returns-in_err-a : goal.returns-in_err-a
returns-in_err-a c = rw c.from_residual.ensures (none_at _ _ c.in_err-a.ensures.lookup.3)

pub returns-then-a-lt128 : goal.returns-then-a-lt128
returns-then-a-lt128 c = let a = c.in_ok-a.ensures.lookup.3 in one_at _ _ _ a.0 (a.1 0) (omega arith) c.from-code.ensures

pub returns-in_err-b : goal.returns-in_err-b
returns-in_err-b c = let a = c.in_ok-a.ensures.lookup.3 in rw c.from_residual-in_err-b.ensures (cut_two _ _ _ a.0 (a.1 0) (omega arith) c.in_err-b.ensures.lookup.3)

pub returns-then-two : goal.returns-then-two
returns-then-two c =
    let a = c.in_ok-a.ensures.lookup.3 in
    let b = c.in_ok-b.ensures.lookup.3 in
    two_at _ _ _ a.0 (a.1 0) (omega arith) _ b.0 (b.1 0) c.two.ensures c.if-two.true c.code_of_2-code.ensures

pub returns-in_err-c : goal.returns-in_err-c
returns-in_err-c c =
    let a = c.in_ok-a.ensures.lookup.3 in
    let b = c.in_ok-b.ensures.lookup.3 in
    rw c.from_residual-in_err-c.ensures (cut_three _ _ _ a.0 (a.1 0) (omega arith) _ b.0 (b.1 0) c.two.ensures c.if-two.false c.in_err-c.ensures.lookup.3)

pub code_of_3-code-requires : goal.code_of_3-code-requires
code_of_3-code-requires c = bounds3 _ _ _ c.three.ensures c.if-three.true

pub returns-then-three : goal.returns-then-three
returns-then-three c =
    let a = c.in_ok-a.ensures.lookup.3 in
    let b = c.in_ok-b.ensures.lookup.3 in
    let d = c.in_ok-c.ensures.lookup.3 in
    three_at _ _ _ a.0 (a.1 0) (omega arith) _ b.0 (b.1 0) c.two.ensures c.if-two.false _ d.0 (d.1 0) c.three.ensures c.if-three.true c.code_of_3-code.ensures

pub returns-in_err-d : goal.returns-in_err-d
returns-in_err-d c =
    let a = c.in_ok-a.ensures.lookup.3 in
    let b = c.in_ok-b.ensures.lookup.3 in
    let d = c.in_ok-c.ensures.lookup.3 in
    rw c.from_residual-in_err-d.ensures
    (cut_four _ _ _ a.0 (a.1 0) (omega arith) _ b.0 (b.1 0) c.two.ensures c.if-two.false _ d.0 (d.1 0) c.three.ensures c.if-three.false c.in_err-d.ensures.lookup.3)

pub code_of_4-code-requires : goal.code_of_4-code-requires
code_of_4-code-requires c = bounds4 _ _ _ _ c.four.ensures c.if-four.true

pub returns-then-four : goal.returns-then-four
returns-then-four c =
    let a = c.in_ok-a.ensures.lookup.3 in
    let b = c.in_ok-b.ensures.lookup.3 in
    let d = c.in_ok-c.ensures.lookup.3 in
    let e = c.in_ok-d.ensures.lookup.3 in
    four_at _ _ _ a.0 (a.1 0) (omega arith) _ b.0 (b.1 0) c.two.ensures c.if-two.false _ d.0 (d.1 0) c.three.ensures c.if-three.false _ e.0 (e.1 0) c.four.ensures c.if-four.true
    c.code_of_4-code.ensures

pub returns : goal.returns
returns c =
    let a = c.in_ok-a.ensures.lookup.3 in
    let b = c.in_ok-b.ensures.lookup.3 in
    let d = c.in_ok-c.ensures.lookup.3 in
    let e = c.in_ok-d.ensures.lookup.3 in
    not_four _ _ _ a.0 (a.1 0) (omega arith) _ b.0 (b.1 0) c.two.ensures c.if-two.false _ d.0 (d.1 0) c.three.ensures c.if-three.false _ e.0 (e.1 0) c.four.ensures c.if-four.false

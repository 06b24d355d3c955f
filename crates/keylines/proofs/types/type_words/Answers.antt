-- `type_words` meets its contract: a bad word, or all of them, by whether they fit.
use Rattle.std.proofs.lemmas.Result.{err_from_is_err_and}
use mathlib.Core.Bool.{not}
use mathlib.Core.Path.{◌≡◌, ap, ◌∙◌}
use Prim.Native.Nat.{◌+◌}
use lib.ListN.{length, length-set}
use Rattle.keylines.specs.declared.reason.Reason.{Reason}
use Rattle.keylines.proofs.TextLaws as text
use Rattle.keylines.proofs.WordLaws as laws
use Rattle.keylines.proofs.types.type_words.Goals as goal

pub returns-in_err-x : goal.returns-in_err-x
returns-in_err-x c =
    let f = rw (← c.unwrap_or-end.ensures) at c.find-tab.ensures.found in
    let none = c.in_err-x.ensures.ok_part in
    let p = err_from_is_err_and c.from_residual.result c.from_residual.ensures.1 in
    let why = rw none at c.in_err-x.ensures.value in
    let e : p.0 ≡ Reason.BadWord (c.loop-x.n + 1) = cc in
    rw (p.1, e) (record { are = laws.words_bad c.loop-x.invariant.0 f (rw none at c.type_word.ensures) })

pub loop-x-preserved : goal.loop-x-preserved
loop-x-preserved c =
    let e = c.find-tab.ensures in
    let f = rw (← c.unwrap_or-end.ensures) at e.found in
    let tab = c.is_none.ensures ∙ ap not c.if-is_none.false in
    let more = text.before_end {s = c.args.text.now} {at = c.loop-x.start} {b = 9} {o = c.find-tab.result} e tab in
    let word = rw c.in_ok-x.ensures.ok_part at c.type_word.ensures in (
      laws.words_next c.loop-x.invariant.0 f word c.keep_word.ensures (rw (← c.unwrap_or-end.ensures) at more),
      ap length c.keep_word.ensures ∙ simp length-set c.loop-x.invariant.1,
    )

pub returns-then-ty-n : goal.returns-then-ty-n
returns-then-ty-n c =
    let e = c.find-tab.ensures in
    let f = rw (← c.unwrap_or-end.ensures) at e.found in
    let no_tab = c.is_none.ensures ∙ ap not c.if-is_none.true in
    let word = rw c.in_ok-x.ensures.ok_part at c.type_word.ensures in
    let all = laws.words_end c.loop-x.invariant.0 f word c.keep_word.ensures (c.unwrap_or-end.ensures ∙ text.at_end e no_tab) in
    record { are = laws.all_many all c.if-ty-n.true }

pub returns : goal.returns
returns c =
    let e = c.find-tab.ensures in
    let f = rw (← c.unwrap_or-end.ensures) at e.found in
    let no_tab = c.is_none.ensures ∙ ap not c.if-is_none.true in
    let word = rw c.in_ok-x.ensures.ok_part at c.type_word.ensures in
    let all = laws.words_end c.loop-x.invariant.0 f word c.keep_word.ensures (c.unwrap_or-end.ensures ∙ text.at_end e no_tab) in
    record { are = laws.all_fit all c.if-ty-n.false }

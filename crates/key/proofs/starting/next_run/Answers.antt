-- The checks stand in the definition's order; each is a law about the sheets that passed those before it.
use Rattle.key.proofs.FirstsLaws.{first_words, the_firsts, k_there}
use Rattle.key.proofs.StartingLaws as laws
use Rattle.key.proofs.starting.next_run.Goals as goal

pub returns-then-not-admit_type : goal.returns-then-not-admit_type
returns-then-not-admit_type c = search laws.n_type

pub returns-then-not-admit_record : goal.returns-then-not-admit_record
returns-then-not-admit_record c = search laws.n_first

pub has_next-requires : goal.has_next-requires
has_next-requires c =
    let a = c.args in
    first_words a.ty.now a.words.now a.pool.now c.admit_type.ensures c.if-not-admit_type.false c.admit_record.ensures c.if-not-admit_record.false

pub returns-then-not-has_next : goal.returns-then-not-has_next
returns-then-not-has_next c = search laws.n_none

pub bounds-words-1 : goal.bounds-words-1
bounds-words-1 c =
    let a = c.args in
    k_there (the_firsts a.ty.now a.words.now a.pool.now c.admit_type.ensures c.if-not-admit_type.false c.admit_record.ensures c.if-not-admit_record.false c.has_next.ensures c.if-not-has_next.false)

pub run_mark-requires : goal.run_mark-requires
run_mark-requires c =
    let a = c.args in
    let i = the_firsts a.ty.now a.words.now a.pool.now c.admit_type.ensures c.if-not-admit_type.false c.admit_record.ensures c.if-not-admit_record.false c.has_next.ensures c.if-not-has_next.false in
    laws.n_there i c.skip_fields-at.ensures

pub returns : goal.returns
returns c =
    let a = c.args in
    let i = the_firsts a.ty.now a.words.now a.pool.now c.admit_type.ensures c.if-not-admit_type.false c.admit_record.ensures c.if-not-admit_record.false c.has_next.ensures c.if-not-has_next.false in
    laws.n_next i c.skip_fields-at.ensures c.run_mark.ensures c.ok_or.ensures.value

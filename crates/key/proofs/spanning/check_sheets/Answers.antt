-- The checks stand in the definition's order; each is a law about the sheets that passed those before it.
use Rattle.key.proofs.FirstsLaws.{first_words}
use Rattle.key.proofs.SpanningLaws as laws
use Rattle.key.proofs.spanning.check_sheets.Goals as goal

pub returns-then-not-admit_type : goal.returns-then-not-admit_type
returns-then-not-admit_type c = search laws.c_type

pub returns-then-not-admit_record : goal.returns-then-not-admit_record
returns-then-not-admit_record c = search laws.c_first

pub returns-then-not-admit_value : goal.returns-then-not-admit_value
returns-then-not-admit_value c = search laws.c_low

pub returns-then-not-admit_value-2 : goal.returns-then-not-admit_value-2
returns-then-not-admit_value-2 c = search laws.c_high

pub has_next-requires : goal.has_next-requires
has_next-requires c =
    let a = c.args in
    first_words a.ty.now a.words.now a.pool.now c.admit_type.ensures c.if-not-admit_type.false c.admit_record.ensures c.if-not-admit_record.false

pub returns-then-not-has_next : goal.returns-then-not-has_next
returns-then-not-has_next c = search laws.c_next

pub returns : goal.returns
returns c = search laws.c_none

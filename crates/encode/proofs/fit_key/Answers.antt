-- By whether the top is a record: the whole value, or its fields bare after kind and count. Each way out is a law of `Keys` about admitted sheets.
use mathlib.Core.Bool.{not}
use mathlib.Core.Path.{ap}
use native.Mathlib.Omega.{arith}
use Rattle.fit.proofs.Steps.{word_in}
use Rattle.encode.proofs.Keys.{stands, key_whole, key_kind, type_second, value_second, key_count, fields_stand, key_measured}
use Rattle.encode.proofs.fit_key.Goals as goal

pub fit_value-requires : goal.fit_value-requires
fit_value-requires c = search stands

pub returns-then-not-top_bare : goal.returns-then-not-top_bare
returns-then-not-top_bare c = search key_whole

pub bounds-words-0 : goal.bounds-words-0
bounds-words-0 c = omega (arith, word_in (stands c.requires))

pub returns-then-words-ne-VALUE_RECORD : goal.returns-then-words-ne-VALUE_RECORD
returns-then-words-ne-VALUE_RECORD c = search key_kind

pub bounds-ty-1 : goal.bounds-ty-1
bounds-ty-1 c = omega (arith, type_second c.requires c.top_bare.ensures (ap not c.if-not-top_bare.false))

pub bounds-words-1 : goal.bounds-words-1
bounds-words-1 c = omega (arith, value_second c.requires c.top_bare.ensures (ap not c.if-not-top_bare.false) c.if-words-ne-VALUE_RECORD.false)

pub returns-then-words-from : goal.returns-then-words-from
returns-then-words-from c = search key_count

pub fit_fields-requires : goal.fit_fields-requires
fit_fields-requires c = fields_stand c.requires c.top_bare.ensures (ap not c.if-not-top_bare.false) c.if-words-ne-VALUE_RECORD.false _ c.from.ensures c.if-words-from.false

pub returns : goal.returns
returns c = search key_measured

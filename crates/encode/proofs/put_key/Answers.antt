-- By whether the top is a record, as it was measured: an accepted record's value is a record too, so it has a count.
use mathlib.Core.Bool.{not}
use mathlib.Core.Path.{ap}
use native.Mathlib.Omega.{arith}
use Rattle.encode.proofs.Keys.{put_whole, accepted_second, put_bare}
use Rattle.encode.proofs.put_key.Goals as goal

pub returns-then-not-top_bare : goal.returns-then-not-top_bare
returns-then-not-top_bare c = put_whole c.requires.sheets c.top_bare.ensures (ap not c.if-not-top_bare.true) c.put_value-whole.ensures

pub bounds-words-1 : goal.bounds-words-1
bounds-words-1 c =
    let k = c.requires in
    omega (arith, accepted_second k.sheets c.top_bare.ensures (ap not c.if-not-top_bare.false) k.bytes k.is)

pub put_fields-bare-requires : goal.put_fields-bare-requires
put_fields-bare-requires c =
    let k = c.requires in
    record { word_in = omega (arith, accepted_second k.sheets c.top_bare.ensures (ap not c.if-not-top_bare.false) k.bytes k.is); pool_in = omega arith; at_in = omega arith; deep = omega arith }

pub returns : goal.returns
returns c = put_bare c.requires.sheets c.top_bare.ensures (ap not c.if-not-top_bare.false) c.put_fields-bare.ensures

-- The key's fields are its first k and the rest: the rest's types stand where the first end, and both parts decode where the key does.
use Rattle.std.proofs.lemmas.Result.{err_from_is_err_and}
use Rattle.key.proofs.SpanLaws as laws
use Rattle.key.proofs.passing.split_key.Goals as goal

pub pass_fields-requires-clause-typed : goal.pass_fields-requires-clause-typed
pass_fields-requires-clause-typed c = laws.first_fields c.requires.inside c.requires.typed

pub returns-in_err-first : goal.returns-in_err-first
returns-in_err-first c =
    let p = err_from_is_err_and c.from_residual.result c.from_residual.ensures.1 in
    rw (p.1, p.2) (laws.split_bad c.requires.inside c.in_err-first.ensures)

pub pass_rest-requires-clause-typed : goal.pass_rest-requires-clause-typed
pass_rest-requires-clause-typed c = laws.rest_fields c.requires.inside c.in_ok-first.ensures c.requires.typed

pub pass_rest-requires-clause-inside : goal.pass_rest-requires-clause-inside
pass_rest-requires-clause-inside c = laws.start_in c.requires.inside c.in_ok-first.ensures c.requires.typed

pub returns-in_err-pass_rest : goal.returns-in_err-pass_rest
returns-in_err-pass_rest c =
    let p = err_from_is_err_and c.from_residual-in_err-pass_rest.result c.from_residual-in_err-pass_rest.ensures.1 in
    rw (p.1, p.2) (laws.split_rest_bad c.requires.inside c.in_ok-first.ensures c.in_err-pass_rest.ensures)

pub returns : goal.returns
returns c = laws.split_good c.requires.inside c.in_ok-first.ensures c.in_ok-pass_rest.ensures

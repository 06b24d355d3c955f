-- The key's fields are its first k, the field and those behind it, each passed where the one before ends; all decode where the key does.
use native.Mathlib.Omega.{arith}
use Rattle.std.proofs.lemmas.Result.{err_from_is_err_and}
use Rattle.key.proofs.SpanLaws as laws
use Rattle.key.proofs.passing.find_field.Goals as goal

pub pass_fields-requires-clause-typed : goal.pass_fields-requires-clause-typed
pass_fields-requires-clause-typed c = laws.first_fields {n = c.args.n} (omega (arith, c.requires.inside)) c.requires.typed

pub returns-in_err-first : goal.returns-in_err-first
returns-in_err-first c =
    let p = err_from_is_err_and c.from_residual.result c.from_residual.ensures.1 in
    rw (p.1, p.2) (laws.find_bad c.requires.inside c.in_err-first.ensures)

pub pass_value-requires-clause-typed : goal.pass_value-requires-clause-typed
pass_value-requires-clause-typed c = laws.field_type_lem c.requires.inside c.in_ok-first.ensures c.requires.typed

pub pass_value-requires-clause-inside : goal.pass_value-requires-clause-inside
pass_value-requires-clause-inside c = laws.start_of c.requires.inside c.in_ok-first.ensures c.requires.typed

pub returns-in_err-own : goal.returns-in_err-own
returns-in_err-own c =
    let p = err_from_is_err_and c.from_residual-in_err-own.result c.from_residual-in_err-own.ensures.1 in
    rw (p.1, p.2) (laws.find_field_bad c.requires.inside c.in_ok-first.ensures c.in_err-own.ensures)

pub pass_rest-requires-clause-typed : goal.pass_rest-requires-clause-typed
pass_rest-requires-clause-typed c = laws.behind_fields c.requires.inside c.in_ok-first.ensures c.in_ok-own.ensures c.requires.typed

pub pass_rest-requires-clause-inside : goal.pass_rest-requires-clause-inside
pass_rest-requires-clause-inside c = laws.field_end_in c.requires.inside c.in_ok-first.ensures c.in_ok-own.ensures c.requires.typed

pub returns-in_err-pass_rest : goal.returns-in_err-pass_rest
returns-in_err-pass_rest c =
    let p = err_from_is_err_and c.from_residual-in_err-pass_rest.result c.from_residual-in_err-pass_rest.ensures.1 in
    rw (p.1, p.2) (laws.find_rest_bad c.requires.inside c.in_ok-first.ensures c.in_ok-own.ensures c.in_err-pass_rest.ensures)

pub returns : goal.returns
returns c = laws.find_good c.requires.inside c.in_ok-first.ensures c.in_ok-own.ensures c.in_ok-pass_rest.ensures

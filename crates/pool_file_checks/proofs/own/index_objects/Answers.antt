use Rattle.std.proofs.lemmas.Result.{err_from_is_err_and}
use Rattle.pool_file_checks.proofs.OwnLemmas.{none_indexed}
use Rattle.pool_file_checks.proofs.own.index_objects.Goals as goal

pub returns-in_err-index_rest : goal.returns-in_err-index_rest
returns-in_err-index_rest c =
    let p = err_from_is_err_and c.from_residual-in_err-index_rest.result c.from_residual-in_err-index_rest.ensures.1 in
    λ range. rw (p.1, p.2) (c.in_err-index_rest.ensures (none_indexed c.args.names.now c.args.numbers.now _ c.in_ok-index.ensures.empty) range)

pub returns : goal.returns
returns c = λ range. c.in_ok-index_rest.ensures (none_indexed c.args.names.now c.args.numbers.now _ c.in_ok-index.ensures.empty) range

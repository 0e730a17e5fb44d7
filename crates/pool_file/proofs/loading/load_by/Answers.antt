use Rattle.std.proofs.lemmas.Result.{err_from_is_err_and}
use Rattle.pool_file.proofs.Answered.{loads_file, loads_none, loads_no_more}
use Rattle.pool_file.proofs.loading.load_by.Goals as goal

pub returns-in_err-judged : goal.returns-in_err-judged
returns-in_err-judged g c =
    let p = err_from_is_err_and c.from_residual.result c.from_residual.ensures.1 in
    rw (p.1, p.2) (loads_none g.N.Naming.digest_of _ _ _ _ c.in_err-judged.ensures)

pub returns-in_err-loaded : goal.returns-in_err-loaded
returns-in_err-loaded g c =
    let p = err_from_is_err_and c.from_residual-in_err-loaded.result c.from_residual-in_err-loaded.ensures.1 in
    rw (p.1, p.2) (loads_no_more g.N.Naming.digest_of _ _ _ _ c.in_ok-judged.ensures)

pub returns : goal.returns
returns g c =
    loads_file g.N.Naming.digest_of _ _ _ _ _ _ c.in_ok-judged.ensures c.in_ok-loaded.ensures.says c.in_ok-loaded.ensures.tenants

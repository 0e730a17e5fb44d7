use Rattle.std.proofs.Common.{sym, subst, ◌∙◌}
use Rattle.std.proofs.lemmas.Result.{err_from_is_err_and}
use Rattle.pool_file_format.specs.Taking.{Fails}
use Rattle.store_format.specs.Shown.{numbered_of}
use Rattle.store_format.proofs.Named.{named_on, named_fails, named_end}
use Rattle.store_format.proofs.naming.check_names.Goals as goal

pub returns-in_err-check_name : goal.returns-in_err-check_name
returns-in_err-check_name g c =
    let p = err_from_is_err_and c.from_residual.result c.from_residual.ensures.1 in
    rw (p.1, p.2) (subst (Fails c.in_err-check_name.field-0.0) c.loop-row.invariant
    (named_fails g.N.Naming.digest_of (numbered_of c.args.files.now) c.args.rows.now c.loop-row.row-index _ c.in_err-check_name.field-0.0 c.loop-row-test.true c.in_err-check_name.ensures))

pub loop-row-preserved : goal.loop-row-preserved
loop-row-preserved g c =
    named_on g.N.Naming.digest_of (numbered_of c.args.files.now) c.args.rows.now c.loop-row.row-index _ c.loop-row-test.true c.in_ok-check_name.ensures ∙ c.loop-row.invariant

pub returns : goal.returns
returns g c =
    sym c.loop-row.invariant ∙ named_end g.N.Naming.digest_of (numbered_of c.args.files.now) c.args.rows.now c.loop-row.row-index c.loop-row-test.false

use Rattle.std.proofs.lemmas.Result.{err_from_is_err_and}
use Rattle.pool_file_format.specs.Shown.{objects_of}
use Rattle.pool_file_checks.proofs.WholeLemmas.{within_names, indexed, not_connected, connected}
use Rattle.pool_file_checks.proofs.whole.check_own.Goals as goal

pub returns-in_err-check_references : goal.returns-in_err-check_references
returns-in_err-check_references c =
    let p = err_from_is_err_and c.from_residual-in_err-check_references.result c.from_residual-in_err-check_references.ensures.1 in
    let os = objects_of c.args.objects.now in let names = c.args.names.now in let numbers = c.args.numbers.now in let rows = c.in_ok-index.index.entries in
    λ digest same stored range judged. rw (p.1, p.2) (not_connected digest os numbers rows c.in_err-check_references.field-0.0
    (indexed digest os names numbers rows same (c.in_ok-index.ensures (within_names digest c.args.objects.now names numbers same range)))
    (c.in_err-check_references.ensures stored))

pub returns : goal.returns
returns c =
    let os = objects_of c.args.objects.now in let names = c.args.names.now in let numbers = c.args.numbers.now in let rows = c.in_ok-index.index.entries in
    λ digest same stored range judged. connected digest os numbers rows c.check_sums.result
    (indexed digest os names numbers rows same (c.in_ok-index.ensures (within_names digest c.args.objects.now names numbers same range)))
    (c.in_ok-check_references.ensures stored) c.check_sums.ensures

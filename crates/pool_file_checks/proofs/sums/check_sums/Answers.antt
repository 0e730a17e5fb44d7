use Rattle.std.proofs.lemmas.Result.{err_from_is_err_and}
use Rattle.pool_file_format.specs.Shown.{objects_of}
use Rattle.pool_file_checks.specs.Own.{objects_in}
use Rattle.pool_file_checks.proofs.SumLemmas.{row_on, row_stops, rows_done}
use Rattle.pool_file_checks.proofs.sums.check_sums.Goals as goal

pub loop-id-preserved : goal.loop-id-preserved
loop-id-preserved c =
    let os = objects_of c.args.objects.now in let o = c.content_at-kind in
    row_on os c.loop-id.id-iterator c.next.new.self c.in-Some.id.now c.in-Some.number.now o.result.0 o.result.1.now
    (objects_in os c.args.index.now.entries) c.loop-id.sums.entries c.add_object.new.sums.entries
    c.in-Some.ensures.steps o.ensures c.loop-id.invariant c.in_ok-add_object.ensures

pub returns-in_err-add_object : goal.returns-in_err-add_object
returns-in_err-add_object c =
    let os = objects_of c.args.objects.now in let o = c.content_at-kind in
    let p = err_from_is_err_and c.from_residual.result c.from_residual.ensures.1 in
    rw (p.1, p.2) (row_stops os c.loop-id.id-iterator c.next.new.self c.in-Some.id.now c.in-Some.number.now o.result.0 o.result.1.now
    (objects_in os c.args.index.now.entries) c.loop-id.sums.entries c.add_object.new.sums.entries
    c.in-Some.ensures.steps o.ensures c.loop-id.invariant c.in_err-add_object.field-0.0 c.in_err-add_object.ensures)

pub returns : goal.returns
returns c =
    let os = objects_of c.args.objects.now in
    (rows_done os c.loop-id.id-iterator (objects_in os c.args.index.now.entries) c.loop-id.sums.entries c.in-None.ensures.steps.0 c.loop-id.invariant, tt)

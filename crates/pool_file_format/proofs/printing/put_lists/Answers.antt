use Rattle.std.proofs.Common.{map, refl}
use Rattle.std.proofs.lemmas.Result.{err_from_is_err_and}
use Rattle.pool_file_format.specs.Format.{counted, object_text, tenant_text}
use Rattle.pool_file_format.specs.Shown.{tenants_of}
use Rattle.pool_file_format.proofs.Pieces.{then_is, stops_is}
use Rattle.pool_file_format.proofs.printing.put_lists.Goals as goal

pub returns-in_err-put_objects : goal.returns-in_err-put_objects
returns-in_err-put_objects g c =
    let p = err_from_is_err_and c.from_residual.result c.from_residual.ensures.1 in
    rw (p.1, p.2) (stops_is g.S.Sink.Took g.S.Sink.Failed _ _ _ (counted object_text (map g.O.Printed.object c.args.file.now.objects.now)) (counted object_text (map g.O.Printed.object c.args.file.now.objects.now)) (counted (tenant_text c.args.file.now.version) (tenants_of c.args.file.now.tenants.now)) g.met.S.Sink.adds_up refl c.in_err-put_objects.ensures)

pub returns : goal.returns
returns g c =
    then_is g.S.Sink.Took g.S.Sink.Failed _ _ _ _ (counted object_text (map g.O.Printed.object c.args.file.now.objects.now)) (counted object_text (map g.O.Printed.object c.args.file.now.objects.now)) (counted (tenant_text c.args.file.now.version) (tenants_of c.args.file.now.tenants.now)) (counted (tenant_text c.args.file.now.version) (tenants_of c.args.file.now.tenants.now)) g.met.S.Sink.adds_up refl refl c.in_ok-put_objects.ensures (c.put_tenants.ensures)

use Rattle.std.proofs.Common.{map, ◌++◌, refl}
use Rattle.std.specs.Int.{w32, to_be_bytes}
use Rattle.std.proofs.lemmas.Result.{err_from_is_err_and}
use Rattle.pool_file_format.specs.Format.{magic, counted, object_text, tenant_text}
use Rattle.pool_file_format.specs.Shown.{tenants_of}
use Rattle.pool_file_format.proofs.Pieces.{then_is, stops_is, stops_later}
use Rattle.pool_file_format.proofs.printing.put_body.Goals as goal

pub returns-in_err-take : goal.returns-in_err-take
returns-in_err-take g c =
    let p = err_from_is_err_and c.from_residual.result c.from_residual.ensures.1 in
    rw (p.1, p.2) (stops_is g.S.Sink.Took g.S.Sink.Failed _ _ _ magic magic ((to_be_bytes w32 c.args.file.now.version) ++ (counted object_text (map g.O.Printed.object c.args.file.now.objects.now) ++ counted (tenant_text c.args.file.now.version) (tenants_of c.args.file.now.tenants.now))) g.met.S.Sink.adds_up refl c.in_err-take.ensures)

pub returns-in_err-put_u32 : goal.returns-in_err-put_u32
returns-in_err-put_u32 g c =
    let p = err_from_is_err_and c.from_residual-in_err-put_u32.result c.from_residual-in_err-put_u32.ensures.1 in
    rw (p.1, p.2) (stops_later g.S.Sink.Took g.S.Sink.Failed _ _ _ magic magic (to_be_bytes w32 c.args.file.now.version) (to_be_bytes w32 c.args.file.now.version) (counted object_text (map g.O.Printed.object c.args.file.now.objects.now) ++ counted (tenant_text c.args.file.now.version) (tenants_of c.args.file.now.tenants.now)) g.met.S.Sink.adds_up refl refl c.in_ok-take.ensures c.in_err-put_u32.ensures)

pub returns : goal.returns
returns g c =
    then_is g.S.Sink.Took g.S.Sink.Failed _ _ _ _ magic magic ((to_be_bytes w32 c.args.file.now.version) ++ (counted object_text (map g.O.Printed.object c.args.file.now.objects.now) ++ counted (tenant_text c.args.file.now.version) (tenants_of c.args.file.now.tenants.now))) ((to_be_bytes w32 c.args.file.now.version) ++ (counted object_text (map g.O.Printed.object c.args.file.now.objects.now) ++ counted (tenant_text c.args.file.now.version) (tenants_of c.args.file.now.tenants.now))) g.met.S.Sink.adds_up refl refl c.in_ok-take.ensures (then_is g.S.Sink.Took g.S.Sink.Failed _ _ _ _ (to_be_bytes w32 c.args.file.now.version) (to_be_bytes w32 c.args.file.now.version) (counted object_text (map g.O.Printed.object c.args.file.now.objects.now) ++ counted (tenant_text c.args.file.now.version) (tenants_of c.args.file.now.tenants.now)) (counted object_text (map g.O.Printed.object c.args.file.now.objects.now) ++ counted (tenant_text c.args.file.now.version) (tenants_of c.args.file.now.tenants.now)) g.met.S.Sink.adds_up refl refl c.in_ok-put_u32.ensures (c.put_lists.ensures))

use Rattle.std.proofs.Common.{length, refl, sym, ap}
use Rattle.std.proofs.lemmas.List.{length-map}
use Rattle.std.specs.List.{flat_map}
use Rattle.std.proofs.lemmas.Result.{err_from_is_err_and}
use Rattle.pool_file_format.specs.Format.{number_text, tenant_text}
use Rattle.pool_file_format.specs.Shown.{tenant_of, tenants_of}
use Rattle.pool_file_format.proofs.Pieces.{then_is, stops_is}
use Rattle.pool_file_format.proofs.printing.put_tenants.Goals as goal

pub returns-in_err-put_u64 : goal.returns-in_err-put_u64
returns-in_err-put_u64 g c =
    let p = err_from_is_err_and c.from_residual.result c.from_residual.ensures.1 in
    rw (p.1, p.2) (stops_is g.S.Sink.Took g.S.Sink.Failed _ _ _ (number_text (length c.args.tenants.now)) (number_text (length (tenants_of c.args.tenants.now))) (flat_map (tenant_text c.args.version) (tenants_of c.args.tenants.now)) g.met.S.Sink.adds_up (ap number_text (sym (length-map c.args.tenants.now tenant_of))) c.in_err-put_u64.ensures)

pub returns : goal.returns
returns g c =
    then_is g.S.Sink.Took g.S.Sink.Failed _ _ _ _ (number_text (length c.args.tenants.now)) (number_text (length (tenants_of c.args.tenants.now))) (flat_map (tenant_text c.args.version) (tenants_of c.args.tenants.now)) (flat_map (tenant_text c.args.version) (tenants_of c.args.tenants.now)) g.met.S.Sink.adds_up (ap number_text (sym (length-map c.args.tenants.now tenant_of))) refl c.in_ok-put_u64.ensures (c.put_many_tenants.ensures)

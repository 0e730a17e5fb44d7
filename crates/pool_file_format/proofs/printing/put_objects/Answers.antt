use Rattle.std.proofs.Common.{length, map, refl, sym, ap}
use Rattle.std.proofs.lemmas.List.{length-map}
use Rattle.std.specs.List.{flat_map}
use Rattle.std.proofs.lemmas.Result.{err_from_is_err_and}
use Rattle.pool_file_format.specs.Format.{number_text, object_text}
use Rattle.pool_file_format.proofs.Pieces.{then_is, stops_is}
use Rattle.pool_file_format.proofs.printing.put_objects.Goals as goal

pub returns-in_err-put_u64 : goal.returns-in_err-put_u64
returns-in_err-put_u64 g c =
    let p = err_from_is_err_and c.from_residual.result c.from_residual.ensures.1 in
    rw (p.1, p.2) (stops_is g.S.Sink.Took g.S.Sink.Failed _ _ _ (number_text (length c.args.objects.now)) (number_text (length (map g.O.Printed.object c.args.objects.now))) (flat_map object_text (map g.O.Printed.object c.args.objects.now)) g.met.S.Sink.adds_up (ap number_text (sym (length-map c.args.objects.now g.O.Printed.object))) c.in_err-put_u64.ensures)

pub returns : goal.returns
returns g c =
    then_is g.S.Sink.Took g.S.Sink.Failed _ _ _ _ (number_text (length c.args.objects.now)) (number_text (length (map g.O.Printed.object c.args.objects.now))) (flat_map object_text (map g.O.Printed.object c.args.objects.now)) (flat_map object_text (map g.O.Printed.object c.args.objects.now)) g.met.S.Sink.adds_up (ap number_text (sym (length-map c.args.objects.now g.O.Printed.object))) refl c.in_ok-put_u64.ensures (c.put_many_objects.ensures)

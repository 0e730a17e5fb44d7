use Rattle.std.proofs.Common.{◌+◌, map, drop, arith}
use Rattle.std.specs.List.{flat_map}
use Rattle.std.proofs.lemmas.Result.{err_from_is_err_and}
use Rattle.pool_file_format.specs.Format.{object_text}
use Rattle.pool_file_format.proofs.Pieces.{texts_next, texts_done, taken_start, taken_on, taken_fails, taken_done}
use Rattle.pool_file_format.proofs.printing.put_many_objects.Goals as goal

pub loop-object-init : goal.loop-object-init
loop-object-init g c = taken_start g.S.Sink.Took g.S.Sink.Failed _ (flat_map object_text (map g.O.Printed.object c.args.objects.now)) g.met.S.Sink.adds_up

pub returns-in_err-put_object : goal.returns-in_err-put_object
returns-in_err-put_object g c =
    let p = err_from_is_err_and c.from_residual.result c.from_residual.ensures.1 in
    let i = c.loop-object.object-index in
    let os = c.args.objects.now in
    rw (p.1, p.2) (taken_fails g.S.Sink.Took g.S.Sink.Failed _ _ _ _ (flat_map object_text (map g.O.Printed.object os))
    (flat_map object_text (map g.O.Printed.object (drop i os))) (object_text (g.O.Printed.object c.object-item.result)) (flat_map object_text (map g.O.Printed.object (drop (i + 1) os)))
    g.met.S.Sink.adds_up (texts_next g.O.Printed.object object_text os i c.object-item.result c.loop-object-test.true c.object-item.is)
    c.loop-object.invariant c.in_err-put_object.ensures)

pub loop-object-preserved : goal.loop-object-preserved
loop-object-preserved g c =
    let i = c.loop-object.object-index in
    let os = c.args.objects.now in
    taken_on g.S.Sink.Took g.S.Sink.Failed _ _ _ (flat_map object_text (map g.O.Printed.object os)) (flat_map object_text (map g.O.Printed.object (drop i os))) (object_text (g.O.Printed.object c.object-item.result))
    (flat_map object_text (map g.O.Printed.object (drop (i + 1) os))) g.met.S.Sink.adds_up
    (texts_next g.O.Printed.object object_text os i c.object-item.result c.loop-object-test.true c.object-item.is)
    c.loop-object.invariant c.in_ok-put_object.ensures

pub returns : goal.returns
returns g c =
    let i = c.loop-object.object-index in
    let os = c.args.objects.now in
    taken_done g.S.Sink.Took _ _ (flat_map object_text (map g.O.Printed.object os)) (flat_map object_text (map g.O.Printed.object (drop i os)))
    (texts_done g.O.Printed.object object_text os i (let t = c.loop-object-test.false in omega (arith, t))) c.loop-object.invariant

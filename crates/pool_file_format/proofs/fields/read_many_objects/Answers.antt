use Rattle.std.proofs.Common.{◌-◌, ◌+◌, arith}
use Rattle.std.proofs.lemmas.List.{map_push}
use Rattle.pool_file_format.specs.Lengths.{object_at, many_at}
use Rattle.pool_file_format.specs.Shown.{object_of, objects_of}
use Rattle.pool_file_format.proofs.Readings.{goes_start, goes_starved, goes_on, goes_fails, goes_done, stops}
use Rattle.pool_file_format.proofs.fields.read_many_objects.Goals as goal

pub returns-in_err-object : goal.returns-in_err-object
returns-in_err-object g c =
    stops _ _ _ c.from_residual.ensures.1 (goes_fails object_at c.args.count (c.args.count - c.loop.counter) (c.args.count - (c.loop.counter + 1)) c.in_err-object.field-0.0 _ _ _
    (objects_of c.loop.objects.items) (let t = c.loop-test.true in omega (arith, t)) c.loop.invariant c.in_err-object.ensures)

pub loop-preserved : goal.loop-preserved
loop-preserved g c =
    rw (c.in_ok-push.ensures.items, map_push object_of c.loop.objects.items c.in_ok-object.object)
    (goes_on object_at c.args.count (c.args.count - c.loop.counter) (c.args.count - (c.loop.counter + 1)) _ _ _ (objects_of c.loop.objects.items) (object_of c.in_ok-object.object)
    (let t = c.loop-test.true in omega (arith, t)) c.loop.invariant c.in_ok-object.ensures)

pub returns : goal.returns
returns g c =
    goes_done object_at c.args.count (c.args.count - c.loop.counter) _ _ (objects_of c.loop.objects.items) (let t = c.loop-test.false in omega (arith, t)) c.loop.invariant

pub loop-init : goal.loop-init
loop-init g c = rw c.new-objects.ensures.items (goes_start object_at c.args.count (c.args.count - 0) _ (omega arith))

pub returns-in_err-push : goal.returns-in_err-push
returns-in_err-push g c =
    stops _ _ _ c.from_residual-in_err-push.ensures.1 (goes_starved object_at (many_at object_at c.args.count) c.args.count (c.args.count - (c.loop.counter + 1)) _ _ _
    (goes_on object_at c.args.count (c.args.count - c.loop.counter) (c.args.count - (c.loop.counter + 1)) _ _ _ (objects_of c.loop.objects.items) (object_of c.in_ok-object.object)
    (let t = c.loop-test.true in omega (arith, t)) c.loop.invariant c.in_ok-object.ensures))

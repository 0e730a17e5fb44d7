use Rattle.std.proofs.Common.{◌-◌, ◌+◌, arith}
use Rattle.std.proofs.lemmas.List.{map_push}
use Rattle.pool_file_format.specs.Lengths.{ref_at, many_at}
use Rattle.pool_file_format.specs.Shown.{ref_of, refs_of}
use Rattle.pool_file_format.proofs.Readings.{goes_start, goes_starved, goes_on, goes_fails, goes_done, stops}
use Rattle.pool_file_format.proofs.fields.read_many_refs.Goals as goal

pub returns-in_err-one : goal.returns-in_err-one
returns-in_err-one g c =
    stops _ _ _ c.from_residual.ensures.1 (goes_fails ref_at c.args.count (c.args.count - c.loop.counter) (c.args.count - (c.loop.counter + 1)) c.in_err-one.field-0.0 _ _ _
    (refs_of c.loop.refs.items) (let t = c.loop-test.true in omega (arith, t)) c.loop.invariant c.in_err-one.ensures)

pub loop-preserved : goal.loop-preserved
loop-preserved g c =
    rw (c.in_ok-push.ensures.items, map_push ref_of c.loop.refs.items c.in_ok-one.one)
    (goes_on ref_at c.args.count (c.args.count - c.loop.counter) (c.args.count - (c.loop.counter + 1)) _ _ _ (refs_of c.loop.refs.items) (ref_of c.in_ok-one.one)
    (let t = c.loop-test.true in omega (arith, t)) c.loop.invariant c.in_ok-one.ensures)

pub returns : goal.returns
returns g c =
    goes_done ref_at c.args.count (c.args.count - c.loop.counter) _ _ (refs_of c.loop.refs.items) (let t = c.loop-test.false in omega (arith, t)) c.loop.invariant

pub loop-init : goal.loop-init
loop-init g c = rw c.new-refs.ensures.items (goes_start ref_at c.args.count (c.args.count - 0) _ (omega arith))

pub returns-in_err-push : goal.returns-in_err-push
returns-in_err-push g c =
    stops _ _ _ c.from_residual-in_err-push.ensures.1 (goes_starved ref_at (many_at ref_at c.args.count) c.args.count (c.args.count - (c.loop.counter + 1)) _ _ _
    (goes_on ref_at c.args.count (c.args.count - c.loop.counter) (c.args.count - (c.loop.counter + 1)) _ _ _ (refs_of c.loop.refs.items) (ref_of c.in_ok-one.one)
    (let t = c.loop-test.true in omega (arith, t)) c.loop.invariant c.in_ok-one.ensures))

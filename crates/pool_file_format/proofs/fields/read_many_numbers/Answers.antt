use Rattle.std.proofs.Common.{◌-◌, ◌+◌, arith}
use Rattle.std.specs.Int.{w64}
use Rattle.pool_file_format.specs.Lengths.{number_at, many_at}
use Rattle.pool_file_format.proofs.Readings.{goes_start, goes_starved, goes_on, goes_fails, goes_done, stops}
use Rattle.pool_file_format.proofs.fields.read_many_numbers.Goals as goal

pub returns-in_err-number : goal.returns-in_err-number
returns-in_err-number g c =
    stops _ _ _ c.from_residual.ensures.1 (goes_fails (number_at w64) c.args.count (c.args.count - c.loop.counter) (c.args.count - (c.loop.counter + 1)) c.in_err-number.field-0.0 _ _ _
    (c.loop.numbers.items) (let t = c.loop-test.true in omega (arith, t)) c.loop.invariant c.in_err-number.ensures)

pub loop-preserved : goal.loop-preserved
loop-preserved g c =
    rw c.in_ok-push.ensures.items
    (goes_on (number_at w64) c.args.count (c.args.count - c.loop.counter) (c.args.count - (c.loop.counter + 1)) _ _ _ (c.loop.numbers.items) c.in_ok-number.number
    (let t = c.loop-test.true in omega (arith, t)) c.loop.invariant c.in_ok-number.ensures)

pub returns : goal.returns
returns g c =
    goes_done (number_at w64) c.args.count (c.args.count - c.loop.counter) _ _ (c.loop.numbers.items) (let t = c.loop-test.false in omega (arith, t)) c.loop.invariant

pub loop-init : goal.loop-init
loop-init g c = rw c.new-numbers.ensures.items (goes_start (number_at w64) c.args.count (c.args.count - 0) _ (omega arith))

pub returns-in_err-push : goal.returns-in_err-push
returns-in_err-push g c =
    stops _ _ _ c.from_residual-in_err-push.ensures.1 (goes_starved (number_at w64) (many_at (number_at w64) c.args.count) c.args.count (c.args.count - (c.loop.counter + 1)) _ _ _
    (goes_on (number_at w64) c.args.count (c.args.count - c.loop.counter) (c.args.count - (c.loop.counter + 1)) _ _ _ c.loop.numbers.items c.in_ok-number.number
    (let t = c.loop-test.true in omega (arith, t)) c.loop.invariant c.in_ok-number.ensures))

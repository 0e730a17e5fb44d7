use Rattle.std.proofs.Common.{◌≡◌, ◌++◌, ◌∷◌, []}
use Rattle.std.proofs.lemmas.Result.{err_from_is_err_and}
use Rattle.pool_file_format.specs.Lengths.{many_at}
use Rattle.std.specs.Int.{w32}
use Rattle.pool_file_format.specs.Lengths.{number_at}
use Rattle.store_format.proofs.Loop.{goes_on, ends, is_done, starts}
use Rattle.store_format.proofs.record_reading.read_many_numbers.Goals as goal

pub loop-init : goal.loop-init
loop-init c = rw c.new-numbers.ensures.items (starts (number_at w32) c.args.count c.args.bytes.now)

pub returns-in_err-number : goal.returns-in_err-number
returns-in_err-number c =
    let p = err_from_is_err_and c.from_residual.result c.from_residual.ensures.1 in
    rw (p.1, p.2) (ends (number_at w32) c.in_err-number.field-0.0 c.loop.numbers.items c.args.count c.loop.counter c.loop.rest.now (many_at (number_at w32) c.args.count c.args.bytes.now) c.loop-test.true c.in_err-number.ensures c.loop.invariant)

pub loop-preserved : goal.loop-preserved
loop-preserved c =
    let n = c.in_ok-number.number in
    let e : c.push.new.self.items ≡ c.loop.numbers.items ++ n ∷ [] = c.in_ok-push.ensures.items in
    rw e (goes_on (number_at w32) c.loop.numbers.items c.args.count c.loop.counter c.loop.rest.now n c.in_ok-number.after.now (many_at (number_at w32) c.args.count c.args.bytes.now) c.loop-test.true c.in_ok-number.ensures c.loop.invariant)

pub returns : goal.returns
returns c = is_done (number_at w32) c.loop.numbers.items c.args.count c.loop.counter c.loop.rest.now (many_at (number_at w32) c.args.count c.args.bytes.now) c.loop-test.false c.loop.invariant

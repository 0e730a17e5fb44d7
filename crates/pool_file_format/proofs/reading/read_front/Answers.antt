use Rattle.std.proofs.Common.{◌+◌, drop, arith}
use Rattle.std.proofs.lemmas.List.{drop_all}
use Rattle.pool_file_format.specs.Lengths.{front_at}
use Rattle.pool_file_format.proofs.Readings.{fault_goes_on}
use Rattle.pool_file_format.proofs.WholeLemmas.{leads_start, drop_next, front_on, front_fails, front_done}
use Rattle.pool_file_format.proofs.reading.read_front.Goals as goal

pub loop-byte-init : goal.loop-byte-init
loop-byte-init g c = leads_start (front_at c.args.expected.now) _

pub returns-in_err-read_expected : goal.returns-in_err-read_expected
returns-in_err-read_expected g c =
    fault_goes_on _ _ c.from_residual.ensures.1 (front_fails c.args.expected.now (drop c.loop-byte.byte-index c.args.expected.now) (drop (c.loop-byte.byte-index + 1) c.args.expected.now) _ _ _ _ c.in_err-read_expected.field-0.0
    (drop_next c.args.expected.now c.loop-byte.byte-index (let t = c.loop-byte-test.true in omega (arith, t))) c.loop-byte.invariant c.in_err-read_expected.ensures)

pub loop-byte-preserved : goal.loop-byte-preserved
loop-byte-preserved g c =
    front_on c.args.expected.now (drop c.loop-byte.byte-index c.args.expected.now) (drop (c.loop-byte.byte-index + 1) c.args.expected.now) _ _ _ _
    (drop_next c.args.expected.now c.loop-byte.byte-index (let t = c.loop-byte-test.true in omega (arith, t))) c.loop-byte.invariant c.in_ok-read_expected.ensures

pub returns : goal.returns
returns g c = front_done c.args.expected.now (drop c.loop-byte.byte-index c.args.expected.now) _ _
    (drop_all c.loop-byte.byte-index c.args.expected.now (let t = c.loop-byte-test.false in omega (arith, t))) c.loop-byte.invariant

use Rattle.std.proofs.Common.{◌≡◌, take, arith}
use Rattle.byte_devices.proofs.ReadLemmas.{one_well, one_empty}
use Rattle.pool_file_format.proofs.WholeLemmas.{end_reads, end_trails, end_fails, end_out}
use Rattle.pool_file_format.proofs.reading.read_end.Goals as goal

pub returns-then-calls-bound : goal.returns-then-calls-bound
returns-then-calls-bound g c = let r = c.calls.ensures in let t = c.if-calls-bound.true in end_out c.args.bound _ (omega (arith, r, t))

pub returns-in-Ok-eq0 : goal.returns-in-Ok-eq0
returns-in-Ok-eq0 g c =
    let none : c.in-Ok-eq0.field-0 ≡ 0 = c.in-Ok-eq0.field-0-test in
    let n = c.read.ensures.calls in let r = c.calls.ensures in let t = c.if-calls-bound.false in
    let b = c.read.auto.buf in
    end_reads c.args.bound _ _
    (one_empty _ _ c.in-Ok-eq0.field-0 c.read.new.buf none c.in-Ok-eq0.ensures.bytes.0 c.in-Ok-eq0.ensures.passed c.in-Ok-eq0.ensures.faults)
    (c.in-Ok-eq0.ensures.bytes.1 none (omega (arith, b))) (omega (arith, n)) (omega (arith, n, r, t))

pub returns-in-Ok : goal.returns-in-Ok
returns-in-Ok g c =
    let n = c.read.ensures.calls in let r = c.calls.ensures in let t = c.if-calls-bound.false in
    let s = c.in-Ok.ensures.bound.1 in let k = c.in-Ok.field-0-test in
    let buf = c.read.new.buf in
    end_trails c.args.bound _ _ (take c.in-Ok.field-0 buf) (omega (arith, s, k))
    (one_well _ _ c.in-Ok.field-0 buf s c.in-Ok.ensures.bytes.0 c.in-Ok.ensures.passed c.in-Ok.ensures.faults)
    (omega (arith, n)) (omega (arith, n, r, t))

pub returns-in-Err : goal.returns-in-Err
returns-in-Err g c =
    let n = c.read.ensures.calls in let r = c.calls.ensures in let t = c.if-calls-bound.false in
    end_fails c.args.bound _ _ c.in-Err.ensures.bytes c.in-Err.ensures.passed c.in-Err.ensures.faults (omega (arith, n)) (omega (arith, n, r, t))

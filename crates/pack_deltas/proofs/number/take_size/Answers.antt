use Rattle.std.proofs.Common.{◌-◌, arith}
use Rattle.pack_deltas.proofs.Numbers.{begun, last-read, next-size, none-left, none-read, one-left, scale-small, sum-bound}
use Rattle.pack_deltas.proofs.number.take_size.Goals as goal

pub loop-left-init : goal.loop-left-init
loop-left-init c = begun c.args.text.now

pub returns-in_default : goal.returns-in_default
returns-in_default c =
    none-read c.args.text.now c.loop-left.rest.now c.loop-left.size c.loop-left.scale c.loop-left.left
    c.in_default.ensures.cases c.loop-left-test.true c.loop-left.invariant

pub overflow_mul-size : goal.overflow_mul-size
overflow_mul-size c =
    let so = one-left c.args.text.now c.loop-left.rest.now c.in-Some.byte.now c.in-Some.after.now c.loop-left.size c.loop-left.scale c.loop-left.left
    c.in-Some.ensures.cases.0 c.loop-left-test.true c.loop-left.invariant in
    let sum = sum-bound c.args.text.now c.in-Some.byte.now c.in-Some.after.now c.loop-left.size c.loop-left.scale (c.loop-left.left - 1) so in
    let small = scale-small c.args.text.now c.in-Some.byte.now c.in-Some.after.now c.loop-left.size c.loop-left.scale (c.loop-left.left - 1) so in
    omega (arith, sum, small)

pub overflow_add-size : goal.overflow_add-size
overflow_add-size c =
    let so = one-left c.args.text.now c.loop-left.rest.now c.in-Some.byte.now c.in-Some.after.now c.loop-left.size c.loop-left.scale c.loop-left.left
    c.in-Some.ensures.cases.0 c.loop-left-test.true c.loop-left.invariant in
    let sum = sum-bound c.args.text.now c.in-Some.byte.now c.in-Some.after.now c.loop-left.size c.loop-left.scale (c.loop-left.left - 1) so in
    let small = scale-small c.args.text.now c.in-Some.byte.now c.in-Some.after.now c.loop-left.size c.loop-left.scale (c.loop-left.left - 1) so in
    omega (arith, sum, small)

pub returns-then-byte-lt128 : goal.returns-then-byte-lt128
returns-then-byte-lt128 c =
    let so = one-left c.args.text.now c.loop-left.rest.now c.in-Some.byte.now c.in-Some.after.now c.loop-left.size c.loop-left.scale c.loop-left.left
    c.in-Some.ensures.cases.0 c.loop-left-test.true c.loop-left.invariant in
    last-read c.args.text.now c.in-Some.byte.now c.in-Some.after.now c.loop-left.size c.loop-left.scale (c.loop-left.left - 1) so c.if-byte-lt128.true

pub overflow_mul-scale : goal.overflow_mul-scale
overflow_mul-scale c =
    let so = one-left c.args.text.now c.loop-left.rest.now c.in-Some.byte.now c.in-Some.after.now c.loop-left.size c.loop-left.scale c.loop-left.left
    c.in-Some.ensures.cases.0 c.loop-left-test.true c.loop-left.invariant in
    let small = scale-small c.args.text.now c.in-Some.byte.now c.in-Some.after.now c.loop-left.size c.loop-left.scale (c.loop-left.left - 1) so in
    omega (arith, small)

pub loop-left-preserved : goal.loop-left-preserved
loop-left-preserved c =
    let so = one-left c.args.text.now c.loop-left.rest.now c.in-Some.byte.now c.in-Some.after.now c.loop-left.size c.loop-left.scale c.loop-left.left
    c.in-Some.ensures.cases.0 c.loop-left-test.true c.loop-left.invariant in
    next-size c.args.text.now c.in-Some.byte.now c.in-Some.after.now c.loop-left.size c.loop-left.scale (c.loop-left.left - 1) so
    (let no = c.if-byte-lt128.false in omega (arith, no))

pub returns : goal.returns
returns c =
    none-left c.args.text.now c.loop-left.rest.now c.loop-left.size c.loop-left.scale c.loop-left.left
    (let no = c.loop-left-test.false in omega (arith, no)) c.loop-left.invariant

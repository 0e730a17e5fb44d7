use Rattle.std.proofs.Common.{◌≡◌, refl, arith}
use Rattle.std.proofs.lemmas.List.{length-append}
use Rattle.byte_devices.specs.Device.{device_of, seen}
use Rattle.byte_devices.proofs.ReadLemmas.{well_none, one_well, one_empty, short_front, room_more, room_ends, room_fails}
use Rattle.byte_devices.proofs.filling.fill.Goals as goal

pub loop-filled-init : goal.loop-filled-init
loop-filled-init g c = (
  omega arith,
  refl,
  well_none _
      (let a = c.passed-passed.type_inv in let b = c.passed-passed.ensures in omega (arith, a, b)),
  (λ i. let t = c.type_inv.room i in omega (arith, t)),
)

pub returns-in-Ok-eq0-clause-bytes : goal.returns-in-Ok-eq0-clause-bytes
returns-in-Ok-eq0-clause-bytes g c = λ i. let t = c.type_inv.room i in omega (arith, t)

pub returns-in-Ok-eq0-clause-fills : goal.returns-in-Ok-eq0-clause-fills
returns-in-Ok-eq0-clause-fills g c =
    let none : c.in-Ok-eq0.field-0 ≡ 0 = c.in-Ok-eq0.field-0-test in
    let front = c.split_at_mut.result.0.now in (
      front,
      short_front front c.read.new.buf (returns-in-Ok-eq0-clause-bytes g c)
          (let b = c.read.auto.buf in let d = c.loop-filled-test.true in let f = c.split_at_mut.ensures.back_len in omega (arith, b, d, f)),
      room_ends _
          (seen (g.R.Read.remaining (device_of c.loop-filled.reader)) c.loop-filled.reader) _ c.loop-filled.room front c.read.new.buf c.loop-filled.filled
          c.split_at_mut.ensures.front c.loop-filled.invariant.2
          (one_empty _ _ c.in-Ok-eq0.field-0 c.read.new.buf none c.in-Ok-eq0.ensures.bytes.0 c.in-Ok-eq0.ensures.passed c.in-Ok-eq0.ensures.faults)
          (c.in-Ok-eq0.ensures.bytes.1 none
          (let b = c.read.auto.buf in let d = c.loop-filled-test.true in let f = c.split_at_mut.ensures.back_len in omega (arith, b, d, f))),
    )

pub loop-filled-preserved : goal.loop-filled-preserved
loop-filled-preserved g c =
    let front = c.split_at_mut.result.0.now in
    let a = length-append front c.read.new.buf in let b = c.read.auto.buf in
    let e = c.split_at_mut.ensures.front_len in let f = c.split_at_mut.ensures.back_len in
    let h = c.in-Ok.ensures.bound.0 in let i = c.loop-filled.invariant.0 in let j = c.loop-filled.invariant.1 in (
      omega (arith, a, b, e, f, h, i, j),
      omega (arith, a, b, e, f, i, j),
      room_more _
          (seen (g.R.Read.remaining (device_of c.loop-filled.reader)) c.loop-filled.reader) _ c.loop-filled.room front c.read.new.buf
          c.loop-filled.filled c.in-Ok.n c.split_at_mut.ensures.front e c.loop-filled.invariant.2
          (one_well _ _ c.in-Ok.n c.read.new.buf c.in-Ok.ensures.bound.1 c.in-Ok.ensures.bytes.0 c.in-Ok.ensures.passed c.in-Ok.ensures.faults),
      (λ i. let t = c.type_inv.room i in omega (arith, t)),
    )

pub returns-in-Err-clause-bytes : goal.returns-in-Err-clause-bytes
returns-in-Err-clause-bytes g c = λ i. let t = c.type_inv.room i in omega (arith, t)

pub returns-in-Err-clause-fills : goal.returns-in-Err-clause-fills
returns-in-Err-clause-fills g c =
    let front = c.split_at_mut.result.0.now in (
      front,
      short_front front c.read.new.buf (returns-in-Err-clause-bytes g c)
          (let b = c.read.auto.buf in let d = c.loop-filled-test.true in let f = c.split_at_mut.ensures.back_len in omega (arith, b, d, f)),
      room_fails _
          (seen (g.R.Read.remaining (device_of c.loop-filled.reader)) c.loop-filled.reader) _ c.loop-filled.room front c.loop-filled.filled
          c.split_at_mut.ensures.front c.loop-filled.invariant.2 c.in-Err.ensures.bytes c.in-Err.ensures.passed c.in-Err.ensures.faults,
    )

pub returns-clause-bytes : goal.returns-clause-bytes
returns-clause-bytes g c = c.loop-filled.invariant.3

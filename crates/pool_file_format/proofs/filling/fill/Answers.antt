use Rattle.std.proofs.Common.{◌≡◌, ℕ, ◌≤◌, List, ◌++◌, length, take, subst, refl, arith}
use Rattle.std.proofs.lemmas.List.{length-append, length-take, take_all}
use Rattle.byte_devices.specs.Device.{device_of, seen}
use Rattle.byte_devices.proofs.ReadLemmas.{well_none, one_well, one_empty, room_more, room_ends, room_fails}
use Rattle.byte_devices.specs.Reading.{HasReadWell}
use Rattle.pool_file_format.specs.Lengths.{bytes_at}
use Rattle.pool_file_format.proofs.Takes.{reads_whole, reads_short, reads_out, reads_failed}
use Rattle.pool_file_format.proofs.filling.fill.Goals as goal

pub loop-filled-init : goal.loop-filled-init
loop-filled-init g c = (
  omega arith,
  refl,
  well_none _ (let a = c.passed-passed.type_inv in let b = c.passed-passed.ensures in omega (arith, a, b)),
  (λ few. few),
  omega arith,
  (λ i. let t = c.type_inv.room i in omega (arith, t)),
)

front_length : (room : List ℕ) (filled : ℕ) → filled ≤ length room → length (take filled room) ≡ filled
front_length room filled within = let l = length-take filled room in omega (arith, l, within)

pub returns-then-calls-bound-clause-reads : goal.returns-then-calls-bound-clause-reads
returns-then-calls-bound-clause-reads g c =
    let front = take c.loop-filled.filled c.loop-filled.room in
    let l = front_length c.loop-filled.room c.loop-filled.filled c.loop-filled.invariant.0 in
    let i = c.loop-filled.invariant.4 in let r = c.calls.ensures in let t = c.if-calls-bound.true in
    reads_out c.args.bound (bytes_at (length c.loop-filled.room)) _ _ front c.loop-filled.invariant.2
    (omega (arith, l, i)) (omega (arith, r, t)) c.loop-filled.invariant.3

pub returns-in-Ok-eq0-clause-reads : goal.returns-in-Ok-eq0-clause-reads
returns-in-Ok-eq0-clause-reads g c =
    let none : c.in-Ok-eq0.field-0 ≡ 0 = c.in-Ok-eq0.field-0-test in
    let front = c.split_at_mut.result.0.now in
    let a = length-append front c.read.new.buf in let b = c.read.auto.buf in let d = c.loop-filled-test.true in
    let e = c.split_at_mut.ensures.front_len in let f = c.split_at_mut.ensures.back_len in
    let n = c.read.ensures.calls in let r = c.calls.ensures in let t = c.if-calls-bound.false in
    let i = c.loop-filled.invariant.4 in
    reads_short c.args.bound _ _ (length (front ++ c.read.new.buf)) front
    (room_ends _
    (seen (g.R.Read.remaining (device_of c.loop-filled.reader)) c.loop-filled.reader) _ c.loop-filled.room front c.read.new.buf c.loop-filled.filled
    c.split_at_mut.ensures.front c.loop-filled.invariant.2
    (one_empty _ _ c.in-Ok-eq0.field-0 c.read.new.buf none c.in-Ok-eq0.ensures.bytes.0 c.in-Ok-eq0.ensures.passed c.in-Ok-eq0.ensures.faults)
    (c.in-Ok-eq0.ensures.bytes.1 none (omega (arith, b, d, f))))
    (omega (arith, a, b, d, e, f))
    (omega (arith, n, e, i)) (λ few. omega (arith, n, r, t))

pub returns-in-Err-clause-reads : goal.returns-in-Err-clause-reads
returns-in-Err-clause-reads g c =
    let front = c.split_at_mut.result.0.now in
    let e = c.split_at_mut.ensures.front_len in let i = c.loop-filled.invariant.4 in
    let n = c.read.ensures.calls in let r = c.calls.ensures in let t = c.if-calls-bound.false in
    reads_failed c.args.bound (bytes_at (length (front ++ c.read.new.buf))) _ _ front
    (room_fails _
    (seen (g.R.Read.remaining (device_of c.loop-filled.reader)) c.loop-filled.reader) _ c.loop-filled.room front c.loop-filled.filled
    c.split_at_mut.ensures.front c.loop-filled.invariant.2 c.in-Err.ensures.bytes c.in-Err.ensures.passed c.in-Err.ensures.faults)
    (omega (arith, n, e, i)) (λ few. omega (arith, n, r, t))

pub loop-filled-preserved : goal.loop-filled-preserved
loop-filled-preserved g c =
    let front = c.split_at_mut.result.0.now in
    let a = length-append front c.read.new.buf in let b = c.read.auto.buf in
    let e = c.split_at_mut.ensures.front_len in let f = c.split_at_mut.ensures.back_len in
    let h = c.in-Ok.ensures.bound.0 in let i = c.loop-filled.invariant.0 in let j = c.loop-filled.invariant.1 in
    let n = c.read.ensures.calls in let r = c.calls.ensures in let t = c.if-calls-bound.false in
    let k = c.loop-filled.invariant.4 in let some = c.in-Ok.n-test in (
      omega (arith, a, b, e, f, h, i, j),
      omega (arith, a, b, e, f, i, j),
      room_more _
          (seen (g.R.Read.remaining (device_of c.loop-filled.reader)) c.loop-filled.reader) _ c.loop-filled.room front c.read.new.buf
          c.loop-filled.filled c.in-Ok.n c.split_at_mut.ensures.front e c.loop-filled.invariant.2
          (one_well _ _ c.in-Ok.n c.read.new.buf c.in-Ok.ensures.bound.1 c.in-Ok.ensures.bytes.0 c.in-Ok.ensures.passed c.in-Ok.ensures.faults),
      (λ few. omega (arith, n, r, t)),
      omega (arith, n, k, some),
      (λ i. let t = c.type_inv.room i in omega (arith, t)),
    )

pub returns-clause-reads : goal.returns-clause-reads
returns-clause-reads g c =
    let full = take_all c.loop-filled.filled c.loop-filled.room (let t = c.loop-filled-test.false in omega (arith, t)) in
    let k = c.loop-filled.invariant.4 in let i = c.loop-filled.invariant.0 in
    reads_whole c.args.bound _ _ c.loop-filled.room
    (subst (λ (l : List ℕ). HasReadWell (seen (g.R.Read.remaining (device_of c.args.reader.now)) c.args.reader.now) (seen (g.R.Read.remaining (device_of c.loop-filled.reader)) c.loop-filled.reader) l)
    full c.loop-filled.invariant.2)
    c.loop-filled.invariant.5 (omega (arith, k, i)) c.loop-filled.invariant.3

use Rattle.std.proofs.Common.{Option, Ok, subst, arith}
use Rattle.std.proofs.lemmas.Result.{err_from_is_err_and}
use Rattle.git_objects.specs.Device.{Device, device_of, seen}
use Rattle.service_steps.specs.declared.request.Request.{Request}
use Rattle.service_steps.specs.RequestReading.{ReadsRequest}
use Rattle.gitpool.specs.Requests.{Hosted, hosted, told_with}
use Rattle.gitpool.proofs.HostLemmas.{so_far_new, ends_at, fails_at, taken_by, so_far_more, write_fails, limit_reached}
use Rattle.gitpool.proofs.hosting.answer_requests.Goals as goal

pub loop-init : goal.loop-init
loop-init g c = (
  c.requires,
  so_far_new _ _ _ _ (let a = c.passed-passed.type_inv in let b = c.passed-passed.ensures in omega (arith, a, b)),
)

pub returns-in-Ok-None : goal.returns-in-Ok-None
returns-in-Ok-None g c =
    let r : Device = seen (g.R.Read.remaining (device_of c.loop.reader)) c.loop.reader in
    let r' : Device = seen (g.R.Read.remaining (device_of c.next.new.reader)) c.next.new.reader in
    ends_at _ _ _ _ r _ _ _ r' c.loop.invariant.1 c.loop-test.true
    (subst (λ (o : Option Request). ReadsRequest r (Ok o) r') c.in-Ok-None.field-0-is c.in-Ok-None.ensures)

pub returns-in-Err : goal.returns-in-Err
returns-in-Err g c = fails_at _ _ _ _ _ _ _ _ _ c.in-Err.fault c.loop.invariant.1 c.loop-test.true c.in-Err.ensures

pub returns-in_err-write_answer : goal.returns-in_err-write_answer
returns-in_err-write_answer g c =
    let r : Device = seen (g.R.Read.remaining (device_of c.loop.reader)) c.loop.reader in
    let r' : Device = seen (g.R.Read.remaining (device_of c.next.new.reader)) c.next.new.reader in
    let before : Hosted = hosted c.loop.service (g.P.PoolPlace.file c.loop.place) in
    let after : Hosted = hosted c.take-answer.new.service (g.P.PoolPlace.file c.take-answer.new.place) in
    let p = err_from_is_err_and c.from_residual.result c.from_residual.ensures.1 in
    rw (p.1, p.2)
    (write_fails _ _ before after _ r _ _ _ r' _ (told_with c.take-answer.result c.take-answer.new.out.items) c.loop.invariant.1
    c.loop-test.true
    (taken_by _ _ before after _ r _ _ _ r' c.in-Ok-Some.request _ c.loop.invariant.1
    (subst (λ (o : Option Request). ReadsRequest r (Ok o) r') c.in-Ok-Some.field-0-is c.in-Ok-Some.ensures)
    c.take-answer.ensures)
    (rw c.deref.ensures.value at c.in_err-write_answer.ensures.front)
    c.in_err-write_answer.ensures.cause)

pub loop-preserved : goal.loop-preserved
loop-preserved g c =
    let r : Device = seen (g.R.Read.remaining (device_of c.loop.reader)) c.loop.reader in
    let r' : Device = seen (g.R.Read.remaining (device_of c.next.new.reader)) c.next.new.reader in
    let before : Hosted = hosted c.loop.service (g.P.PoolPlace.file c.loop.place) in
    let after : Hosted = hosted c.take-answer.new.service (g.P.PoolPlace.file c.take-answer.new.place) in (
      c.clear.ensures.items,
      so_far_more _ _ before after _ r _ _ _ r' _ (told_with c.take-answer.result c.take-answer.new.out.items) c.loop.invariant.1
          (taken_by _ _ before after _ r _ _ _ r' c.in-Ok-Some.request _ c.loop.invariant.1
          (subst (λ (o : Option Request). ReadsRequest r (Ok o) r') c.in-Ok-Some.field-0-is c.in-Ok-Some.ensures)
          c.take-answer.ensures)
          (rw c.deref.ensures.value at c.in_ok-write_answer.ensures.written)
          c.in_ok-write_answer.ensures.well,
    )

pub returns : goal.returns
returns g c =
    limit_reached _ _ _ _ _ _ _ _ c.loop.invariant.1
    (let a = c.loop-test.false in let b = c.loop.auto.counter-end in omega (arith, a, b))

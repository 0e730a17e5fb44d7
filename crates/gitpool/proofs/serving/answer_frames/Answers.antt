use Rattle.std.proofs.Common.{Option, Ok, refl, subst, ◌∙◌, arith}
use Rattle.std.proofs.lemmas.Result.{err_from_is_err_and}
use Rattle.git_objects.specs.Device.{Device, device_of, seen}
use Rattle.service_steps.specs.declared.step.Step.{Step}
use Rattle.service_steps.specs.Reading.{ReadsStep}
use Rattle.tenant_service.proofs.KeptLemmas.{ask-stays}
use Rattle.gitpool.proofs.ServeLemmas.{so_far_new, ends_at, fails_at, taken_by, told_whole, so_far_more, write_fails, limit_reached}
use Rattle.gitpool.proofs.serving.answer_frames.Goals as goal

pub loop-init : goal.loop-init
loop-init g c = (
  c.requires,
  (λ still. λ name. refl),
  so_far_new _ _ _ _ (let a = c.passed-passed.type_inv in let b = c.passed-passed.ensures in omega (arith, a, b)),
)

pub returns-in-Ok-None : goal.returns-in-Ok-None
returns-in-Ok-None g c = record {
  unchanged = c.loop.invariant.1;
  serves =
      let r : Device = seen (g.R.Read.remaining (device_of c.loop.reader)) c.loop.reader in
      let r' : Device = seen (g.R.Read.remaining (device_of c.next.new.reader)) c.next.new.reader in
      ends_at _ _ _ _ r _ _ _ r' c.loop.invariant.2 c.loop-test.true
      (subst (λ (o : Option Step). ReadsStep r (Ok o) r') c.in-Ok-None.field-0-is c.in-Ok-None.ensures);
}

pub returns-in-Err : goal.returns-in-Err
returns-in-Err g c = record {
  unchanged = c.loop.invariant.1;
  serves = fails_at _ _ _ _ _ _ _ _ _ c.in-Err.fault c.loop.invariant.2 c.loop-test.true c.in-Err.ensures;
}

pub returns-in_err-write_answer : goal.returns-in_err-write_answer
returns-in_err-write_answer g c = record {
  unchanged = λ still. λ name. c.step-answer.ensures.kept name (ask-stays name _ (c.note.ensures.asks still))
      ∙ c.loop.invariant.1 (c.note.ensures.before still) name;
  serves =
      let r : Device = seen (g.R.Read.remaining (device_of c.loop.reader)) c.loop.reader in
      let r' : Device = seen (g.R.Read.remaining (device_of c.next.new.reader)) c.next.new.reader in
      let p = err_from_is_err_and c.from_residual.result c.from_residual.ensures.1 in
      rw (p.1, p.2)
      (write_fails _ _ c.loop.service c.step-answer.new.self _ r _ _ _ r' _ (told_whole c.step-answer.result c.step-answer.new.out.items) c.loop.invariant.2
      c.loop-test.true
      (taken_by _ _ c.loop.service c.step-answer.new.self _ r _ _ _ r' c.in-Ok-Some.step c.step-answer.result c.loop.out.items c.step-answer.new.out.items c.loop.invariant.2
      (subst (λ (o : Option Step). ReadsStep r (Ok o) r') c.in-Ok-Some.field-0-is c.in-Ok-Some.ensures)
      c.loop.invariant.0 c.step-answer.ensures.own c.step-answer.ensures.bad_names)
      (rw c.deref.ensures.value at c.in_err-write_answer.ensures.front)
      c.in_err-write_answer.ensures.cause);
}

pub loop-preserved : goal.loop-preserved
loop-preserved g c =
    let r : Device = seen (g.R.Read.remaining (device_of c.loop.reader)) c.loop.reader in
    let r' : Device = seen (g.R.Read.remaining (device_of c.next.new.reader)) c.next.new.reader in (
      c.clear.ensures.items,
      (λ still. λ name. c.step-answer.ensures.kept name (ask-stays name _ (c.note.ensures.asks still))
          ∙ c.loop.invariant.1 (c.note.ensures.before still) name),
      so_far_more _ _ c.loop.service c.step-answer.new.self _ r _ _ _ r' _ (told_whole c.step-answer.result c.step-answer.new.out.items) c.loop.invariant.2
          (taken_by _ _ c.loop.service c.step-answer.new.self _ r _ _ _ r' c.in-Ok-Some.step c.step-answer.result c.loop.out.items c.step-answer.new.out.items c.loop.invariant.2
          (subst (λ (o : Option Step). ReadsStep r (Ok o) r') c.in-Ok-Some.field-0-is c.in-Ok-Some.ensures)
          c.loop.invariant.0 c.step-answer.ensures.own c.step-answer.ensures.bad_names)
          (rw c.deref.ensures.value at c.in_ok-write_answer.ensures.written)
          c.in_ok-write_answer.ensures.well,
    )

pub returns : goal.returns
returns g c = record {
  unchanged = c.loop.invariant.1;
  serves = limit_reached _ _ _ _ _ _ _ _ c.loop.invariant.2
      (let a = c.loop-test.false in let b = c.loop.auto.counter-end in omega (arith, a, b));
}

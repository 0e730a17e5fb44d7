use Rattle.std.proofs.Common.{refl, ap, ◌∙◌}
use Rattle.std.proofs.lemmas.Result.{err_from_is_err_and}
use Rattle.git_objects.specs.Device.{device_of, seen}
use Rattle.tenant_service.proofs.KeptLemmas.{ask-stays}
use Rattle.gitpool.specs.StepFaults.{as_result}
use Rattle.gitpool.proofs.AskLemmas.{asked-ok, ask-bad, ask-not-ok, asks-refused, asks-unwritten, asks-well}
use Rattle.gitpool.proofs.asking.ask.Goals as goal

pub returns-in_err-as_result-clause-asked : goal.returns-in_err-as_result-clause-asked
returns-in_err-as_result-clause-asked g c =
    let p = err_from_is_err_and c.from_residual.result c.from_residual.ensures.1 in
    let led = c.is_led.ensures c.args.tenant.now in
    rw (p.1, p.2)
    (asks-refused _ c.args.tenant.now c.args.query.now _ c.step-answer.result _ _ c.args.service.now c.step-answer.new.self refl refl refl
    c.new-reply.ensures.items c.step-answer.ensures.own c.step-answer.ensures.bad_names led.0 _ _ led.1 c.in_err-as_result.ensures)

pub returns-in_err-as_result-clause-unchanged : goal.returns-in_err-as_result-clause-unchanged
returns-in_err-as_result-clause-unchanged g c = λ name.
    c.step-answer.ensures.kept name (ask-stays name _ refl)

pub returns-in_err-as_result-clause-bad_names : goal.returns-in_err-as_result-clause-bad_names
returns-in_err-as_result-clause-bad_names g c = λ wrong.
    let p = err_from_is_err_and c.from_residual.result c.from_residual.ensures.1 in
    rw (p.1, p.2)
    (c.in_err-as_result.ensures
    ∙ ap as_result (ask-bad _ c.args.tenant.now c.args.query.now _ c.step-answer.result _ _ c.args.service.now c.step-answer.new.self refl refl refl
    c.new-reply.ensures.items c.step-answer.ensures.own c.step-answer.ensures.bad_names wrong))

pub returns-in_err-write_all-clause-asked : goal.returns-in_err-write_all-clause-asked
returns-in_err-write_all-clause-asked g c =
    let p = err_from_is_err_and c.from_residual-in_err-write_all.result c.from_residual-in_err-write_all.ensures.1 in
    rw (p.1, p.2)
    (asks-unwritten _ c.args.tenant.now c.args.query.now _ c.step-answer.result _ _ c.args.service.now c.step-answer.new.self refl refl refl
    c.new-reply.ensures.items c.step-answer.ensures.own c.step-answer.ensures.bad_names
    (seen (g.W.Write.contents (device_of c.args.writer.now)) c.args.writer.now)
    (seen (g.W.Write.contents (device_of c.write_all.new.writer)) c.write_all.new.writer)
    (asked-ok c.step-answer.result _ c.in_ok-as_result.ensures)
    (rw c.deref.ensures.value at c.in_err-write_all.ensures.front) c.in_err-write_all.ensures.cause)

pub returns-in_err-write_all-clause-unchanged : goal.returns-in_err-write_all-clause-unchanged
returns-in_err-write_all-clause-unchanged g c = λ name.
    c.step-answer.ensures.kept name (ask-stays name _ refl)

pub returns-in_err-write_all-clause-bad_names : goal.returns-in_err-write_all-clause-bad_names
returns-in_err-write_all-clause-bad_names g c = λ wrong.
    absurd (ask-not-ok _ c.args.tenant.now c.args.query.now _ c.step-answer.result _ _ c.args.service.now c.step-answer.new.self refl refl refl
    c.new-reply.ensures.items c.step-answer.ensures.own c.step-answer.ensures.bad_names wrong (asked-ok c.step-answer.result _ c.in_ok-as_result.ensures))

pub returns-clause-asked : goal.returns-clause-asked
returns-clause-asked g c =
    asks-well _ c.args.tenant.now c.args.query.now _ c.step-answer.result _ _ c.args.service.now c.step-answer.new.self refl refl refl
    c.new-reply.ensures.items c.step-answer.ensures.own c.step-answer.ensures.bad_names
    (seen (g.W.Write.contents (device_of c.args.writer.now)) c.args.writer.now)
    (seen (g.W.Write.contents (device_of c.write_all.new.writer)) c.write_all.new.writer) _
    (asked-ok c.step-answer.result _ c.in_ok-as_result.ensures)
    (rw c.deref.ensures.value at c.in_ok-write_all.ensures.written) c.in_ok-write_all.ensures.well

pub returns-clause-unchanged : goal.returns-clause-unchanged
returns-clause-unchanged g c = λ name.
    c.step-answer.ensures.kept name (ask-stays name _ refl)

pub returns-clause-bad_names : goal.returns-clause-bad_names
returns-clause-bad_names g c = λ wrong.
    absurd (ask-not-ok _ c.args.tenant.now c.args.query.now _ c.step-answer.result _ _ c.args.service.now c.step-answer.new.self refl refl refl
    c.new-reply.ensures.items c.step-answer.ensures.own c.step-answer.ensures.bad_names wrong (asked-ok c.step-answer.result _ c.in_ok-as_result.ensures))

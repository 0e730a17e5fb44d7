use Rattle.std.proofs.Common.{refl}
use Rattle.std.proofs.lemmas.Result.{err_from_is_err_and}
use Rattle.git_objects.specs.Device.{device_of, seen}
use Rattle.gitpool.proofs.StepLemmas.{calls-one, feed-step}
use Rattle.gitpool.proofs.ImportLemmas.{passes_on, pass_fails}
use Rattle.gitpool.proofs.importing.pass_on.Goals as goal

pub returns-in_err-write_replies-clause-taken : goal.returns-in_err-write_replies-clause-taken
returns-in_err-write_replies-clause-taken g c = calls-one _ _ c.args.service.now c.step-fed.new.self _ _ _ refl refl c.step-fed.ensures.own

pub returns-in_err-write_replies-clause-passed : goal.returns-in_err-write_replies-clause-passed
returns-in_err-write_replies-clause-passed g c = λ repository bytes streaming.
    let p = err_from_is_err_and c.from_residual.result c.from_residual.ensures.1 in
    rw (p.1, p.2)
    (pass_fails _ _ _ _ _ (seen (g.W.Write.contents (device_of c.args.writer.now)) c.args.writer.now)
    (seen (g.W.Write.contents (device_of c.write_replies.new.writer)) c.write_replies.new.writer) c.step-fed.result _ c.step-fed.new.self
    (feed-step _ _ _ c.step-fed.result _ _ c.args.service.now c.step-fed.new.self refl c.requires.emptied c.step-fed.ensures.own repository bytes _ refl streaming)
    c.in_err-write_replies.ensures.front c.in_err-write_replies.ensures.cause)

pub returns-clause-taken : goal.returns-clause-taken
returns-clause-taken g c = calls-one _ _ c.args.service.now c.step-fed.new.self _ _ _ refl refl c.step-fed.ensures.own

pub returns-clause-passed : goal.returns-clause-passed
returns-clause-passed g c = λ repository bytes streaming.
    rw c.as_result.ensures
    (passes_on _ _ _ _ _ _ _ c.step-fed.result _ c.args.service.now c.step-fed.new.self streaming
    (feed-step _ _ _ c.step-fed.result _ _ c.args.service.now c.step-fed.new.self refl c.requires.emptied c.step-fed.ensures.own repository bytes _ refl streaming)
    c.in_ok-write_replies.ensures.written c.in_ok-write_replies.ensures.well)

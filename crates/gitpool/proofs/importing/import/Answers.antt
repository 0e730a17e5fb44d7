use Rattle.std.proofs.Common.{ap, refl, ◌∙◌, arith}
use Rattle.std.proofs.lemmas.Result.{err_from_is_err_and}
use Rattle.gitpool.specs.StepFaults.{as_result}
use Rattle.gitpool.proofs.StepLemmas.{calls-one, imported-so, open-step, open-silent, open-not-refused, open-refused}
use Rattle.gitpool.proofs.ImportLemmas.{imports-effect, open_fails, ok-answer, ok-not-fault}
use Rattle.gitpool.proofs.importing.import.Goals as goal

pub returns-in_err-as_result-clause-imported : goal.returns-in_err-as_result-clause-imported
returns-in_err-as_result-clause-imported g c = λ repository can.
    let p = err_from_is_err_and c.from_residual.result c.from_residual.ensures.1 in
    rw (p.1, p.2)
    (open_fails _ _ repository c.args.service.now c.step-opened.new.self _ _ c.step-opened.result c.in_err-as_result.field-0.0
    (let a = c.passed-passed.type_inv in let b = c.passed-passed.ensures in omega (arith, a, b)) c.in_err-as_result.ensures
    (λ code fault. open-not-refused _ _ _ c.step-opened.result _ _ c.args.service.now c.step-opened.new.self refl c.new-out.ensures.items c.step-opened.ensures.own
    repository code refl can fault)
    (calls-one _ _ c.args.service.now c.step-opened.new.self _ _ _ refl refl c.step-opened.ensures.own))

pub returns-in_err-as_result-clause-refused : goal.returns-in_err-as_result-clause-refused
returns-in_err-as_result-clause-refused g c = λ code refusal.
    let p = err_from_is_err_and c.from_residual.result c.from_residual.ensures.1 in
    let led = c.is_led.ensures c.args.tenant.now in
    rw (p.1, p.2)
    (record {
      answered = c.in_err-as_result.ensures
          ∙ ap as_result (open-refused _ c.args.tenant.now c.args.service.now _ _ _ led.0 code refl refl refl (c.step-opened.ensures.own c.args.tenant.now)
          c.step-opened.ensures.bad_names led.1 refusal);
      unread = refl;
      unwritten = refl;
      taken = calls-one _ _ c.args.service.now c.step-opened.new.self _ _ _ refl refl c.step-opened.ensures.own;
    })

pub carry_out-requires : goal.carry_out-requires
carry_out-requires g c =
    let led = c.is_led.ensures c.args.tenant.now in
    record {
      emptied = open-silent _ c.args.tenant.now _ c.step-opened.result _ _ c.args.service.now c.step-opened.new.self refl c.new-out.ensures.items c.step-opened.ensures.own
          led.0 refl refl c.step-opened.ensures.bad_names led.1;
    }

pub returns-clause-imported : goal.returns-clause-imported
returns-clause-imported g c = λ repository can.
    imports-effect _ repository _ _ _ _ _ _ c.carry_out.result
    (λ ended bytes fed. imported-so _ _ c.args.service.now c.step-opened.new.self c.carry_out.new.service ended bytes
    (calls-one _ _ c.args.service.now c.step-opened.new.self _ _ _ refl refl c.step-opened.ensures.own) fed)
    (c.carry_out.ensures repository
    (open-step _ c.args.tenant.now _ c.step-opened.result _ _ c.args.service.now c.step-opened.new.self refl c.new-out.ensures.items c.step-opened.ensures.own
    repository refl can (ok-answer c.step-opened.result c.in_ok-as_result.ensures)))

pub returns-clause-refused : goal.returns-clause-refused
returns-clause-refused g c = λ code refusal.
    let led = c.is_led.ensures c.args.tenant.now in
    absurd (ok-not-fault c.step-opened.result code (ok-answer c.step-opened.result c.in_ok-as_result.ensures)
    (open-refused _ c.args.tenant.now c.args.service.now _ _ _ led.0 code refl refl refl (c.step-opened.ensures.own c.args.tenant.now)
    c.step-opened.ensures.bad_names led.1 refusal))

use Rattle.std.proofs.Common.{refl, sym, subst}
use Rattle.gitpool.specs.declared.step_fault.StepFault.{StepFault}
use Rattle.gitpool.specs.Importing.{GivesUp}
use Rattle.gitpool.proofs.StepLemmas.{calls-one}
use Rattle.gitpool.proofs.ImportLemmas.{gives_up}
use Rattle.gitpool.proofs.importing.give_up.Goals as goal

pub returns-in-Device : goal.returns-in-Device
returns-in-Device g c =
    subst (λ (e : StepFault). GivesUp g.N.Naming.digest_of c.args.tenant.now c.args.service.now c.args.service.now e) (sym c.in-Device.is) refl

pub returns-in_default : goal.returns-in_default
returns-in_default g c =
    gives_up _ _ _ _ c.args.fault c.in_default.not-Device
    (calls-one _ _ c.args.service.now c.step-told.new.self _ _ _ refl refl c.step-told.ensures.own)

use Rattle.std.proofs.Common.{List, sym, subst}
use Rattle.std.specs.Prelude.{Ok}
use Rattle.git_model.specs.HeldObjects.{AreHeld}
use Rattle.git_model.specs.Repository.{Object}
use Rattle.revisions.specs.FirstParents.{IsFirstParentChain}
use Rattle.answers.specs.Answers.{told, AreGoodForExport}
use Rattle.answers.specs.Faults.{Prints}
use Rattle.answers.proofs.answering.tell_committed.Goals as goal

pub returns-clause-told : goal.returns-clause-told
returns-clause-told g c = λ held good chain.
    subst (λ (os : List Object). Prints (told (record { objects = os; refs = c.args.refs.now }) c.args.query.now)
    c.args.out.now.items c.tell_or_nothing.new.out.items c.tell_or_nothing.result) c.of-objects.ensures
    (c.tell_or_nothing.ensures.told (subst (AreHeld g.N.Naming.digest_of) (sym c.of-objects.ensures) held)
    (subst (λ (os : List Object). AreGoodForExport g.N.Naming.digest_of os (Ok c.args.query.now)) (sym c.of-objects.ensures) good)
    (subst (λ (os : List Object). IsFirstParentChain os c.args.chain.now) (sym c.of-objects.ensures) chain))

use Rattle.std.proofs.Common.{subst}
use Rattle.git_model.specs.RefName.{IsRefName}
use Rattle.git_model.proofs.RefNames.{is_ref_name-Decides}
use Rattle.tenant_refs.proofs.refs.Refs.head.Goals as goal

pub returns-in-Some-clause-well_formed : goal.returns-in-Some-clause-well_formed
returns-in-Some-clause-well_formed c =
    subst (λ store. IsRefName store.head) c.self.view_is
    ((is_ref_name-Decides _).0 c.self.invariant.1)

pub returns-in-None-clause-well_formed : goal.returns-in-None-clause-well_formed
returns-in-None-clause-well_formed c =
    subst (λ store. IsRefName store.head) c.self.view_is
    ((is_ref_name-Decides _).0 c.self.invariant.1)

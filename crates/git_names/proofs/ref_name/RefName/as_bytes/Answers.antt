use Rattle.git_names.specs.StoredName.{NamesRef}
use Rattle.std.proofs.Common.{subst}
use Rattle.git_names.proofs.StoredNames.{names_ref-yes}
use Rattle.git_names.proofs.ref_name.RefName.as_bytes.Goals as goal

pub returns-clause-well_formed : goal.returns-clause-well_formed
returns-clause-well_formed c = subst NamesRef c.self.view_is (names_ref-yes _ c.self.invariant.0)

use Rattle.tenant_tables.proofs.SumsIn.{fitting-known}
use Rattle.tenant_tables.proofs.laws.fitting_trees_have_sums.Goals as goal

pub returns : goal.returns
returns c = fitting-known

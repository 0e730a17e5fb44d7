use Rattle.tenant_tables.proofs.SumsIn.{table-sums}
use Rattle.tenant_tables.proofs.laws.sums_are_those_of_the_table.Goals as goal

pub returns : goal.returns
returns c = table-sums

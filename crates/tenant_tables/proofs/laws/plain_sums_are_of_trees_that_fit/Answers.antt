use Rattle.tenant_tables.proofs.PlainSums.{plain-has, has-plain}
use Rattle.tenant_tables.proofs.laws.plain_sums_are_of_trees_that_fit.Goals as goal

pub returns : goal.returns
returns c known bytes s = (plain-has known bytes s, has-plain known bytes s)

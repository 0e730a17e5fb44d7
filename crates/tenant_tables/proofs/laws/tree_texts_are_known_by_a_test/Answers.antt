use Rattle.tenant_tables.proofs.TreeTests.{text_test}
use Rattle.tenant_tables.proofs.laws.tree_texts_are_known_by_a_test.Goals as goal

pub returns : goal.returns
returns c bytes = text_test bytes

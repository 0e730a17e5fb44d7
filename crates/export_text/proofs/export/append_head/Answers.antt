use Rattle.std.proofs.Common.{rules}
use Rattle.export_text.specs.Export.{head_items}
use Rattle.export_text.proofs.export.append_head.Goals as goal

pub returns-then-eq-clause-written : goal.returns-then-eq-clause-written
unfolding head_items
returns-then-eq-clause-written c = search rules

pub returns-else-eq-clause-written : goal.returns-else-eq-clause-written
unfolding head_items
returns-else-eq-clause-written c = search rules

use Rattle.std.proofs.Common.{sym, ◌∙◌}
use Rattle.tenant_tables.proofs.HoldLemmas.{held-nil}
use Rattle.tenant_tables.proofs.TableLemmas.{IsBackedBy-nil}
use Rattle.session_tests.proofs.steps.run.Goals as goal

pub run_in-requires-clause-stands : goal.run_in-requires-clause-stands
run_in-requires-clause-stands g c = rw c.new-table.ensures.entries (IsBackedBy-nil _ _)

pub run_in-requires-clause-alone : goal.run_in-requires-clause-alone
run_in-requires-clause-alone g c =
    λ s. rw c.new-table.ensures.entries (c.new-pool.ensures s ∙ sym (held-nil s))

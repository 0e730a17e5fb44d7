use Rattle.std.proofs.Common.{sym, ◌∙◌}
use Rattle.std.proofs.lemmas.List.{length-take-le}
use Rattle.tenant_tables.proofs.table.Table.len_in_sight.Goals as goal

pub returns-in-Committed : goal.returns-in-Committed
returns-in-Committed c =
    let w = c.committed_len.ensures.within in
    rw c.in-Committed.is (c.committed_len.ensures.value ∙ sym (length-take-le _ _ w))

use Rattle.std.proofs.Common.{rules}
use Rattle.stream_commands.proofs.checkpoint.saving_of.Goals as goal

pub returns-clause-saved : goal.returns-clause-saved
returns-clause-saved g c committed good =
    let added = (rw c.of-ancestry.ensures at c.in_ok-add_branches.ensures.saved) committed good in search rules

use Rattle.std.proofs.Common.{arith}
use Rattle.std.proofs.lemmas.Grind.{common_steps}
use Rattle.stream_commands.proofs.checkpoint.add_branch.Goals as goal

pub returns-in-Deleted-clause-saved : goal.returns-in-Deleted-clause-saved
returns-in-Deleted-clause-saved g c = grind (arith, common_steps)

pub returns-then-branch-clause-saved : goal.returns-then-branch-clause-saved
returns-then-branch-clause-saved g c committed good =
    let judged = c.moves.ensures.judged committed good in grind (arith, common_steps)

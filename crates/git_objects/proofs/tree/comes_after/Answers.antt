use Rattle.std.proofs.Common.{ap, ◌∙◌}
use Rattle.std.specs.Ordering.{is_lt}
use Rattle.git_objects.specs.Parts.{entry_of}
use Rattle.git_objects.proofs.TreeGrowth.{last_answer}
use Rattle.git_objects.proofs.tree.comes_after.Goals as goal

pub returns-in-Some : goal.returns-in-Some
returns-in-Some c o =
    last_answer entry_of c.args.entries.now c.in-Some.last.now (entry_of c.args.entry.now)
    c.is_lt.result c.in-Some.ensures.value (c.is_lt.ensures ∙ ap is_lt c.order.ensures) o

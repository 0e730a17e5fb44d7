use Rattle.std.proofs.Common.{codes, [], ◌∷◌}
use Rattle.command_lines.specs.Usage.{argument, subcommand}
use Rattle.command_lines.proofs.usage.merge.Goals as goal

pub returns : goal.returns
returns c =
    c.with_pool.ensures (subcommand (codes "merge") (argument (codes "file") ∷ []))
    (c.with_word-command.ensures (subcommand (codes "merge") []) c.subcommand.ensures)

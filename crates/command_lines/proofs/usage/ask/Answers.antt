use Rattle.std.proofs.Common.{codes, [], ◌∷◌}
use Rattle.command_lines.specs.Usage.{argument, subcommand}
use Rattle.command_lines.proofs.usage.ask.Goals as goal

pub returns : goal.returns
returns c =
    c.with_pool.ensures (subcommand (codes "ask") (argument (codes "tenant") ∷ argument (codes "query") ∷ []))
    (c.with_word-command.ensures (subcommand (codes "ask") (argument (codes "tenant") ∷ [])) (c.with_tenant-command.ensures (subcommand (codes "ask") []) c.subcommand.ensures))

use Rattle.std.proofs.Common.{codes, [], ◌∷◌}
use Rattle.command_lines.specs.Usage.{argument, subcommand}
use Rattle.command_lines.proofs.usage.for_tenant.Goals as goal

pub returns : goal.returns
returns c =
    c.with_pool.ensures (subcommand c.args.name.now (argument (codes "tenant") ∷ []))
    (c.with_tenant-command.ensures (subcommand c.args.name.now []) c.subcommand.ensures)

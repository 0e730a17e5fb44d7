use Rattle.std.proofs.Common.{[]}
use Rattle.command_lines.specs.Usage.{subcommand}
use Rattle.command_lines.proofs.usage.for_pool.Goals as goal

pub returns : goal.returns
returns c = c.with_pool.ensures (subcommand c.args.name.now []) c.subcommand.ensures

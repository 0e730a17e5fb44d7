use Rattle.std.proofs.Common.{codes, []}
use Rattle.clap.specs.Words.{Shape}
use Rattle.command_lines.specs.Usage.{argument, subcommand, taking}
use Rattle.command_lines.proofs.usage.copy.Goals as goal

abbrev bare : Shape
bare = subcommand (codes "copy") []

abbrev one : Shape
one = taking bare (argument (codes "from"))

abbrev two : Shape
two = taking one (argument (codes "to"))

pub returns : goal.returns
returns c = c.with_pool.ensures two (c.with_word-command-2.ensures one (c.with_word-command.ensures bare c.subcommand.ensures))

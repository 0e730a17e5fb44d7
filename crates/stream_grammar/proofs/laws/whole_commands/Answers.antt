use Rattle.stream_grammar.proofs.Filled.{Fills-left_by_parts}
use Rattle.stream_grammar.proofs.Taken.{AreTaken-command}
use Rattle.stream_grammar.proofs.laws.whole_commands.Goals as goal

pub returns-clause-filled : goal.returns-clause-filled
returns-clause-filled c terms parts taken =
    Fills-left_by_parts parts taken.left taken.end terms taken.after_parts

pub returns-clause-taken : goal.returns-clause-taken
returns-clause-taken c = AreTaken-command

use Rattle.std.proofs.Common.{rules}
use Rattle.stream_grammar.proofs.mark.Mark.number.Goals as goal

pub returns : goal.returns
returns c = search rules

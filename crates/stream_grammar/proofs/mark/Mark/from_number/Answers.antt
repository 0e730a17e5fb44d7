use Rattle.std.proofs.Common.{rules}
use Rattle.stream_grammar.proofs.mark.Mark.from_number.Goals as goal

pub returns-then-number-eq0 : goal.returns-then-number-eq0
returns-then-number-eq0 c = search rules

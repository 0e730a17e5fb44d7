use Rattle.std.proofs.Common.{rules}
use Rattle.stream_grammar.proofs.parser.Parser.end.Goals as goal

pub returns-then-may_end_at : goal.returns-then-may_end_at
returns-then-may_end_at c = search rules

use Rattle.std.proofs.Common.{rules}
use Rattle.stream_grammar.proofs.parser.Parser.new.Goals as goal

pub returns : goal.returns
returns c = search rules

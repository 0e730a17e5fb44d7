use Rattle.std.proofs.Common.{rules}
use Rattle.stream_lex.proofs.lexer.Lexer.fed.Goals as goal

pub returns : goal.returns
returns c = search rules

use Rattle.std.proofs.Common.{rules}
use Rattle.stream_lex.proofs.lexer.Lexer.searched.Goals as goal

pub returns : goal.returns
returns c = search rules

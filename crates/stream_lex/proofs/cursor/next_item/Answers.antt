use Rattle.std.proofs.Common.{rules}
use Rattle.stream_lex.proofs.cursor.next_item.Goals as goal

pub returns-in-Fails : goal.returns-in-Fails
returns-in-Fails c = search rules

-- What a lexer holds once an item that borrows from it is gone.
use Rattle.std.specs.Prelude.{Option, Result}
use Rattle.std.specs.Borrow.{Fml, MutBor}
use Rattle.std.specs.Io.BufRead.{Rests}
use Rattle.stream_lex.specs.declared.fault.Fault.{Fault}
use Rattle.stream_lex.specs.declared.item.Item.{Item as Lent}
use Rattle.stream_lex.specs.contracts.lexer.Lexer.{the_row}
use Rattle.stream_lex.specs.Lexer.{LexerState, TakesNext}

-- Once the borrow of the item is over, the lexer is as `TakesNext` says for this answer.
abbrev pub RestsTaken : MutBor LexerState → Result (Option Lent) Fault → Fml
RestsTaken lexer result = Rests the_row lexer (TakesNext lexer.now result)

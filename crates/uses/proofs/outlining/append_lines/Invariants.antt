use Rattle.std.proofs.Common.{[], length}
use Rattle.stream_lex.specs.Running.{more_of}
use Rattle.uses.specs.Outlines.{Outlines}
use Rattle.uses.proofs.outlining.append_lines.Given as goal

-- what was taken so far
abbrev pub invariant-items : goal.invariant-items
invariant-items l = Outlines l.fn.lexer.tail l.fn.text.items l.lexer.tail l.text.items

-- how many items are to come
abbrev pub decreases-items : goal.decreases-items
decreases-items l = length (more_of l.lexer.tail []).items

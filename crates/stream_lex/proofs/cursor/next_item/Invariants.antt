use Rattle.std.proofs.Common.{◌-◌, length}
use Rattle.stream_lex.specs.Cursor.{IsAt, SearchesOnce, tail_of}
use Rattle.stream_lex.specs.Running.{ReadsAlike}
use Rattle.stream_lex.proofs.cursor.next_item.Given as goal

abbrev pub invariant-items : goal.invariant-items
invariant-items l =
    IsAt l.bytes l.cursor × ReadsAlike (tail_of l.bytes l.initial.cursor) (tail_of l.bytes l.cursor) × SearchesOnce l.bytes l.initial.cursor l.cursor

abbrev pub decreases-items : goal.decreases-items
decreases-items l = length l.bytes - l.cursor.taken

use Rattle.std.proofs.Common.{◌-◌, length}
use Rattle.stream_lex.specs.Looking.{IsInDelimited}
use Rattle.stream_lex.specs.Search.{SearchesOn}
use Rattle.stream_lex.proofs.look.delimited.Given as goal

abbrev pub invariant-lines : goal.invariant-lines
invariant-lines l = IsInDelimited l.bytes l.search.seen l.header l.line × SearchesOn l.bytes l.initial.search l.search

abbrev pub decreases-lines : goal.decreases-lines
decreases-lines l = length l.bytes - l.search.seen

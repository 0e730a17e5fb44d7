use Rattle.stream_grammar.proofs.Printed.{mark_of-decimal, dataref_of-decimal}
use Rattle.stream_grammar.proofs.laws.written_marks.Goals as goal

pub returns-clause-mark : goal.returns-clause-mark
returns-clause-mark c = mark_of-decimal

pub returns-clause-dataref : goal.returns-clause-dataref
returns-clause-dataref c = dataref_of-decimal

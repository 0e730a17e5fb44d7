-- The numbers of the faults, for replies and exit statuses.
use Rattle.std.specs.Prelude.{ℕ}
use Rattle.stream_lex.specs.declared.fault.Fault.{Fault}
use Rattle.stream_lex.specs.declared.fault.Fault.TheVariants.{LineTooLong, BadData, CutOff, Limit, Memory}

-- The number of a fault.
abbrev pub code_of : Fault → ℕ
code_of LineTooLong = 1
code_of BadData = 4
code_of CutOff = 6
code_of Limit = 25
code_of Memory = 90

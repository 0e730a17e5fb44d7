-- Why a stream stops: running out of memory is told apart from every fault of the stream.
use Rattle.std.specs.Prelude.{ℕ}
use Rattle.stream_parts.specs.declared.fault.Fault.{Fault}
use Rattle.stream_parts.specs.declared.fault.Fault.TheVariants as fault
use Rattle.stream_parts.specs.Faults.{code_of}
use Rattle.stream_lex.specs.declared.fault.Fault.{Fault as LexFault}
use Rattle.stream_lex.specs.declared.fault.Fault.TheVariants as lex_fault
use Rattle.stream_lex.specs.Faults.{code_of as item_code}
use Rattle.tenant_stream.specs.declared.stream_error.StreamError.{StreamError}
use Rattle.tenant_stream.specs.declared.stream_error.StreamError.TheVariants as stop

-- Why a stream stops whose next item is refused, after so many items of the call.
abbrev pub stop_of : Fault → ℕ → StreamError
stop_of fault.Memory count = stop.Memory count
stop_of refusal count = stop.Fault (code_of refusal)

-- Why a stream stops whose lexer takes no further piece: the lexer had failed, or memory ran out.
abbrev pub unfed : LexFault → StreamError
unfed lex_fault.Memory = stop.Memory 0
unfed failure = stop.Fault (item_code failure)

-- The number under which it is reported.
abbrev pub stopping_code : StreamError → ℕ
stopping_code (stop.Fault code) = code
stopping_code (stop.Memory _) = 90

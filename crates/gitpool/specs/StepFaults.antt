-- Why a query or an import did not end well: the numbers of the faults.
use Rattle.std.specs.Prelude.{ℕ, Result, Ok, Err}
use Rattle.service_steps.specs.declared.answer.Answer.{Answer}
use Rattle.service_steps.specs.declared.answer.Answer.TheVariants as answer
use Rattle.gitpool.specs.declared.step_fault.StepFault.{StepFault}
use Rattle.gitpool.specs.declared.step_fault.StepFault.TheVariants as fault

-- The number of a fault.
abbrev pub code_of : StepFault → ℕ
code_of (fault.Refused code) = code
code_of fault.Device = 68
code_of fault.Memory = 90

-- The answer of a step as a result of the call that took it.
abbrev pub as_result : Answer → Result Unit StepFault
as_result answer.Ok = Ok tt
as_result (answer.Fault code) = Err (fault.Refused code)
as_result (answer.Memory items) = Err fault.Memory

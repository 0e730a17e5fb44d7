-- The numbers that C is answered.
use Rattle.std.specs.Prelude.{ℕ, Result, Ok, Err}
use Rattle.service_steps.specs.declared.answer.Answer.{Answer}
use Rattle.service_steps.specs.declared.answer.Answer.TheVariants as answer
use Rattle.pool_file_format.specs.declared.fault.Fault.{Fault}
use Rattle.pool_file_format.specs.Faults.{code_of}

-- 0 if all is well, and 90 if memory ran out.
abbrev pub number_of : Answer → ℕ
number_of answer.Ok = 0
number_of (answer.Fault code) = code
number_of (answer.Memory items) = 90

-- How many items took effect before memory ran out.
abbrev pub items_of : Answer → ℕ
items_of answer.Ok = 0
items_of (answer.Fault code) = 0
items_of (answer.Memory items) = items

-- 0 if a pool file was loaded, else the number of the fault.
abbrev pub load_number : {T : Type 0} → Result T Fault → ℕ
load_number (Ok held) = 0
load_number (Err fault) = code_of fault

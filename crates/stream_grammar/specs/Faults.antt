-- The numbers of the faults, for replies and exit statuses; and how a fault is answered.
use Rattle.std.specs.Prelude.{ℕ, Result}
use Rattle.git_model.specs.Results.{GivesOr}
use Rattle.stream_grammar.specs.declared.fault.Fault.{Fault}
use Rattle.stream_grammar.specs.declared.fault.Fault.TheVariants as fault

-- The number of a bad value of a line; 0 for any other fault.
abbrev pub bad_value : Fault → ℕ
bad_value fault.BadPath = 10
bad_value fault.BadRefName = 11
bad_value fault.BadMark = 12
bad_value fault.BadIdentity = 21
bad_value fault.BadDate = 22
bad_value fault.BadMode = 23
bad_value _ = 0

-- The number of a fault.
abbrev pub code_of : Fault → ℕ
code_of fault.UnknownCommand = 2
code_of fault.Malformed = 3
code_of fault.MissingPart = 5
code_of fault.FeatureNotSupported = 8
code_of fault.FeatureTooLate = 9
code_of fault.Limit = 25
code_of fault.Memory = 90
code_of value = bad_value value

-- The answer of a call, as contracts see it, is what reading gives. `Memory` may replace it.
abbrev pub Gives : {X Y : Type 0} → (X → Y) → Result X Fault → Result Y Fault → Type 0
Gives view result reading = GivesOr fault.Memory view result reading

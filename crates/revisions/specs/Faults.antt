-- Faults: the number of each refusal, and how one is passed on.
use Rattle.std.specs.Prelude.{ℕ, Result}
use Rattle.git_model.specs.Results.{GivesOr}
use Rattle.revisions.specs.declared.fault.Fault.{Fault}
use Rattle.revisions.specs.declared.fault.Fault.TheVariants as fault

-- The number of a fault.
abbrev pub code_of : Fault → ℕ
code_of fault.Malformed = 3
code_of fault.WrongKind = 15
code_of fault.UnknownRevision = 16
code_of fault.Ambiguous = 17
code_of fault.Memory = 90

-- What a call answers, seen by view, is what is defined; out of memory may stand in its place.
abbrev pub GivesBy : {X Y : Type 0} → (X → Y) → Result X Fault → Result Y Fault → Type 0
GivesBy view result defined = GivesOr fault.Memory view result defined

abbrev pub Gives : {A : Type 0} → Result A Fault → Result A Fault → Type 0
Gives result defined = GivesBy (λ value. value) result defined

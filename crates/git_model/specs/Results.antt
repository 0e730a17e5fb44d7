-- Steps that may be refused, and what a call answers that may run out of memory.
use Rattle.std.specs.Prelude.{◌≡◌, ◌≢◌, Option, None, Some, Result, Ok, Err}

-- The next step, unless the first one is refused.
abbrev pub and_then : {A B E : Type 0} → Result A E → (A → Result B E) → Result B E
and_then (Ok value) next = next value
and_then (Err e) next = Err e

-- The value that must be there, or else this fault.
abbrev pub or_fault : {A E : Type 0} → E → Option A → Result A E
or_fault e None = Err e
or_fault e (Some value) = Ok value

-- The value, or the refusal as another fault.
abbrev pub refused_as : {A E F : Type 0} → (E → F) → Result A E → Result A F
refused_as passed_on (Ok value) = Ok value
refused_as passed_on (Err e) = Err (passed_on e)

-- What a call answers, as contracts see it, is what is defined. Out of memory, the first fault
-- here, may stand in its place.
abbrev pub GivesOr : {X Y E : Type 0} → E → (X → Y) → Result X E → Result Y E → Type 0
GivesOr memory view (Ok value) defined = defined ≡ Ok (view value)
GivesOr memory view (Err e) defined = e ≢ memory → defined ≡ Err e

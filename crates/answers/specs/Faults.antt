-- Faults: the number of each refusal, and how one is passed on.
use Rattle.std.specs.Prelude.{◌≡◌, ◌≢◌, ℕ, List, ◌++◌, Result, Ok, Err}
use Rattle.git_model.specs.Results.{GivesOr, refused_as}
use Rattle.revisions.specs.declared.fault.Fault.{Fault as RevisionFault}
use Rattle.revisions.specs.declared.fault.Fault.TheVariants as revision_fault
use Rattle.export_text.specs.declared.fault.Fault.{Fault as ExportFault}
use Rattle.export_text.specs.declared.fault.Fault.TheVariants as export_fault
use Rattle.answers.specs.declared.fault.Fault.{Fault}
use Rattle.answers.specs.declared.fault.Fault.TheVariants as fault

-- The number of a fault.
abbrev pub code_of : Fault → ℕ
code_of fault.WrongKind = 15
code_of fault.UnknownRevision = 16
code_of fault.Ambiguous = 17
code_of fault.Limit = 25
code_of fault.UnknownQuery = 40
code_of fault.MalformedQuery = 41
code_of fault.Memory = 90

-- The refusal of an expression, as that of a query. A malformed expression makes a malformed query.
abbrev pub resolving_fault : RevisionFault → Fault
resolving_fault revision_fault.Malformed = fault.MalformedQuery
resolving_fault revision_fault.WrongKind = fault.WrongKind
resolving_fault revision_fault.UnknownRevision = fault.UnknownRevision
resolving_fault revision_fault.Ambiguous = fault.Ambiguous
resolving_fault revision_fault.Memory = fault.Memory

-- The refusal of an export, as that of a query.
abbrev pub exporting_fault : ExportFault → Fault
exporting_fault export_fault.Limit = fault.Limit
exporting_fault export_fault.Memory = fault.Memory

abbrev pub resolved_or : {A : Type 0} → Result A RevisionFault → Result A Fault
resolved_or found = refused_as resolving_fault found

-- What a call answers is what is defined; out of memory may stand in its place.
abbrev pub Gives : {A : Type 0} → Result A Fault → Result A Fault → Type 0
Gives result defined = GivesOr fault.Memory (λ value. value) result defined

-- The defined text was appended, or the defined refusal was answered. Out of memory may be answered
-- instead of either.
abbrev pub Prints : Result (List ℕ) Fault → List ℕ → List ℕ → Result Unit Fault → Type 0
Prints (Ok text) old new (Ok u) = new ≡ old ++ text
Prints (Ok text) old new (Err e) = e ≡ fault.Memory
Prints (Err refusal) old new (Ok u) = ⊥
Prints (Err refusal) old new (Err e) = e ≢ fault.Memory → e ≡ refusal

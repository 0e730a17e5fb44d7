-- Faults: the number of each, for replies and exit statuses; how the faults of the layers below are
-- passed on; and what a refusal stops.
use Rattle.std.specs.Prelude.{ℕ, Result}
use Rattle.git_model.specs.Results.{GivesOr, refused_as}
use Rattle.stream_grammar.specs.declared.fault.Fault.{Fault as TextFault}
use Rattle.stream_grammar.specs.Faults.{code_of as text_code}
use Rattle.revisions.specs.declared.fault.Fault.{Fault as RevisionFault}
use Rattle.revisions.specs.declared.fault.Fault.TheVariants as revision_fault
use Rattle.stream_parts.specs.declared.fault.Fault.{Fault}
use Rattle.stream_parts.specs.declared.fault.Fault.TheVariants as fault

-- The number of a fault of an object that an item names; 0 for any other fault.
abbrev pub naming_code : Fault → ℕ
naming_code fault.MarkUnknown = 13
naming_code fault.ObjectUnknown = 14
naming_code fault.WrongKind = 15
naming_code fault.UnknownRevision = 16
naming_code fault.Ambiguous = 17
naming_code _ = 0

-- The number of a fault.
abbrev pub code_of : Fault → ℕ
code_of (fault.Text text) = text_code text
code_of fault.Malformed = 3
code_of fault.DoneMissing = 7
code_of fault.SourceMissing = 18
code_of fault.BranchFromItself = 19
code_of fault.RootNotDirectory = 20
code_of fault.NameCollision = 24
code_of fault.Limit = 25
code_of fault.Memory = 90
code_of naming = naming_code naming

-- What the text of an item gives, or its fault as one of the stream.
abbrev pub text_first : {A : Type 0} → Result A TextFault → Result A Fault
text_first result = refused_as fault.Text result

-- The fault of an expression, as one of the stream.
abbrev pub resolving_fault : RevisionFault → Fault
resolving_fault revision_fault.Malformed = fault.Malformed
resolving_fault revision_fault.WrongKind = fault.WrongKind
resolving_fault revision_fault.UnknownRevision = fault.UnknownRevision
resolving_fault revision_fault.Ambiguous = fault.Ambiguous
resolving_fault revision_fault.Memory = fault.Memory

-- What a query for an object answers, and its fault as one of the stream.
abbrev pub resolved_or : {A : Type 0} → Result A RevisionFault → Result A Fault
resolved_or found = refused_as resolving_fault found

-- A call answers what is defined, or `Memory` in its place.
abbrev pub Gives : {A : Type 0} → Result A Fault → Result A Fault → Type 0
Gives result defined = GivesOr fault.Memory (λ value. value) result defined

-- The faults of the open commit, as faults of the stream.
use Rattle.std.specs.Prelude.{Result}
use Rattle.git_model.specs.Results.{refused_as}
use Rattle.open_commits.specs.declared.fault.Fault.{Fault as CommitFault}
use Rattle.open_commits.specs.declared.fault.Fault.TheVariants as commit_fault
use Rattle.stream_parts.specs.declared.fault.Fault.{Fault}
use Rattle.stream_parts.specs.declared.fault.Fault.TheVariants as fault

-- The fault of a change of the open commit, or of its end, as one of the stream.
abbrev pub changing_fault : CommitFault → Fault
changing_fault commit_fault.MarkUnknown = fault.MarkUnknown
changing_fault commit_fault.ObjectUnknown = fault.ObjectUnknown
changing_fault commit_fault.WrongKind = fault.WrongKind
changing_fault commit_fault.SourceMissing = fault.SourceMissing
changing_fault commit_fault.RootNotDirectory = fault.RootNotDirectory
changing_fault commit_fault.NameCollision = fault.NameCollision
changing_fault commit_fault.Limit = fault.Limit
changing_fault commit_fault.Memory = fault.Memory

-- What a change answers, and its fault as one of the stream.
abbrev pub changed_or : {A : Type 0} → Result A CommitFault → Result A Fault
changed_or changed = refused_as changing_fault changed

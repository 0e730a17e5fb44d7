-- Faults: the number of each, and how the faults of the layers below are passed on.
use Rattle.std.specs.Prelude.{ℕ}
use Rattle.tenant_tables.specs.declared.fault.Fault.{Fault as TableFault}
use Rattle.tenant_tables.specs.declared.fault.Fault.TheVariants as table_fault
use Rattle.file_maps.specs.declared.fault.Fault.{Fault as FilesFault}
use Rattle.file_maps.specs.declared.fault.Fault.TheVariants as files_fault
use Rattle.open_commits.specs.declared.fault.Fault.{Fault}
use Rattle.open_commits.specs.declared.fault.Fault.TheVariants as fault

-- The number of a fault.
abbrev pub code_of : Fault → ℕ
code_of fault.MarkUnknown = 13
code_of fault.ObjectUnknown = 14
code_of fault.WrongKind = 15
code_of fault.SourceMissing = 18
code_of fault.RootNotDirectory = 20
code_of fault.NameCollision = 24
code_of fault.Limit = 25
code_of fault.Memory = 90

-- The fault of a table that refuses an object, as one of an open commit.
abbrev pub storing_fault : TableFault → Fault
storing_fault table_fault.Limit = fault.Limit
storing_fault table_fault.NameCollision = fault.NameCollision
storing_fault table_fault.Memory = fault.Memory

-- The fault of an edit of files, or of storing their trees, as one of an open commit.
abbrev pub editing_fault : FilesFault → Fault
editing_fault files_fault.ObjectUnknown = fault.ObjectUnknown
editing_fault files_fault.WrongKind = fault.WrongKind
editing_fault files_fault.SourceMissing = fault.SourceMissing
editing_fault files_fault.RootNotDirectory = fault.RootNotDirectory
editing_fault files_fault.NameCollision = fault.NameCollision
editing_fault files_fault.Limit = fault.Limit
editing_fault files_fault.Memory = fault.Memory

-- Storing objects: git-hash-object(1), "-w".
use Rattle.std.specs.Prelude.{ℕ, List, Option, None, Some, Result, Ok, Err}
use Rattle.git_model.specs.Content.{Content, name_by}
use Rattle.git_model.specs.Repository.{Object, with_object}
use Rattle.tenant_tables.specs.declared.fault.Fault.{Fault as TableFault}
use Rattle.tenant_tables.specs.declared.fault.Fault.TheVariants as table_fault
use Rattle.tenant_tables.specs.Adding.{store_fault}
use Rattle.stream_parts.specs.declared.fault.Fault.{Fault}
use Rattle.stream_parts.specs.declared.fault.Fault.TheVariants as fault

-- The fault of a table that refuses a content, as one of the stream.
abbrev pub storing_fault : TableFault → Fault
storing_fault table_fault.Limit = fault.Limit
storing_fault table_fault.NameCollision = fault.NameCollision
storing_fault table_fault.Memory = fault.Memory

-- The objects after one is stored. An object that is there already is not stored again.
abbrev pub stored_or : List ℕ → Content → List Object → Option TableFault
    → Result (List Object) Fault
stored_or id content objects None = Ok (with_object id content objects)
stored_or id content objects (Some refusal) = Err (storing_fault refusal)

-- The objects with a content that is stored.
abbrev pub with_content : (List ℕ → List ℕ) → Content → List Object → Result (List Object) Fault
with_content digest content objects =
    stored_or (name_by digest content) content objects
    (store_fault (name_by digest content) content objects)

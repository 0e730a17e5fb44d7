-- What is told of missing objects: git-rev-list(1), --objects, with kinds and sizes.
use Rattle.std.specs.Prelude.{◌≡◌, ℕ, List, length, map, Result, Ok, Err, if◌then◌else◌}
use Rattle.std.specs.Global.{Vec}
use Rattle.git_model.specs.Repository.{Object}
use Rattle.missing_objects.specs.Missing.{has_all, missing}
use Rattle.pack_objects.specs.declared.fault.PackFault.{PackFault}
use Rattle.pack_objects.specs.declared.fault.PackFault.TheVariants as fault
use Rattle.pack_objects.specs.declared.missing_object.MissingObject.{MissingObject}

-- An object, as it is told: its name, its kind and its size.
abbrev pub told_of : Object → MissingObject
told_of o = record { id = o.id; kind = o.content.kind; size = length o.content.bytes }

-- What is told where memory suffices: every wanted name must be that of an object, and then it is
-- the missing objects, in the order of the repository.
abbrev pub missing_asked : List Object → List (List ℕ) → List (List ℕ)
    → Result (List MissingObject) PackFault
missing_asked os wants haves = if has_all os wants then Ok (map told_of (missing os wants haves))
    else Err fault.UnknownObject

-- A refusal is answered as it is. What is not refused is told, or memory runs out.
abbrev pub TellsMissing : Result (List MissingObject) PackFault
    → Result (Vec MissingObject) PackFault → Type 0
TellsMissing (Err refusal) result = result ≡ Err refusal
TellsMissing (Ok told) (Ok objects) = objects.items ≡ told
TellsMissing (Ok told) (Err refusal) = refusal ≡ fault.Memory

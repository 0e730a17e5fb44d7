-- The import of what a repository exports, from a reader to a writer: git-fast-export(1) and
-- git-fast-import(1).
use Rattle.std.specs.Prelude.{ℕ, List, Option, Some, Result, Ok, Err, ◌≡◌}
use Rattle.std.specs.Io.KnownBytes.{Keeps}
use Rattle.git_model.specs.Repository.{Repository}
use Rattle.git_objects.specs.Device.{Device}
use Rattle.export_text.specs.Export.{export_text}
use Rattle.export_laws.specs.Copies.{IsCopyOf}
use Rattle.gitpool.specs.Import.{end_of}
use Rattle.gitpool.specs.declared.step_fault.StepFault.{StepFault}
use Rattle.gitpool.specs.declared.step_fault.StepFault.TheVariants as fault

-- A reader has the text of a repository's export, and nothing after it.
abbrev pub HasExport : Option (List ℕ) → Repository → Type 0
HasExport known repository = known ≡ Some (export_text repository)

-- The stream was not refused: only a device that fails, or running out of memory, can stop it.
abbrev pub IsNotRefused : Result Unit StepFault → Type 0
IsNotRefused (Ok u) = Unit {0}
IsNotRefused (Err (fault.Refused code)) = ⊥
IsNotRefused (Err fault.Device) = Unit {0}
IsNotRefused (Err fault.Memory) = Unit {0}

-- The export of a repository was imported. Whatever the answer is, the stream was not refused and
-- nothing was written. At its end the stream leaves a copy.
pub record TakesExport (digest : List ℕ → List ℕ) (repository : Repository)
    (writer writer' : Device) (answer : Result Unit StepFault) : Type 0 where
  pub accepted : IsNotRefused answer
  pub silent : Keeps writer.known writer'.known
  pub copy : IsCopyOf repository (end_of digest (export_text repository)).repository

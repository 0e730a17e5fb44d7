-- Whether a call of a reader or a writer failed, of which of the two, and what was written then.
use Rattle.std.specs.Prelude.{ℕ, List, ◌⊎◌}
use Rattle.std.specs.Io.KnownBytes.{Appends}
use Rattle.git_objects.specs.Device.{Device, HasFault, IsWell, AppendsFront}

-- No call of either failed.
abbrev pub AreWell : Device → Device → Device → Device → Type 0
AreWell reader reader' writer writer' = IsWell reader reader' × IsWell writer writer'

-- One read failed, and no other call did.
abbrev pub HasReadFailed : Device → Device → Device → Device → Type 0
HasReadFailed reader reader' writer writer' =
    HasFault reader.faults reader'.faults × IsWell writer writer'

-- One write failed, and no other call did.
abbrev pub HasWriteFailed : Device → Device → Device → Device → Type 0
HasWriteFailed reader reader' writer writer' =
    IsWell reader reader' × HasFault writer.faults writer'.faults

-- A prefix of these bytes was written, and all of them if no write failed.
pub record AppendsAsFar (writer writer' : Device) (bytes : List ℕ) : Type 0 where
  pub front : AppendsFront writer.known writer'.known bytes
  pub whole : HasFault writer.faults writer'.faults ⊎ Appends writer.known writer'.known bytes

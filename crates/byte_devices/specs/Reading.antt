-- What several calls of `read` in a row did to a reader.
use Rattle.std.specs.Prelude.{◌≡◌, ℕ, ◌<◌, List, length, get_or, Result, Ok, Err}
use Rattle.std.specs.Io.KnownBytes.{IsAtEnd}
use Rattle.byte_devices.specs.Device.{Device, HasRead, HasFault, IsWell}
use Rattle.byte_devices.specs.declared.fill_fault.FillFault.{FillFault}
use Rattle.byte_devices.specs.declared.fill_fault.FillFault.TheVariants as fault

-- Bytes were read, and no call failed.
pub record HasReadWell (old new : Device) (bytes : List ℕ) : Type 0 where
  pub read : HasRead old new bytes
  pub well : IsWell old new

-- So many bytes were lent: they were read without a call.
pub record HasLent (old : Device) (count : ℕ) (new : Device) (bytes : List ℕ) : Type 0 where
  pub size : length bytes ≡ count
  pub read : HasReadWell old new bytes
  pub calls : new.calls ≡ old.calls

-- Bytes were read, and then the reader was at its end.
pub record HasReadAll (old new : Device) (bytes : List ℕ) : Type 0 where
  pub read : HasReadWell old new bytes
  pub end : IsAtEnd new.known

-- Bytes were read, and then one call failed, the only one.
pub record HasFailed (old new : Device) (bytes : List ℕ) : Type 0 where
  pub read : HasRead old new bytes
  pub fault : HasFault old.faults new.faults

-- Each number is a byte.
abbrev pub AreBytes : List ℕ → Type 0
AreBytes bytes = (i : ℕ) → get_or bytes i 0 < 256

-- Bytes that do not fill a buffer of this size.
pub record IsShort (room : ℕ) (bytes : List ℕ) : Type 0 where
  pub lacks : length bytes < room
  pub small : AreBytes bytes

-- A buffer was filled; or fewer bytes were read, and then the input was at its end or a call
-- failed.
abbrev pub Fills : Device → Result Unit FillFault → Device → List ℕ → Type 0
Fills old (Ok u) new room = HasReadWell old new room
Fills old (Err fault.Ended) new room = (bytes : List ℕ) × IsShort (length room) bytes
    × HasReadAll old new bytes
Fills old (Err fault.Failed) new room = (bytes : List ℕ) × IsShort (length room) bytes
    × HasFailed old new bytes

-- The number of each fault: 51 if the input ended, 68 if the device failed.
abbrev pub fill_code : FillFault → ℕ
fill_code fault.Ended = 51
fill_code fault.Failed = 68

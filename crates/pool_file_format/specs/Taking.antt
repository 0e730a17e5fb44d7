-- What a call that reads a part of a file does to the reader, for each answer.
use Rattle.std.specs.Prelude.{◌≡◌, ℕ, ◌+◌, ◌^◌, ◌<◌, ◌≤◌, List, ◌++◌, length, Option, None, Some, Result, Ok, Err, ◌⊎◌}
use Rattle.byte_devices.specs.Device.{Device, HasRead, HasFault, IsWell}
use Rattle.byte_devices.specs.Reading.{AreBytes}
use Rattle.pool_file_format.specs.declared.refusal.Refusal.{Refusal}
use Rattle.pool_file_format.specs.declared.fault.Fault.{Fault}
use Rattle.pool_file_format.specs.declared.fault.Fault.TheVariants as fault
use Rattle.pool_file_format.specs.Lengths.{Read, bytes_at}

-- What a call answers, as a value of the definitions.
abbrev pub shown : {X Y : Type 0} → (X → Y) → Result X Fault → Result Y Fault
shown view (Ok x) = Ok (view x)
shown view (Err e) = Err e

-- A refusal is the one that the reading answers. `Device` and `Memory` may replace any answer.
abbrev pub Fails : {Y : Type 0} → Fault → Result Y Refusal → Type 0
Fails (fault.Refused refusal) read = read ≡ Err refusal
Fails fault.Device read = Unit {0}
Fails fault.Memory read = Unit {0}

-- If the reader's bytes are known, a value is the one that the reading answers for them, and the
-- reader has exactly the bytes after it left. If they are not known, this says nothing.
abbrev pub Gave : {A : Type 0} → Read A → Option (List ℕ) → Result A Fault → Option (List ℕ)
    → Type 0
Gave at None r new = Unit {0}
Gave at (Some bytes) (Ok x) None = ⊥
Gave at (Some bytes) (Ok x) (Some rest) = at bytes ≡ Ok (x, rest)
Gave at (Some bytes) (Err e) new = Fails e (at bytes)

-- Some bytes were read, in at most `length bytes + more` calls.
pub record HasAsked (more : ℕ) (old new : Device) : Type 0 where
  pub bytes : List ℕ
  pub read : HasRead old new bytes
  pub giving : new.calls ≤ old.calls + length bytes + more

-- The same, and no call failed.
pub record HasAskedWell (more : ℕ) (old new : Device) : Type 0 where
  pub asked : HasAsked more old new
  pub well : IsWell old new

-- The same, and every number that the reader gave is a byte.
pub record HasGiven (more : ℕ) (old new : Device) : Type 0 where
  pub asked : HasAskedWell more old new
  pub small : AreBytes asked.asked.bytes

-- One call failed, and no other. The reader was called at most once more than it gave bytes.
pub record HasFailedOnce (old new : Device) : Type 0 where
  pub asked : HasAsked 1 old new
  pub fault : HasFault old.faults new.faults

-- The reader did not end within the bound: its count of calls has reached the bound. It gave at
-- least as many bytes as there were calls, and no call failed.
pub record IsEndless (bound : ℕ) (old new : Device) : Type 0 where
  pub asked : HasAskedWell 0 old new
  pub often : bound ≤ new.calls

-- Which calls were made, for each answer.
-- After a value: no call failed, and there were at most as many calls as bytes, plus `more`.
-- After `Device`: one call failed, or the reader did not end within the bound.
-- After another fault: no call failed, and there were at most as many calls as bytes, plus one.
abbrev pub BlamesBy : {A : Type 0} → ℕ → ℕ → Result A Fault → Device → Device → Type 0
BlamesBy more bound (Ok x) old new = HasGiven more old new
BlamesBy more bound (Err fault.Device) old new = HasFailedOnce old new ⊎ IsEndless bound old new
BlamesBy more bound (Err fault.Memory) old new = HasAskedWell 1 old new
BlamesBy more bound (Err (fault.Refused refusal)) old new = HasAskedWell 1 old new

-- The same for a reading up to the end of the input: one more call, without a byte, finds the end.
abbrev pub Blames : {A : Type 0} → ℕ → Result A Fault → Device → Device → Type 0
Blames bound r old new = BlamesBy 1 bound r old new

-- A call answers as the reading `at` does, calls the reader as `BlamesBy` says, and makes no call
-- of the reader past the bound. The reader counts its bytes in 64 bits: `old.passed < 2 ^ 64`.
pub record ReadsBy {A : Type 0} (more bound : ℕ) (at : Read A) (old : Device) (r : Result A Fault)
    (new : Device) : Type 0 where
  pub gave : Gave at old.known r new.known
  pub blames : old.passed < 2 ^ 64 → BlamesBy more bound r old new
  pub few : old.calls ≤ bound → new.calls ≤ bound

-- The same for a part of a file: up to a value, every call of the reader gave bytes.
abbrev pub ReadsValue : {A : Type 0} → ℕ → Read A → Device → Result A Fault → Device → Type 0
ReadsValue bound at old r new = ReadsBy 0 bound at old r new

-- The same for a whole file: a call reads up to the end of the input as `at` does, and makes no
-- call of the reader past the bound.
pub record ReadsAll {A : Type 0} (bound : ℕ) (at : Read A) (old : Device) (r : Result A Fault)
    (new : Device) : Type 0 where
  pub gave : Gave at old.known r new.known
  pub blames : Blames bound r old new
  pub few : new.calls ≤ bound

-- `n` more bytes were read, and appended to these.
abbrev pub Adds : ℕ → ℕ → List ℕ → Device → Result Unit Fault → List ℕ → Device → Type 0
Adds bound n bytes old (Ok u) after new = (more : List ℕ) × (after ≡ bytes ++ more)
    × (length more ≡ n) × ReadsValue bound (bytes_at n) old (Ok more) new
Adds bound n bytes old (Err e) after new =
    ReadsValue {A = List ℕ} bound (bytes_at n) old (Err e) new

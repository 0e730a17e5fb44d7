-- How much a save has written, for each answer.
use Rattle.std.specs.Prelude.{◌≡◌, ℕ, List, Result, Ok, Err}
use Rattle.byte_devices.specs.Device.{Device, AppendsFront}
use Rattle.pool_file_format.specs.declared.fault.Fault.{Fault}
use Rattle.pool_file_format.specs.declared.fault.Fault.TheVariants as fault
use Rattle.pool_file_format.specs.Sinks.{HasWritten, HasBroken}

-- After `Ok`, the whole text, and no call failed. After `Device`, a prefix of it, and a call
-- failed. After `Memory`, a prefix of it, and no call failed. A save refuses nothing.
abbrev pub Saves : Device → Result Unit Fault → Device → List ℕ → Type 0
Saves old (Ok u) new text = HasWritten old new text
Saves old (Err fault.Device) new text = HasBroken old new text
Saves old (Err fault.Memory) new text =
    AppendsFront old.known new.known text × (new.faults ≡ old.faults)
Saves old (Err (fault.Refused r)) new text = ⊥

-- What an edit answers and leaves.
use Rattle.std.specs.Prelude.{◌≡◌, ◌≢◌, Option, None, Some, Result, Ok, Err}
use Rattle.file_maps.specs.declared.fault.Fault.{Fault}
use Rattle.file_maps.specs.declared.fault.Fault.TheVariants as fault
use Rattle.file_maps.specs.FileMap.{FileMap}

-- An edit that is not refused leaves this map; one that is refused answers why, and changes
-- nothing. `Memory` may be answered instead of either; what the map is then is not specified.
abbrev pub Edits : {A : Type 0} → Result A Fault → FileMap → FileMap → Option Fault → FileMap
    → Type 0
Edits (Ok _) old new refusal after = (refusal ≡ None) × (new ≡ after)
Edits (Err e) old new refusal after = e ≢ fault.Memory → (refusal ≡ Some e) × (new ≡ old)

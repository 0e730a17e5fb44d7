-- A pool file that is replaced as a whole: its bytes, where they are known.
use Rattle.std.specs.Prelude.{◌≡◌, ℕ, List, Option, None, Some, Result, Ok, Err}
use Rattle.std.specs.Io.KnownBytes.{Keeps}
use Rattle.byte_devices.specs.declared.write_fault.WriteFault.{WriteFault}

-- If the bytes of the pool file are known, so are those of something else: just these.
abbrev pub IsAsKnown : Option (List ℕ) → Option (List ℕ) → List ℕ → Type 0
IsAsKnown None other bytes = Unit {0}
IsAsKnown (Some known) other bytes = other ≡ Some bytes

-- The pool file has the bytes that the new file had, if its own were known.
abbrev pub IsPut : Option (List ℕ) → Option (List ℕ) → Option (List ℕ) → Type 0
IsPut None new after = Unit {0}
IsPut (Some known) new after = after ≡ new

-- After Ok the pool file is this text, and after a fault it is as it was; each if its bytes were
-- known.
abbrev pub Replaces : Option (List ℕ) → Result Unit WriteFault → Option (List ℕ) → List ℕ → Type 0
Replaces old (Ok u) new text = IsAsKnown old new text
Replaces old (Err fault) new text = Keeps old new

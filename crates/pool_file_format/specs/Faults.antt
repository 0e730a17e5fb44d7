-- The numbers of the faults of pool files.
use Rattle.std.specs.Prelude.{ℕ}
use Rattle.pool_file_format.specs.declared.refusal.Refusal.{Refusal}
use Rattle.pool_file_format.specs.declared.refusal.Refusal.TheVariants as refusal
use Rattle.pool_file_format.specs.declared.fault.Fault.{Fault}
use Rattle.pool_file_format.specs.declared.fault.Fault.TheVariants as fault

-- What is wrong with the bytes.
abbrev pub number_of : Refusal → ℕ
number_of refusal.NoPoolFile = 60
number_of refusal.UnknownVersion = 61
number_of refusal.CutOff = 62
number_of refusal.WrongDigest = 63
number_of refusal.NotCanonical = 64
number_of refusal.BadObject = 65
number_of refusal.MissingReference = 66
number_of refusal.BadRef = 67
number_of refusal.TrailingBytes = 69

abbrev pub code_of : Fault → ℕ
code_of (fault.Refused refusal) = number_of refusal
code_of fault.Device = 68
code_of fault.Memory = 90

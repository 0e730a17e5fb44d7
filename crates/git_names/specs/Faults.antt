-- The numbers under which faults are reported.
use Rattle.std.specs.Prelude.{ℕ}
use Rattle.git_names.specs.declared.ref_name_fault.RefNameFault.{RefNameFault}
use Rattle.git_names.specs.declared.ref_name_fault.RefNameFault.TheVariants as ref_name

-- The number of each fault of a ref name.
abbrev pub ref_name_code : RefNameFault → ℕ
ref_name_code ref_name.BadRefName = 11
ref_name_code ref_name.Limit = 25
ref_name_code ref_name.Memory = 90

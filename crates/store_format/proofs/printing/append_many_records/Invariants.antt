use Rattle.std.proofs.Common.{◌≡◌, ◌++◌, take}
use Rattle.std.specs.List.{flat_map}
use Rattle.store_format.specs.Records.{record_text}
use Rattle.store_format.specs.Shown.{records_of}
use Rattle.store_format.proofs.printing.append_many_records.Given as goal

-- The texts before the place of the loop were appended.
abbrev pub invariant-loop-tenant : goal.invariant-loop-tenant
invariant-loop-tenant l = l.out.items ≡ l.fn.out.items ++ flat_map record_text (records_of (take l.tenant-index l.records))

use Rattle.std.proofs.Common.{◌≡◌, [], drop}
use Rattle.store_format.specs.Standing.{all_counts}
use Rattle.store_format.specs.Shown.{records_of}
use Rattle.store_format.proofs.standing.count_objects.Given as goal

-- The counts before the place of the loop are taken.
abbrev pub invariant-loop-tenant : goal.invariant-loop-tenant
invariant-loop-tenant l = all_counts l.counts.items (records_of (drop l.tenant-index l.records)) ≡ all_counts [] (records_of l.records)

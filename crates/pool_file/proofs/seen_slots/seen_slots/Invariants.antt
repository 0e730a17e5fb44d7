use Rattle.std.proofs.Common.{take}
use Rattle.pool_file.specs.Slots.{AreSeen, all_slots}
use Rattle.pool_file.proofs.seen_slots.seen_slots.Given as goal

-- The slots are those of the tenants before the place of the loop.
abbrev pub invariant-loop-tenant : goal.invariant-loop-tenant
invariant-loop-tenant l = AreSeen l.seen.items (all_slots (take l.tenant-index l.tenants))

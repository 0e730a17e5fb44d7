use Rattle.pool_file.specs.Slots.{Sees}
use Rattle.pool_file.proofs.TenantSlots.{first_slots}
use Rattle.pool_file.proofs.seen_slots.see_tenant.Given as goal

-- The slots before the place of the loop came.
abbrev pub invariant-loop-place : goal.invariant-loop-place
invariant-loop-place l =
    Sees l.fn.seen.items l.seen.items (first_slots l.tenant.table.now.entries l.place)

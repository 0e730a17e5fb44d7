use Rattle.std.proofs.Common.{◌≡◌, map}
use Rattle.std.specs.Prelude.{slice_index}
use Rattle.pool_file.proofs.TenantSlots.{first_slots}
use Rattle.pool_file.proofs.numbers.numbers_of.Given as goal

-- The numbers are those of the slots before the place of the loop.
abbrev pub invariant-loop-place : goal.invariant-loop-place
invariant-loop-place l = l.numbers.items
    ≡ map (λ s. slice_index l.by_slot s) (first_slots l.tenant.table.now.entries l.place)

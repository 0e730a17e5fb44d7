use Rattle.std.proofs.Common.{◌≡◌, map, take}
use Rattle.tenant_service.specs.Entries.{opened_parts_of, parts_lent}
use Rattle.tenant_service.proofs.saving.lend_all_as_opened.Given as goal

-- the tenants before the place are lent
abbrev pub invariant-loop-place : goal.invariant-loop-place
invariant-loop-place l =
    map parts_lent l.lent.items ≡ map opened_parts_of (take l.place l.tenants.entries)

use Rattle.std.proofs.Common.{◌≡◌, map, take}
use Rattle.tenant_service.specs.Entries.{parts_lent, parts_of}
use Rattle.tenant_service.proofs.saving.lend_all.Given as goal

-- the tenants before the place are lent
abbrev pub invariant-loop-place : goal.invariant-loop-place
invariant-loop-place l = map parts_lent l.lent.items ≡ map parts_of (take l.place l.tenants.entries)

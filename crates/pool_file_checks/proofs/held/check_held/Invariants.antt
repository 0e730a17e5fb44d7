use Rattle.std.proofs.Common.{drop}
use Rattle.pool_file_checks.specs.Held.{numbers_of}
use Rattle.pool_file_format.specs.Shown.{tenants_of}
use Rattle.pool_file_checks.proofs.HeldLemmas.{Marks}
use Rattle.pool_file_checks.proofs.held.check_held.Given as goal

-- The numbers of the tenants that are left are to be marked.
abbrev pub invariant-loop-tenant : goal.invariant-loop-tenant
invariant-loop-tenant l = Marks l.flags l.count (numbers_of (tenants_of (drop l.tenant-index l.tenants)))
    (numbers_of (tenants_of l.tenants))

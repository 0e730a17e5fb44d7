use Rattle.std.proofs.Common.{◌≡◌, ℕ, List, None, drop}
use Rattle.std.specs.Prelude.{All}
use Rattle.std.specs.Option.{option_map}
use Rattle.pool_file_checks.specs.Objects.{CanStore}
use Rattle.pool_file_checks.specs.Own.{names_of}
use Rattle.pool_file_checks.specs.Checks.{Passes}
use Rattle.pool_file_checks.specs.Whole.{own_checks, tenant_checks}
use Rattle.pool_file_format.specs.Shown.{objects_of, tenants_of}
use Rattle.pool_file_checks.proofs.CheckLemmas.{Leads}
use Rattle.pool_file_checks.proofs.whole.check_tenants.Given as goal

-- What is left of the checks decides them, and the objects that need not be judged again passed.
abbrev pub invariant-loop-tenant : goal.invariant-loop-tenant
invariant-loop-tenant l = (digest : List ℕ → List ℕ) → l.names ≡ names_of digest (objects_of l.objects) → All CanStore (objects_of l.objects)
    → Leads (tenant_checks digest l.version (objects_of l.objects) (option_map (λ o. o.now) l.last) (tenants_of (drop l.tenant-index l.tenants)))
    (tenant_checks digest l.version (objects_of l.objects) None (tenants_of l.tenants))
    × Passes (own_checks digest (objects_of l.objects) l.judged)

use Rattle.std.proofs.Common.{◌≡◌, ℕ, List, None, drop}
use Rattle.std.specs.Prelude.{All}
use Rattle.std.specs.Option.{option_map}
use Rattle.pool_file_checks.specs.Held.{numbers_of}
use Rattle.pool_file_checks.specs.Objects.{IsContent}
use Rattle.pool_file_checks.specs.Own.{content_at, names_of}
use Rattle.pool_file_checks.specs.Quick.{KnowsSums}
use Rattle.pool_file_checks.specs.Fronts.{IsFront}
use Rattle.pool_file_checks.specs.Whole.{tenant_checks}
use Rattle.pool_file_format.specs.Shown.{objects_of, tenants_of}
use Rattle.pool_file_checks.proofs.CheckLemmas.{Leads}
use Rattle.pool_file_checks.proofs.quick.pass_tenants.Given as goal

-- What is left of the checks and of the contents decides them, and all fronts passed.
abbrev pub invariant-loop-tenant : goal.invariant-loop-tenant
invariant-loop-tenant l = (digest : List ℕ → List ℕ) → l.names ≡ names_of digest (objects_of l.objects)
    → Leads (tenant_checks digest l.version (objects_of l.objects) (option_map (λ o. o.now) l.last) (tenants_of (drop l.tenant-index l.tenants)))
    (tenant_checks digest l.version (objects_of l.objects) None (tenants_of l.tenants))
    × ((All (λ n. IsContent (content_at (objects_of l.objects) n)) (numbers_of (tenants_of (drop l.tenant-index l.tenants)))
    → All (λ n. IsContent (content_at (objects_of l.objects) n)) (numbers_of (tenants_of l.tenants)))
    × (All (IsFront digest (objects_of l.objects)) l.fronts.items × KnowsSums digest (objects_of l.objects) l.known))

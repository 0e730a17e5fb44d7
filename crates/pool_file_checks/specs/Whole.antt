-- All checks of a file, in their order. The rules are this service's own.
use Rattle.std.specs.Prelude.{ℕ, List, [], ◌∷◌, ◌++◌, length, Option, None, Some}
use Rattle.pool_file_format.specs.declared.refusal.Refusal.TheVariants as refusal
use Rattle.pool_file_format.specs.Format.{RawObject, RawTenant, RawFile}
use Rattle.pool_file_checks.specs.Checks.{Checks}
use Rattle.pool_file_checks.specs.Objects.{object_checks}
use Rattle.pool_file_checks.specs.Own.{names_of, rows_of, own_objects, AreDistinct}
use Rattle.pool_file_checks.specs.Connecting.{AreConnected}
use Rattle.pool_file_checks.specs.Sums.{TreesFit}
use Rattle.pool_file_checks.specs.Tenants.{name_checks, number_checks}
use Rattle.pool_file_checks.specs.FileRefs.{ref_checks}
use Rattle.pool_file_checks.specs.Held.{held_checks}

-- A tenant's objects: no two have one name, then what they refer to, then the sizes of trees.
abbrev pub own_checks : (List ℕ → List ℕ) → List RawObject → List ℕ → Checks
own_checks digest os numbers =
    (AreDistinct (rows_of (names_of digest os) numbers), refusal.NotCanonical)
    ∷ (AreConnected (own_objects digest os numbers), refusal.MissingReference)
    ∷ (TreesFit [] (own_objects digest os numbers), refusal.BadObject)
    ∷ []

-- One tenant; `last` is the name of the one before.
abbrev pub one_tenant_checks : (List ℕ → List ℕ) → ℕ → List RawObject → Option (List ℕ) → RawTenant
    → Checks
one_tenant_checks digest version os last t = name_checks version last t
    ++ (number_checks (length os) t
    ++ (own_checks digest os t.numbers ++ ref_checks os t))

-- All tenants in turn.
abbrev pub tenant_checks : (List ℕ → List ℕ) → ℕ → List RawObject → Option (List ℕ)
    → List RawTenant → Checks
tenant_checks digest version os last [] = []
tenant_checks digest version os last (t ∷ ts) = one_tenant_checks digest version os last t
    ++ tenant_checks digest version os (Some t.name) ts

-- All objects in turn, then all tenants in turn, then that each object belongs to a tenant.
abbrev pub file_checks : (List ℕ → List ℕ) → RawFile → Checks
file_checks digest f = object_checks None f.objects
    ++ (tenant_checks digest f.version f.objects None f.tenants
    ++ held_checks (length f.objects) f.tenants)

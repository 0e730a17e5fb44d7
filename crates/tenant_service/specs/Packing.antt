-- Questions for a pack of one tenant: what they answer is a function of what it has at its last
-- checkpoint.
use Rattle.std.specs.Prelude.{ℕ, List, Result, Err, if◌then◌else◌}
use Rattle.git_model.specs.Content.{Content}
use Rattle.git_model.specs.Repository.{Object}
use Rattle.pack_objects.specs.Entries.{entries_asked}
use Rattle.pack_objects.specs.Missing.{missing_asked}
use Rattle.pack_objects.specs.Packs.{pack_asked}
use Rattle.pack_objects.specs.declared.fault.PackFault.{PackFault}
use Rattle.pack_objects.specs.declared.fault.PackFault.TheVariants as fault
use Rattle.pack_objects.specs.declared.missing_object.MissingObject.{MissingObject}
use Rattle.tenant_refs.specs.TenantName.{is_tenant_name}
use Rattle.tenant_service.specs.HeldObjects.{last_held}
use Rattle.tenant_service.specs.TenantState.{TenantStates, held_of}

-- The objects of a tenant at its last checkpoint; none of one that was never seen.
abbrev pub last_objects : List ℕ → TenantStates → List Object
last_objects tenant all = (last_held (held_of tenant all)).objects

-- A bad name is that of no tenant.
abbrev pub unless_bad_name : {A : Type 0} → List ℕ → Result A PackFault → Result A PackFault
unless_bad_name tenant answer =
    if is_tenant_name tenant then answer else Err fault.BadTenantName

-- What is told of missing objects.
abbrev pub missing_for : List ℕ → TenantStates → List (List ℕ) → List (List ℕ)
    → Result (List MissingObject) PackFault
missing_for tenant all wants haves =
    unless_bad_name tenant (missing_asked (last_objects tenant all) wants haves)

-- The entries that are appended.
abbrev pub entries_for : List ℕ → TenantStates → List (List ℕ) → ℕ → Result (List ℕ) PackFault
entries_for tenant all names limit =
    unless_bad_name tenant (entries_asked (last_objects tenant all) names limit)

-- The contents of the pack that is written.
abbrev pub pack_for : List ℕ → TenantStates → List (List ℕ) → List (List ℕ)
    → Result (List Content) PackFault
pack_for tenant all wants haves =
    unless_bad_name tenant (pack_asked (last_objects tenant all) wants haves)

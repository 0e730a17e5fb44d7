-- What each tenant has, for the operator: how many objects and refs, and how many bytes.
use Rattle.std.specs.Prelude.{ℕ, ◌^◌, ◌-◌, ◌==◌, List, length, map, min, sum_by, if◌then◌else◌}
use Rattle.git_model.specs.Content.{Content}
use Rattle.git_model.specs.RefStore.{listed_refs}
use Rattle.git_model.specs.Repository.{Object}
use Rattle.pool_file_checks.specs.Repositories.{Named}
use Rattle.tenant_service.specs.TenantState.{TenantStates}
use Rattle.tenant_service.specs.HeldObjects.{tenants_with}
use Rattle.tenant_service.specs.Saved.{saved_of}
use Rattle.tenant_service.specs.declared.sizes.TenantSizes.{TenantSizes}

-- The size of an object in bytes.
abbrev pub size : Object → ℕ
size o = length o.content.bytes

-- The same, or 0 if several tenants have its content, by how many tenants have a content.
abbrev pub own_size : (Content → ℕ) → Object → ℕ
own_size holders o = if holders o.content == 1 then size o else 0

-- The sum of the sizes of objects, or 2^64 - 1 if the sum is greater.
abbrev pub total : (Object → ℕ) → List Object → ℕ
total size os = min (sum_by size os) (2 ^ 64 - 1)

-- What one tenant has: the number of its objects, the sum of their sizes, the sum of the sizes of
-- those whose content no other tenant has, and the number of its refs.
pub record Sizes : Type 0 where
  pub tenant : List ℕ
  pub objects : ℕ
  pub bytes : ℕ
  pub own_bytes : ℕ
  pub refs : ℕ

-- What a tenant with this repository has, by how many tenants have a content.
abbrev pub sizes_by : (Content → ℕ) → Named → Sizes
sizes_by holders n = record {
  tenant = n.tenant;
  objects = length n.repository.objects;
  bytes = total size n.repository.objects;
  own_bytes = total (own_size holders) n.repository.objects;
  refs = length (listed_refs n.repository.refs);
}

-- What each tenant has that a save writes, at its last checkpoint, in rising order of the names. A
-- content that only a running stream of another tenant has is not the tenant's own either.
abbrev pub sizes_of : TenantStates → List Sizes
sizes_of all = map (sizes_by (λ c. tenants_with c all)) (saved_of all)

-- What an answer says of a tenant.
abbrev pub sizes_told : TenantSizes → Sizes
sizes_told told = record {
  tenant = told.tenant.now;
  objects = told.objects;
  bytes = told.bytes;
  own_bytes = told.own_bytes;
  refs = told.refs;
}

-- The full names of the refs of a tenant among those of all tenants: gitnamespaces(7).
use Rattle.std.specs.Prelude.{◌≡◌, ℕ, List, ◌++◌, codes}
use Rattle.std.specs.List.{flat_map}
use Rattle.git_model.specs.Bytes.{BeginsWith}
use Rattle.tenant_refs.specs.TenantName.{parts_of}

-- The namespace of one part of a tenant name.
abbrev pub namespace_of : List ℕ → List ℕ
namespace_of part = codes "refs/namespaces/" ++ part ++ codes "/"

-- The namespaces of a tenant's parts in order.
abbrev pub namespaces : List ℕ → List ℕ
namespaces tenant = flat_map namespace_of (parts_of tenant)

-- The full name of a ref of a tenant: the namespaces of the tenant, and then the ref.
unfoldable pub full_name : List ℕ → List ℕ → List ℕ
full_name tenant ref = namespaces tenant ++ ref

-- No ref of another tenant and no other ref of the tenant has this full name. Refs that begin with
-- `refs/namespaces/` are left out: no ref of a tenant begins so.
pub record IsFullNameOfNoOther (full tenant ref : List ℕ) : Type 0 where
  pub tenant_is : (other_tenant other_ref : List ℕ)
      → ¬ BeginsWith other_ref (codes "refs/namespaces/") → full_name other_tenant other_ref ≡ full
      → other_tenant ≡ tenant
  pub ref_is : (other_tenant other_ref : List ℕ)
      → ¬ BeginsWith other_ref (codes "refs/namespaces/") → full_name other_tenant other_ref ≡ full
      → other_ref ≡ ref

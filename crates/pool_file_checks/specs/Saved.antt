-- The repositories that a file says.
use Rattle.std.specs.Prelude.{ℕ, List, [], map, drop, length, slice_get}
use Rattle.std.specs.Option.{option_map_or}
use Rattle.std.specs.FinMap as finite
use Rattle.git_model.specs.RefStore.{RefStore}
use Rattle.git_model.specs.Repository.{Object}
use Rattle.tenant_refs.specs.FullName.{namespaces}
use Rattle.pool_file_format.specs.Format.{RawObject, RawRef, RawTenant, RawFile}
use Rattle.pool_file_checks.specs.Own.{own_objects}
use Rattle.pool_file_checks.specs.Repositories.{Named}

-- A ref without the namespaces of its tenant, and the name of its target; no bytes if there is no
-- object at its place.
abbrev pub ref_at : List ℕ → List Object → RawRef → List ℕ × List ℕ
ref_at tenant objects r = (
  drop (length (namespaces tenant)) r.name,
  option_map_or (λ o. o.id) (slice_get objects r.place) [],
)

-- All refs of a tenant, whose names rise, and its HEAD.
abbrev pub refs_at : List ℕ → List Object → List RawRef → List ℕ → RefStore
refs_at tenant objects rs head = record {
  refs = finite.from_sorted (map (ref_at tenant objects) rs);
  head = head;
}

-- What a file says of a tenant: its objects by their numbers, under their names, and its refs.
abbrev pub named_at : (List ℕ → List ℕ) → List RawObject → RawTenant → Named
named_at digest os t = record {
  tenant = t.name;
  repository = record {
    objects = own_objects digest os t.numbers;
    refs = refs_at t.name (own_objects digest os t.numbers) t.refs t.head;
  };
}

-- What a file says of all tenants, in the order of the file.
unfoldable pub saved_in : (List ℕ → List ℕ) → RawFile → List Named
saved_in digest f = map (named_at digest f.objects) f.tenants

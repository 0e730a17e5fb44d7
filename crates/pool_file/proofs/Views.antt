-- Tenants are lent one after the other, and what is saved of them.
use Rattle.std.proofs.Common.{◌≡◌, ℕ, ◌+◌, ◌<◌, List, [], ◌∷◌, ◌++◌, map, take, length, get_or, refl, sym, ap, subst, ◌∙◌}
use Rattle.std.proofs.lemmas.List.{map-append, map_more}
use Rattle.content_pool.specs.Pool.{Cells}
use Rattle.tenant_tables.specs.IsBackedBy.{IsBackedBy}
use Rattle.tenant_tables.specs.Objects.{objects}
use Rattle.pool_file_checks.specs.Repositories.{Named}
use Rattle.pool_file.specs.declared.tenant.Tenant.{Tenant}
use Rattle.pool_file.specs.declared.tenant_view.TenantView.{TenantView}
use Rattle.pool_file.specs.Worth.{tenant_seen, with_committed, committed_in, named_in, worth_saving, to_save, AllStand, TablesStand}

pub view_more : (ts : List Tenant) (views more : List TenantView) (i : ℕ) (t : Tenant)
    (v : TenantView) → i < length ts → t ≡ get_or ts i t
    → map tenant_seen views ≡ map with_committed (take i ts)
    → more ≡ views ++ v ∷ [] → tenant_seen v ≡ with_committed t
    → map tenant_seen more ≡ map with_committed (take (i + 1) ts)
view_more ts views more i t v within at before is shows =
    ap (map tenant_seen) is ∙ map-append tenant_seen views (v ∷ [])
    ∙ (λ j. before j ++ shows j ∷ [])
    ∙ ap (λ (x : Tenant). map with_committed (take i ts) ++ with_committed x ∷ []) at
    ∙ sym (map_more with_committed ts i t within)

pub views_stand : (digest : List ℕ → List ℕ) (pool : Cells) (views : List TenantView)
    (ts : List Tenant) → map tenant_seen views ≡ map with_committed ts → TablesStand digest pool ts
    → AllStand digest pool views
views_stand digest pool [] ts shows all = tt
views_stand digest pool (v ∷ views) [] shows all = cc shows
views_stand digest pool (v ∷ views) (t ∷ ts) shows all =
    let first : tenant_seen v ≡ with_committed t = cc shows in
    let rest : map tenant_seen views ≡ map with_committed ts = cc shows in (
      subst (λ (seen : Tenant × ℕ). IsBackedBy digest pool seen.0.table.entries) (sym first) all.0,
      views_stand digest pool views ts rest all.1,
    )

-- what is saved of a tenant of which so many objects are
abbrev named_by : Cells → Tenant × ℕ → Named
named_by pool seen = record {
  tenant = seen.0.name;
  repository = record {
    objects = take seen.1 (objects pool seen.0.table.entries);
    refs = seen.0.refs;
  };
}

named_views : (pool : Cells) (views : List TenantView) (ts : List Tenant)
    → map tenant_seen views ≡ map with_committed ts
    → map (named_in pool) views ≡ map (committed_in pool) ts
named_views pool [] [] shows = refl
named_views pool [] (t ∷ ts) shows = cc shows
named_views pool (v ∷ views) [] shows = cc shows
named_views pool (v ∷ views) (t ∷ ts) shows =
    let first : tenant_seen v ≡ with_committed t = cc shows in
    let rest = named_views pool views ts (cc shows) in
    λ i. named_by pool (first i) ∷ rest i

pub views_saved : (pool : Cells) (views : List TenantView) (ts : List Tenant)
    → map tenant_seen views ≡ map with_committed ts
    → to_save pool views ≡ worth_saving (map (committed_in pool) ts)
views_saved pool views ts shows = ap worth_saving (named_views pool views ts shows)

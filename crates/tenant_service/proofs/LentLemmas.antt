-- Tenants are lent one after the other, and what is saved of them.
use Rattle.std.proofs.Common.{◌≡◌, ℕ, zero, suc, ◌+◌, List, [], ◌∷◌, ◌++◌, map, take, Some, slice_get, refl, sym, ap, subst, ◌∙◌, add-one}
use Rattle.std.specs.List.{AllByRecursion}
use Rattle.std.proofs.lemmas.List.{map-append}
use Rattle.content_pool.specs.Pool.{Cells}
use Rattle.git_model.specs.Repository.{Object}
use Rattle.tenant_tables.specs.Objects.{objects}
use Rattle.tenant_tables.specs.View.{View}
use Rattle.tenant_tables.specs.IsBackedBy.{IsBackedBy}
use Rattle.pool_file_checks.specs.Repositories.{Named}
use Rattle.pool_file.specs.declared.tenant_view.TenantView.{TenantView}
use Rattle.pool_file.specs.Worth.{AllStand, named_in, to_save, worth_saving}
use Rattle.tenant_service.specs.declared.tenant.Tenant.{Tenant}
use Rattle.tenant_service.specs.declared.tenant.OpenStream.{OpenStream}
use Rattle.tenant_service.specs.declared.tenant.OpenStream.TheVariants as phase
use Rattle.tenant_service.specs.Entries.{Parts, opened_parts_of, parts_at, parts_lent, parts_of}
use Rattle.tenant_service.specs.HeldObjects.{opened_held}
use Rattle.tenant_service.specs.Saved.{as_opened, last_named, saved_as_opened, saved_of}
use Rattle.tenant_service.specs.Tenants.{IsSettled, Tenants, Stands, held_in, holdings}
use Rattle.tenant_service.proofs.StoredLemmas.{shows}
use Rattle.tenant_service.proofs.TenantLemmas.{all_committed}

take-next : {X : Type 0} (xs : List X) (i : ℕ) (x : X) → slice_get xs i ≡ Some x
    → take (suc i) xs ≡ take i xs ++ x ∷ []
take-next [] i x h = cc h
take-next (y ∷ ys) zero x h = let same : y ≡ x = cc h in ap (λ z. z ∷ []) same
take-next (y ∷ ys) (suc i) x h = ap (λ zs. y ∷ zs) (take-next ys i x h)

pub lent-next : (of : List ℕ × Tenant → Parts) (es : List (List ℕ × Tenant))
    (lent more : List TenantView) (i : ℕ)
    (e : List ℕ × Tenant) (s : TenantView) → map parts_lent lent ≡ map of (take i es)
    → slice_get es i ≡ Some e → more ≡ lent ++ s ∷ [] → parts_lent s ≡ of e
    → map parts_lent more ≡ map of (take (i + 1) es)
lent-next of es lent more i e s before got is same =
    ap (map parts_lent) is ∙ map-append parts_lent lent (s ∷ [])
    ∙ (λ j. before j ++ same j ∷ [])
    ∙ sym (ap (λ n. map of (take n es)) (add-one i)
    ∙ ap (map of) (take-next es i e got) ∙ map-append of (take i es) (e ∷ []))

-- ---- what is saved of those that are lent

pub all-stand : (of : List ℕ × Tenant → Parts)
    → ((e : List ℕ × Tenant) → (of e).table ≡ e.1.table)
    → (digest : List ℕ → List ℕ) (p : Cells) (es : Tenants) (lent : List TenantView)
    → AllByRecursion (λ e. Stands digest p e.1) es → map parts_lent lent ≡ map of es
    → AllStand digest p lent
all-stand of tables digest p es [] all is = tt
all-stand of tables digest p [] (s ∷ lent) all is = cc is
all-stand of tables digest p (e ∷ es) (s ∷ lent) all is =
    let first : parts_lent s ≡ of e = cc is in
    let rest : map parts_lent lent ≡ map of es = cc is in (
      subst (λ (table : View). IsBackedBy digest p table.entries)
          (sym (ap (λ (parts : Parts). parts.table) first ∙ tables e)) all.0.entries,
      all-stand of tables digest p es lent all.1 rest,
    )

named_by : Cells → Parts → Named
named_by p parts = record {
  tenant = parts.name;
  repository = record {
    objects = take parts.objects (objects p parts.table.entries);
    refs = parts.refs;
  };
}

named-parts : (p : Cells) (lent : List TenantView)
    → map (named_in p) lent ≡ map (named_by p) (map parts_lent lent)
unfolding named_by
named-parts p [] = refl
named-parts p (s ∷ lent) = ap (λ (ns : List Named). named_in p s ∷ ns) (named-parts p lent)

named-last : (digest : List ℕ → List ℕ) (p : Cells) (es : Tenants)
    → AllByRecursion (λ e. Stands digest p e.1) es
    → map (named_by p) (map parts_of es) ≡ last_named (holdings p es)
unfolding named_by
named-last digest p [] all = refl
named-last digest p (e ∷ es) all =
    let shown = shows e.1.phase p e.1.table e.1.refs all.0.settled in
    let objects_are = shown.committed in
    let refs_are = shown.saved in
    let rest = named-last digest p es all.1 in
    λ i. record {
      tenant = e.0;
      repository = record { objects = objects_are i; refs = refs_are i };
    } ∷ rest i

pub saved-lent : (digest : List ℕ → List ℕ) (p : Cells) (es : Tenants) (lent : List TenantView)
    → AllByRecursion (λ e. Stands digest p e.1) es → map parts_lent lent ≡ map parts_of es
    → to_save p lent ≡ saved_of (holdings p es)
saved-lent digest p es lent all is =
    ap worth_saving
    (named-parts p lent ∙ ap (map (named_by p)) is ∙ named-last digest p es all)

-- ---- and as they were when their streams were opened

opened-table : (ph : OpenStream) (e : List ℕ × Tenant) → (parts_at ph e).table ≡ e.1.table
opened-table phase.Closed e = refl
opened-table (phase.Running opened stream) e = refl
opened-table (phase.Dead opened code) e = refl

pub opened-stand : (digest : List ℕ → List ℕ) (p : Cells) (es : Tenants) (lent : List TenantView)
    → AllByRecursion (λ e. Stands digest p e.1) es → map parts_lent lent ≡ map opened_parts_of es
    → AllStand digest p lent
opened-stand digest p es lent all is =
    all-stand opened_parts_of (λ e. opened-table e.1.phase e) digest p es lent all is

named-opened : (ph : OpenStream) (p : Cells) (e : List ℕ × Tenant) → IsSettled ph e.1.table
    → named_by p (parts_at ph e)
    ≡ record { tenant = e.0; repository = opened_held (held_in ph p e.1.table e.1.refs) }
unfolding named_by
named-opened phase.Closed p e settled =
    ap (λ (os : List Object). record { tenant = e.0; repository = record { objects = os; refs = e.1.refs } })
    (all_committed p e.1.table settled)
named-opened (phase.Running opened stream) p e settled = refl
named-opened (phase.Dead opened code) p e settled = refl

all-opened : (digest : List ℕ → List ℕ) (p : Cells) (es : Tenants)
    → AllByRecursion (λ e. Stands digest p e.1) es
    → map (named_by p) (map opened_parts_of es) ≡ last_named (as_opened (holdings p es))
all-opened digest p [] all = refl
all-opened digest p (e ∷ es) all =
    let first = named-opened e.1.phase p e all.0.settled in
    let rest = all-opened digest p es all.1 in
    λ i. first i ∷ rest i

pub saved-opened : (digest : List ℕ → List ℕ) (p : Cells) (es : Tenants) (lent : List TenantView)
    → AllByRecursion (λ e. Stands digest p e.1) es → map parts_lent lent ≡ map opened_parts_of es
    → to_save p lent ≡ saved_as_opened (holdings p es)
saved-opened digest p es lent all is =
    ap worth_saving
    (named-parts p lent ∙ ap (map (named_by p)) is ∙ all-opened digest p es all)

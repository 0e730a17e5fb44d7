-- A tenant that has a copy: its objects by their places, and how it stands beside all others.
use Rattle.std.proofs.Common.{◌≡◌, ℕ, ◌<◌, true, List, [], ◌∷◌, length, take, All, Option, Some, refl, sym, ap, subst, ◌∙◌, arith}
use Rattle.std.specs.Str.{bytes_eq}
use Rattle.std.proofs.lemmas.List.{get_or-take, length-take}
use Rattle.std.proofs.lemmas.List.Elements.{All-head, All-tail, All-weaker}
use Rattle.git_model.specs.GoodRepository.{AreObjects}
use Rattle.git_model.specs.RefStore.{RefStore}
use Rattle.git_model.specs.References.{no_object, object_at}
use Rattle.git_model.specs.Repository.{Object, Repository}
use Rattle.git_names.specs.Naming.{AnswersNames}
use Rattle.content_pool.specs.Pool.{Cells}
use Rattle.indexmap.specs.IndexMap.{insert_entry}
use Rattle.tenant_refs.specs.TenantName.{is_tenant_name}
use Rattle.tenant_tables.specs.IsBackedBy.{PreservesOthers}
use Rattle.tenant_tables.specs.Objects.{objects}
use Rattle.tenant_tables.specs.View.{View}
use Rattle.tenant_tables.proofs.TableLemmas.{length-objects, objects-take}
use Rattle.export_laws.specs.Order.{copied_objects, objects_at}
use Rattle.repository_copies.specs.Copied.{AreCopied}
use Rattle.tenant_tables.specs.Copied.{IsCopied}
use Rattle.tenant_service.specs.declared.tenant.OpenStream.TheVariants as phase
use Rattle.tenant_service.specs.declared.tenant.Tenant.{Tenant}
use Rattle.tenant_service.specs.ByPlaces.{Copies, IsCopy, IsKept, MayBeCopy}
use Rattle.tenant_service.specs.HeldObjects.{last_held}
use Rattle.tenant_service.specs.Soundness.{IsSoundTenantState}
use Rattle.tenant_service.specs.OneStep.{store}
use Rattle.tenant_service.specs.TenantState.{Idle, empty_repository, held_of}
use Rattle.tenant_service.specs.Tenants.{Accounts, Stands, Tenants, holding_in, holdings}
use Rattle.tenant_service.proofs.AccountLemmas.{kept, put}
use Rattle.tenant_service.proofs.CopyRuns.{copy-sound}
use Rattle.tenant_service.proofs.SoundLemmas.{last-sound}
use Rattle.tenant_service.proofs.TenantLemmas.{saved_is}

-- objects by their places among the first
first-at : (os : List Object) (n : ℕ) (places : List ℕ) → All (λ q. q < length (take n os)) places
    → objects_at os places ≡ objects_at (take n os) places
unfolding object_at
first-at os n [] all = refl
first-at os n (q ∷ places) all =
    let lt = All-head (λ q. q < length (take n os)) q places all in
    let size = length-take n os in
    let here : object_at q (take n os) ≡ object_at q os =
    get_or-take n os q no_object (omega (arith, lt, size)) in
    let rest = first-at os n places (All-tail (λ q. q < length (take n os)) q places all) in
    λ i. sym here i ∷ rest i

module _ (digest : List ℕ → List ℕ) (p : Cells) (t : Tenant) (stands : Stands digest p t)
    (sound : IsSoundTenantState digest (holding_in p t)) where
  abbrev repository : Repository
  repository = last_held (holding_in p t)

  saved : ◌≡◌ {A = Repository} (record {
    objects = objects p (take t.table.committed t.table.entries);
    refs = t.refs;
  }) repository
  saved = saved_is t.phase p t.table t.refs stands.settled

  -- the places are among the objects of the last checkpoint
  pub places-are : (P : Repository → Type 0) (os : List Object)
      → os ≡ objects p (take t.table.committed t.table.entries)
      → (AreObjects digest os → P (record { objects = os; refs = t.refs })) → P repository
  places-are P os is h =
      let e : ◌≡◌ {A = Repository} (record { objects = os; refs = t.refs }) repository =
      ap (λ (xs : List Object). record { objects = xs; refs = t.refs }) is ∙ saved in
      subst P e
      (h (subst (λ (r : Repository). AreObjects digest r.objects) (sym e)
      (last-sound digest (holding_in p t) sound).objects))

  module _ (names : AnswersNames digest) (places : List ℕ) (are : AreCopied repository places) where
    first : take t.table.committed (objects p t.table.entries) ≡ repository.objects
    first =
        sym (objects-take p t.table.committed t.table.entries)
        ∙ ap (λ (r : Repository). r.objects) saved

    pub within-all : All (λ q. q < length t.table.entries) places
    within-all =
        let a = ap length first in
        let b = length-take t.table.committed (objects p t.table.entries) in
        let c = length-objects p t.table.entries in
        All-weaker (λ q. q < length repository.objects) (λ q. q < length t.table.entries)
        (λ q lt. omega (arith, a, b, c, lt)) places are.within

    at-places : objects_at (objects p t.table.entries) places ≡ copied_objects repository
    at-places =
        first-at (objects p t.table.entries) t.table.committed places
        (subst (λ (os : List Object). All (λ q. q < length os) places) (sym first) are.within)
        ∙ ap (λ (os : List Object). objects_at os places) first ∙ are.objects

    pub good-places : AreObjects digest (objects_at (objects p t.table.entries) places)
    good-places =
        subst (AreObjects digest) (sym at-places)
        (copy-sound digest names repository (last-sound digest (holding_in p t) sound) are.can).objects

    -- a table of these objects, and a copy of the refs
    pub is-copy : (q : Cells) (table : View) (refs : RefStore) (chain : List (List ℕ))
        → IsCopied digest places t.table.entries p q table → refs ≡ t.refs → chain ≡ []
        → IsCopy digest p repository q
        (record { table = table; refs = refs; phase = phase.Closed; chain = chain })
    is-copy q table refs chain copied same none = record {
      stands = record {
        entries = copied.stands;
        settled = copied.committed;
        opened = tt;
        files = tt;
        chain = rw none tt;
      };
      others = copied.others;
      can = are.can;
      held =
          let os = copied.objects ∙ at-places in
          let rs = same ∙ ap (λ (r : Repository). r.refs) saved in
          λ i. Idle (record { objects = os i; refs = rs i });
    }

-- ---- the tenants

-- Every tenant has what it had.
pub all-kept : (digest : List ℕ → List ℕ) (p q : Cells) (es new : Tenants) → Accounts digest p es
    → new ≡ es → PreservesOthers p [] q [] → IsKept digest (store p es) (store q new)
all-kept digest p q es new h same leaves =
    let k = kept digest p q es h leaves in
    subst (λ (xs : Tenants). IsKept digest (store p es) (store q xs)) (sym same)
    (record { accounts = k.accounts; same = k.shown })

-- One tenant has a copy of what another one has.
pub all-copied : (digest : List ℕ → List ℕ) (p q : Cells) (es between new : Tenants)
    (from to : List ℕ) (copy : Tenant) (made : Option Tenant) → Accounts digest p es
    → is_tenant_name to ≡ true → held_of to (holdings p es) ≡ Idle empty_repository
    → between ≡ es → new ≡ insert_entry bytes_eq es to copy → made ≡ Some copy
    → MayBeCopy digest p (last_held (held_of from (holdings p between))) q made
    → Copies digest from to (store p es) (store q new)
all-copied digest p q es between new from to copy made h named nothing same is some may =
    let k : IsCopy digest p (last_held (held_of from (holdings p es))) q copy =
    subst (λ (xs : Tenants). MayBeCopy digest p (last_held (held_of from (holdings p xs))) q (Some copy)) same
    (subst (MayBeCopy digest p (last_held (held_of from (holdings p between))) q) some may) in
    let x = put digest to p q es copy h named nothing k.stands k.others in
    subst (λ (xs : Tenants). Copies digest from to (store p es) (store q xs)) (sym is)
    (record { accounts = x.accounts; can = k.can; held = x.here ∙ k.held; others = x.others })

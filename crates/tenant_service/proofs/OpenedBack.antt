-- What a service that was loaded from a file of tenants as they were at their Opens has.
use Rattle.std.proofs.Common.{◌≡◌, ℕ, suc, ◌<◌, ◌^◌, ◌⊎◌, Bool, true, false, cond, List, [], ◌∷◌, map, length, Some, refl, sym, ap, subst, ◌∙◌, inl, inr, arith}
use Rattle.std.specs.List.{AllByRecursion, IsDistinct}
use Rattle.std.specs.Map.{keys_of, lookup}
use Rattle.std.specs.Option.{unwrap_or}
use Rattle.std.specs.Set.{unique_keys}
use Rattle.std.specs.Str.{bytes_eq}
use Rattle.git_names.specs.Naming.{AnswersNames}
use Rattle.git_model.specs.Content.{Content, same_content}
use Rattle.git_model.specs.RefStore.{RefStore}
use Rattle.git_model.specs.Repository.{Object}
use Rattle.content_pool.specs.Pool.{Cells}
use Rattle.tenant_refs.specs.TenantName.{is_tenant_name}
use Rattle.tenant_tables.specs.Objects.{objects}
use Rattle.tenant_tables.specs.View.{View}
use Rattle.import_session.specs.Sound.{IsSoundRepository}
use Rattle.pool_file_checks.specs.Repositories.{file_text}
use Rattle.pool_file_checks.specs.Saving.{IsTextOf}
use Rattle.pool_file_checks.proofs.Members.{Has, has_either, has_left, has_map, has_right, from_map}
use Rattle.tenant_service.specs.declared.tenant.OpenStream.{OpenStream}
use Rattle.tenant_service.specs.declared.tenant.OpenStream.TheVariants as phase
use Rattle.tenant_service.specs.TenantState.{TenantState, TenantStates, Idle, Busy, empty_repository, held_of}
use Rattle.tenant_service.specs.HeldObjects.{held_contents, held_objects, last_held, opened_held}
use Rattle.tenant_service.specs.Soundness.{IsSoundTenantState}
use Rattle.tenant_service.specs.Saved.{as_opened, saved_as_opened, IsLoadedFrom}
use Rattle.tenant_service.specs.Tenants.{Tenants, AreSound, held_in, holding_in, holdings}
use Rattle.tenant_service.proofs.BackLemmas.{back-loaded, saved-content, text-among}
use Rattle.tenant_service.proofs.SavableLemmas.{take-has}
use Rattle.tenant_service.proofs.StoredLemmas.{held_objects-in}

-- ---- each tenant

held-opened : (tenant : List ℕ) (all : TenantStates)
    → held_of tenant (as_opened all) ≡ Idle (opened_held (held_of tenant all))
held-opened tenant [] = refl
held-opened tenant (e ∷ all) = by (bytes_eq tenant e.0) (held-opened tenant all)
  where
    by : (b : Bool) → held_of tenant (as_opened all) ≡ Idle (opened_held (held_of tenant all))
        → unwrap_or (cond b (Some (Idle (opened_held e.1))) (lookup (bytes_eq tenant) (as_opened all))) (Idle empty_repository)
        ≡ Idle (opened_held (unwrap_or (cond b (Some e.1) (lookup (bytes_eq tenant) all)) (Idle empty_repository)))
    by true h = refl
    by false h = h

opened-sound : (digest : List ℕ → List ℕ) (held : TenantState) → IsSoundTenantState digest held
    → IsSoundRepository digest (opened_held held)
opened-sound digest (Idle repository) sound = sound
opened-sound digest (Busy opened status) sound = sound.0

all-sound : (digest : List ℕ → List ℕ) (all : TenantStates) → AreSound digest all
    → AreSound digest (as_opened all)
all-sound digest all sound tenant =
    subst (IsSoundTenantState digest) (sym (held-opened tenant all))
    (opened-sound digest (held_of tenant all) (sound tenant))

keys-opened : (all : TenantStates) → keys_of (as_opened all) ≡ keys_of all
keys-opened [] = refl
keys-opened (e ∷ all) = ap (λ (ks : List (List ℕ)). e.0 ∷ ks) (keys-opened all)

length-opened : (all : TenantStates) → length (as_opened all) ≡ length all
length-opened [] = refl
length-opened (e ∷ all) = ap (λ (n : ℕ). suc n) (length-opened all)

-- ---- no content is new

abbrev contents : List Object → List Content
contents os = map (λ (o : Object). o.content) os

opened-objects : (ph : OpenStream) (p : Cells) (t : View) (r : RefStore) (o : Object)
    → Has (opened_held (held_in ph p t r)).objects o → Has (objects p t.entries) o
opened-objects phase.Closed p t r o h = h
opened-objects (phase.Running opened stream) p t r o h =
    take-has opened.objects (objects p t.entries) o h
opened-objects (phase.Dead opened code) p t r o h =
    take-has opened.objects (objects p t.entries) o h

own-content : (ph : OpenStream) (p : Cells) (t : View) (r : RefStore) (c : Content)
    → Has (contents (opened_held (held_in ph p t r)).objects) c
    → Has (contents (held_objects (held_in ph p t r))) c
own-content ph p t r c h =
    let o = from_map (λ (x : Object). x.content) (opened_held (held_in ph p t r)).objects c h in
    subst (λ (os : List Object). Has (contents os) c) (sym (held_objects-in ph p t r))
    (subst (λ (d : Content). Has (contents (objects p t.entries)) d) o.is
    (has_map (λ (x : Object). x.content) (objects p t.entries) o.from
    (opened-objects ph p t r o.from o.there)))

contents-within : (p : Cells) (es : Tenants) (c : Content)
    → Has (held_contents (as_opened (holdings p es))) c → Has (held_contents (holdings p es)) c
contents-within p [] c h = h
contents-within p (e ∷ es) c h =
    by (contents-within p es c)
    (has_either (contents (opened_held (holding_in p e.1)).objects)
    (held_contents (as_opened (holdings p es))) c h)
  where
    by : (Has (held_contents (as_opened (holdings p es))) c → Has (held_contents (holdings p es)) c)
        → Has (contents (opened_held (holding_in p e.1)).objects) c
        ⊎ Has (held_contents (as_opened (holdings p es))) c
        → Has (held_contents (holdings p (e ∷ es))) c
    by rest (inl own) =
        has_left (contents (held_objects (holding_in p e.1))) (held_contents (holdings p es)) c
        (own-content e.1.phase p e.1.table e.1.refs c own)
    by rest (inr later) =
        has_right (contents (held_objects (holding_in p e.1))) (held_contents (holdings p es)) c
        (rest later)

-- ---- the text, and what is loaded from it

module _ (digest : List ℕ → List ℕ) (p : Cells) (es : Tenants) (all : TenantStates)
    (is : holdings p es ≡ all)
    (names : AllByRecursion (λ name. is_tenant_name name ≡ true) (keys_of all))
    (distinct : IsDistinct bytes_eq (keys_of all)) (sound : AreSound digest all) where
  names-opened : AllByRecursion (λ name. is_tenant_name name ≡ true) (keys_of (as_opened all))
  names-opened =
      subst (AllByRecursion (λ name. is_tenant_name name ≡ true)) (sym (keys-opened all)) names

  distinct-opened : IsDistinct bytes_eq (keys_of (as_opened all))
  distinct-opened = subst (IsDistinct bytes_eq) (sym (keys-opened all)) distinct

  within : (c : Content) → Has (held_contents (as_opened all)) c → Has (held_contents all) c
  within =
      subst (λ (shown : TenantStates). (c : Content)
      → Has (held_contents (as_opened shown)) c → Has (held_contents shown) c) is
      (contents-within p es)

  pub text-opened : length all < 2 ^ 63
      → length (unique_keys same_content (held_contents all)) < 2 ^ 64
      → IsTextOf digest (saved_as_opened all) (file_text digest (saved_as_opened all))
  text-opened many few =
      let size = length-opened all in
      text-among digest (as_opened all) names-opened distinct-opened (all-sound digest all sound)
      (omega (arith, many, size)) (held_contents all)
      (λ c h. within c (saved-content digest (as_opened all) names-opened distinct-opened
      (all-sound digest all sound) c h)) few

  pub opened-loaded : AnswersNames digest
      → IsTextOf digest (saved_as_opened all) (file_text digest (saved_as_opened all))
      → (loaded : TenantStates)
      → IsLoadedFrom digest (file_text digest (saved_as_opened all)) loaded → (tenant : List ℕ)
      → held_of tenant loaded ≡ Idle (opened_held (held_of tenant all))
  opened-loaded answers text loaded from tenant =
      back-loaded digest (as_opened all) names-opened distinct-opened
      (all-sound digest all sound) answers text loaded from tenant
      ∙ ap (λ (held : TenantState). Idle (last_held held)) (held-opened tenant all)

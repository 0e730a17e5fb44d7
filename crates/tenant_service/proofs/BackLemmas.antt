-- What a service that was loaded from a saved file has.
use Rattle.std.proofs.Common.{◌≡◌, ℕ, suc, ◌<◌, ◌^◌, Bool, true, false, cond, List, [], ◌∷◌, map, length, Some, refl, sym, ap, subst, ◌∙◌, inl, inr, arith, true≢false}
use Rattle.std.specs.List.{AllByRecursion, IsDistinct}
use Rattle.std.specs.Map.{keys_of, lookup}
use Rattle.std.specs.Option.{unwrap_or}
use Rattle.std.specs.Set.{unique_keys}
use Rattle.std.specs.Str.{bytes_eq}
use Rattle.std.proofs.lemmas.Slice.Eq.{bytes_eq-Decides}
use Rattle.git_names.specs.Naming.{AnswersNames}
use Rattle.git_model.specs.Content.{Content, same_content}
use Rattle.git_model.specs.Repository.{Object}
use Rattle.content_pool.specs.Pool.{Cells}
use Rattle.tenant_refs.specs.TenantName.{is_tenant_name}
use Rattle.import_session.specs.Stream.{Runs, Refused}
use Rattle.pool_file_checks.specs.Repositories.{Named, contents_of, file_text}
use Rattle.pool_file_checks.specs.Saving.{IsGood, IsTextOf}
use Rattle.pool_file_checks.proofs.Members.{Has, has_map, from_map, has_flat_map, of_flat_map}
use Rattle.pool_file_checks.proofs.Texts.{one_list}
use Rattle.tenant_service.specs.TenantState.{TenantState, TenantStates, Idle, Busy, empty_repository, held_of}
use Rattle.tenant_service.specs.HeldObjects.{held_contents, held_objects, last_held}
use Rattle.tenant_service.specs.Saved.{last_named, saved_of, repository_of, IsLoadedFrom}
use Rattle.tenant_service.specs.Tenants.{Tenants, AreSound, holdings}
use Rattle.tenant_service.proofs.SoundLemmas.{last-sound}
use Rattle.tenant_service.proofs.SavedLemmas.{LosesNothing, saved-repository, empty_of}
use Rattle.tenant_service.proofs.SavableLemmas.{IsSavable, take-has, of-saved, can-save}

-- The repository of every tenant at its last checkpoint is good.
abbrev AreGood : (List ℕ → List ℕ) → TenantStates → Type 0
AreGood digest all = (tenant : List ℕ) → IsGood digest (last_held (held_of tenant all))

good-sound : (digest : List ℕ → List ℕ) (all : TenantStates) → AreSound digest all → AreGood digest all
good-sound digest all sound tenant =
    let last = last-sound digest (held_of tenant all) (sound tenant) in
    record { objects = last.objects; trees = last.trees; refs = last.refs }

-- ---- each tenant's repository

among : (P : List ℕ → Type 0) (all : TenantStates) (e : List ℕ × TenantState)
    → AllByRecursion P (keys_of all) → Has all e → P e.0
among P [] e each h = absurd h
among P (x ∷ all) e each (inl same) = subst (λ (y : List ℕ × TenantState). P y.0) same each.0
among P (x ∷ all) e each (inr h) = among P all e each.1 h

pub found-once : (all : TenantStates) (e : List ℕ × TenantState) → IsDistinct bytes_eq (keys_of all)
    → Has all e → lookup (bytes_eq e.0) all ≡ Some e.1
unfolding IsDistinct
found-once [] e distinct h = absurd h
found-once (x ∷ all) e distinct (inl same) =
    ap (λ (b : Bool). cond b (Some x.1) (lookup (bytes_eq e.0) all))
    ((bytes_eq-Decides e.0 x.0).1 (ap (λ (y : List ℕ × TenantState). y.0) (sym same)))
    ∙ ap (λ (y : List ℕ × TenantState). Some y.1) same
found-once (x ∷ all) e distinct (inr h) = by (bytes_eq e.0 x.0) refl (found-once all e distinct.1 h)
  where
    by : (b : Bool) → bytes_eq e.0 x.0 ≡ b → lookup (bytes_eq e.0) all ≡ Some e.1
        → cond b (Some x.1) (lookup (bytes_eq e.0) all) ≡ Some e.1
    by true same found =
        let apart = among (λ y. bytes_eq x.0 y ≡ false) all e distinct.0 h in
        absurd (true≢false (sym ((bytes_eq-Decides x.0 e.0).1
        (sym ((bytes_eq-Decides e.0 x.0).0 same))) ∙ apart))
    by false other found = found

named_of : List ℕ × TenantState → Named
named_of e = record { tenant = e.0; repository = last_held e.1 }

good-named : (digest : List ℕ → List ℕ) (all : TenantStates) → IsDistinct bytes_eq (keys_of all)
    → AreGood digest all → (n : Named) → Has (last_named all) n → IsGood digest n.repository
unfolding named_of
good-named digest all distinct good n h =
    let f = from_map named_of all n h in
    let held : held_of f.from.0 all ≡ f.from.1 =
    ap (λ o. unwrap_or o (Idle empty_repository)) (found-once all f.from distinct f.there) in
    subst (λ (m : Named). IsGood digest m.repository) f.is
    (subst (λ (x : TenantState). IsGood digest (last_held x)) held (good f.from.0))

name-named : (all : TenantStates) → AllByRecursion (λ name. is_tenant_name name ≡ true) (keys_of all)
    → (n : Named) → Has (last_named all) n → is_tenant_name n.tenant ≡ true
unfolding named_of
name-named all names n h =
    let f = from_map named_of all n h in
    ap (λ (m : Named). is_tenant_name m.tenant) (sym f.is)
    ∙ among (λ name. is_tenant_name name ≡ true) all f.from names f.there

-- ---- all contents that are saved are held

last-objects : (held : TenantState) (o : Object) → Has (last_held held).objects o
    → Has (held_objects held) o
last-objects (Idle repository) o h = h
last-objects (Busy opened (Runs now tail)) o h =
    take-has now.workspace.committed now.workspace.objects o h
last-objects (Busy opened (Refused code repository)) o h = h

contents_held : List ℕ × TenantState → List Content
contents_held e = map (λ o. o.content) (held_objects e.1)

held-content : (all : TenantStates) (n : Named) (c : Content) → Has (last_named all) n
    → Has (map (λ o. o.content) n.repository.objects) c → Has (held_contents all) c
unfolding named_of contents_held
held-content all n c there h =
    let f = from_map named_of all n there in
    let own : Has (map (λ o. o.content) (last_held f.from.1).objects) c =
    subst (λ (m : Named). Has (map (λ o. o.content) m.repository.objects) c) (sym f.is) h in
    let o = from_map (λ (x : Object). x.content) (last_held f.from.1).objects c own in
    has_flat_map contents_held all f.from c f.there
    (subst (λ (d : Content). Has (contents_held f.from) d) o.is
    (has_map (λ (x : Object). x.content) (held_objects f.from.1) o.from
    (last-objects f.from.1 o.from o.there)))

-- ---- what is saved has a text, and comes back

length-last : (all : TenantStates) → length (last_named all) ≡ length all
length-last [] = refl
length-last (e ∷ all) = ap (λ n. suc n) (length-last all)

module _ (digest : List ℕ → List ℕ) (all : TenantStates)
    (names : AllByRecursion (λ name. is_tenant_name name ≡ true) (keys_of all))
    (distinct : IsDistinct bytes_eq (keys_of all)) (sound : AreSound digest all) where
  good : AreGood digest all
  good = good-sound digest all sound

  savable : (n : Named) → Has (last_named all) n → IsSavable digest n
  savable n h = record {
    name = name-named all names n h;
    good = good-named digest all distinct good n h;
  }

  pub saved-content : (c : Content) → Has (contents_of (saved_of all)) c → Has (held_contents all) c
  saved-content c h =
      let of = of_flat_map (λ (n : Named). map (λ o. o.content) n.repository.objects)
      (saved_of all) c h in
      held-content all of.of c
      (of-saved digest (last_named all) savable of.of of.there).0 of.has

  -- if all contents that are saved are among some that are not too many
  pub text-among : length all < 2 ^ 63 → (among : List Content)
      → ((c : Content) → Has (contents_of (saved_of all)) c → Has among c)
      → length (unique_keys same_content among) < 2 ^ 64
      → IsTextOf digest (saved_of all) (file_text digest (saved_of all))
  text-among many among each few =
      let size = length-last all in
      inl (
        can-save digest (last_named all) savable (omega (arith, many, size)) among each few,
        refl,
      )

  pub text-saved : length all < 2 ^ 63
      → length (unique_keys same_content (held_contents all)) < 2 ^ 64
      → IsTextOf digest (saved_of all) (file_text digest (saved_of all))
  text-saved many few = text-among many (held_contents all) saved-content few

  pub loses-nothing : LosesNothing (last_named all)
  loses-nothing n h = empty_of n (good-named digest all distinct good n h).refs

  -- a service that was loaded from the text has what a restart leaves
  pub back-loaded : AnswersNames digest
      → IsTextOf digest (saved_of all) (file_text digest (saved_of all)) → (loaded : TenantStates)
      → IsLoadedFrom digest (file_text digest (saved_of all)) loaded → (tenant : List ℕ)
      → held_of tenant loaded ≡ Idle (last_held (held_of tenant all))
  back-loaded answers text loaded from tenant =
      from.has tenant
      ∙ ap (λ (ns : List Named). Idle (repository_of tenant ns))
      (one_list digest from.all (saved_of all) (file_text digest (saved_of all)) answers from.text
      text)
      ∙ ap Idle (saved-repository tenant all distinct loses-nothing)

-- ---- what holds of every service

pub names-held : (p : Cells) (es : Tenants) → AllByRecursion (λ e. is_tenant_name e.0 ≡ true) es
    → AllByRecursion (λ name. is_tenant_name name ≡ true) (keys_of (holdings p es))
names-held p [] names = tt
names-held p (e ∷ es) names = (names.0, names-held p es names.1)

pub length-holdings : (p : Cells) (es : Tenants) → length (holdings p es) ≡ length es
length-holdings p [] = refl
length-holdings p (e ∷ es) = ap (λ n. suc n) (length-holdings p es)

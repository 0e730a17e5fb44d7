-- One tenant of a service alone: how it is lent to a save, and what comes back from its file.
use Rattle.std.proofs.Common.{◌≡◌, ℕ, zero, suc, ◌<◌, ◌≤◌, ◌^◌, Bool, true, false, cond, List, [], ◌∷◌, ◌++◌, map, length, take, filter, not, Option, None, Some, Ok, is_some, refl, sym, ap, subst, ◌∙◌, arith}
use Rattle.std.specs.List.{AllByRecursion, IsDistinct}
use Rattle.std.specs.Map.{keys_of, lookup}
use Rattle.std.specs.Option.{unwrap_or}
use Rattle.std.specs.Set.{is_member, unique_keys}
use Rattle.std.specs.Str.{bytes_eq}
use Rattle.std.proofs.lemmas.List.{append-nil, length-map}
use Rattle.std.proofs.lemmas.Slice.Eq.{bytes_eq-Decides}
use Rattle.git_model.specs.Content.{Content, same_content}
use Rattle.git_model.specs.RefStore.{first_head}
use Rattle.git_model.specs.Repository.{Object, Repository}
use Rattle.git_names.specs.Naming.{AnswersNames}
use Rattle.byte_devices.specs.Device.{Device}
use Rattle.content_pool.specs.Pool.{Cells}
use Rattle.tenant_refs.specs.TenantName.{is_tenant_name}
use Rattle.import_session.specs.Sound.{IsSoundRepository}
use Rattle.session_laws.proofs.SoundLemmas.{empty_is_sound}
use Rattle.pool_file.specs.declared.tenant_view.TenantView.{TenantView}
use Rattle.pool_file.specs.Listing.{listed_by}
use Rattle.pool_file.specs.Saves.{Saves}
use Rattle.pool_file_checks.specs.Repositories.{Named, file_text}
use Rattle.pool_file_checks.specs.Saving.{IsTextOf}
use Rattle.tenant_service.specs.declared.extract_fault.ExtractFault.{ExtractFault}
use Rattle.tenant_service.specs.declared.extract_fault.ExtractFault.TheVariants as fault
use Rattle.tenant_service.specs.Entries.{Parts, parts_lent, parts_of}
use Rattle.tenant_service.specs.Extracting.{Extracts, extract_refusal, only}
use Rattle.tenant_service.specs.HeldObjects.{held_contents, last_held}
use Rattle.tenant_service.specs.Removing.{with_stream}
use Rattle.tenant_service.specs.Saved.{IsLoadedFrom, saved_of}
use Rattle.tenant_service.specs.Soundness.{IsSoundTenantState}
use Rattle.tenant_service.specs.TenantState.{TenantState, TenantStates, Idle, empty_repository, held_of}
use Rattle.tenant_service.specs.Tenants.{AreSound, Stands, Tenants, holding_in, holdings}
use Rattle.tenant_service.proofs.BackLemmas.{back-loaded, text-saved}
use Rattle.tenant_service.proofs.SoundLemmas.{last-sound, sound-nil}

-- ---- why a tenant is not extracted

module _ (given : List ℕ) (all : TenantStates) where
  pub refused-name : is_tenant_name given ≡ false
      → extract_refusal given all ≡ Some fault.BadTenantName
  refused-name bad = rw bad refl

  pub refused-stream : (name : List ℕ) → is_tenant_name given ≡ true → name ≡ given
      → is_some (with_stream (held_of name all)) ≡ true
      → extract_refusal given all ≡ Some fault.StreamIsOpen
  refused-stream name good is busy =
      rw (good, sym (ap (λ (n : List ℕ). is_some (with_stream (held_of n all))) is) ∙ busy) refl

  pub refused-nothing : (name : List ℕ) → is_tenant_name given ≡ true → name ≡ given
      → is_some (with_stream (held_of name all)) ≡ false → extract_refusal given all ≡ None
  refused-nothing name good is idle =
      rw (good, sym (ap (λ (n : List ℕ). is_some (with_stream (held_of n all))) is) ∙ idle) refl

-- what a save wrote is extracted
pub extracts-saved : (digest : List ℕ → List ℕ) (all : TenantStates) (given name : List ℕ)
    (o : Option ExtractFault) (old new : Device) → o ≡ None → name ≡ given
    → Saves old (Ok tt) new (file_text digest (saved_of (only name all)))
    → Extracts o old (Ok tt) new (file_text digest (saved_of (only given all)))
extracts-saved digest all given name o old new none same saves =
    subst (λ (p : Option ExtractFault). Extracts p old (Ok tt) new (file_text digest (saved_of (only given all)))) (sym none)
    (subst (λ (n : List ℕ). Saves old (Ok tt) new (file_text digest (saved_of (only n all)))) same saves)

-- ---- the tenant of a name among those that are lent

abbrev pub lent_under : List ℕ → List TenantView → List TenantView
lent_under name lent = filter (λ v. bytes_eq name v.name.now) lent

abbrev pub under : List ℕ → Tenants → Tenants
under name es = filter (λ e. bytes_eq name e.0) es

pub parts-under : (name : List ℕ) (es : Tenants) (lent : List TenantView)
    → map parts_lent lent ≡ map parts_of es
    → map parts_lent (lent_under name lent) ≡ map parts_of (under name es)
parts-under name [] [] is = refl
parts-under name (e ∷ es) [] is = cc is
parts-under name [] (v ∷ lent) is = cc is
parts-under name (e ∷ es) (v ∷ lent) is =
    by (bytes_eq name v.name.now) (bytes_eq name e.0) (ap (λ (p : Parts). bytes_eq name p.name) first)
    (parts-under name es lent rest)
  where
    first : parts_lent v ≡ parts_of e
    first = cc is

    rest : map parts_lent lent ≡ map parts_of es
    rest = cc is

    by : (a b : Bool) → a ≡ b
        → map parts_lent (lent_under name lent) ≡ map parts_of (under name es)
        → map parts_lent (cond a (v ∷ lent_under name lent) (lent_under name lent))
        ≡ map parts_of (cond b (e ∷ under name es) (under name es))
    by true true same later = λ i. first i ∷ later i
    by false false same later = later
    by true false same later = cc same
    by false true same later = cc same

pub take-over : {X : Type 0} (xs : List X) (n : ℕ) → length xs ≤ n → take n xs ≡ xs
take-over [] zero past = refl
take-over [] (suc n) past = refl
take-over (x ∷ xs) zero past = absurd (omega (arith, past))
take-over (x ∷ xs) (suc n) past = ap (λ ys. x ∷ ys) (take-over xs n (omega (arith, past)))

pub all-under : (name : List ℕ) (es : Tenants) (lent items found : List TenantView) (n : ℕ)
    → map parts_lent lent ≡ map parts_of es → items ≡ lent → length items ≤ n
    → found ≡ lent_under name (take n items)
    → map parts_lent found ≡ map parts_of (under name es)
all-under name es lent items found n is same past are =
    ap (map parts_lent) (are ∙ ap (lent_under name) (take-over items n past ∙ same))
    ∙ parts-under name es lent is

pub stands-under : (digest : List ℕ → List ℕ) (p : Cells) (name : List ℕ) (es : Tenants)
    → AllByRecursion (λ e. Stands digest p e.1) es
    → AllByRecursion (λ e. Stands digest p e.1) (under name es)
stands-under digest p name [] all = tt
stands-under digest p name (e ∷ es) all = by (bytes_eq name e.0) (stands-under digest p name es all.1)
  where
    by : (b : Bool) → AllByRecursion (λ e. Stands digest p e.1) (under name es)
        → AllByRecursion (λ e. Stands digest p e.1) (cond b (e ∷ under name es) (under name es))
    by true rest = (all.0, rest)
    by false rest = rest

pub holdings-under : (p : Cells) (name : List ℕ) (es : Tenants)
    → holdings p (under name es) ≡ only name (holdings p es)
holdings-under p name [] = refl
holdings-under p name (e ∷ es) = by (bytes_eq name e.0) (holdings-under p name es)
  where
    by : (b : Bool) → holdings p (under name es) ≡ only name (holdings p es)
        → holdings p (cond b (e ∷ under name es) (under name es))
        ≡ cond b ((e.0, holding_in p e.1) ∷ only name (holdings p es)) (only name (holdings p es))
    by true rest = ap (λ (xs : TenantStates). (e.0, holding_in p e.1) ∷ xs) rest
    by false rest = rest

-- ---- one tenant of all

only-none : (name : List ℕ) (all : TenantStates) → lookup (bytes_eq name) all ≡ None
    → only name all ≡ []
only-none name [] none = refl
only-none name (e ∷ all) none = by (bytes_eq name e.0) none (only-none name all)
  where
    by : (b : Bool) → cond b (Some e.1) (lookup (bytes_eq name) all) ≡ None
        → (lookup (bytes_eq name) all ≡ None → only name all ≡ [])
        → cond b (e ∷ only name all) (only name all) ≡ []
    by true some later = cc some
    by false none later = later none

absent-later : (name : List ℕ) (all : TenantStates)
    → AllByRecursion (λ y. bytes_eq name y ≡ false) (keys_of all) → lookup (bytes_eq name) all ≡ None
absent-later name [] apart = refl
absent-later name (e ∷ all) apart =
    ap (λ (b : Bool). cond b (Some e.1) (lookup (bytes_eq name) all)) apart.0
    ∙ absent-later name all apart.1

only-some : (name : List ℕ) (all : TenantStates) (h : TenantState)
    → IsDistinct bytes_eq (keys_of all) → lookup (bytes_eq name) all ≡ Some h
    → only name all ≡ (name, h) ∷ []
unfolding IsDistinct
only-some name [] h distinct got = cc got
only-some name (e ∷ all) h distinct got = by (bytes_eq name e.0) refl got (only-some name all h distinct.1)
  where
    by : (b : Bool) → bytes_eq name e.0 ≡ b → cond b (Some e.1) (lookup (bytes_eq name) all) ≡ Some h
        → (lookup (bytes_eq name) all ≡ Some h → only name all ≡ (name, h) ∷ [])
        → cond b (e ∷ only name all) (only name all) ≡ (name, h) ∷ []
    by true here got later =
        let same : name ≡ e.0 = (bytes_eq-Decides name e.0).0 here in
        let value : e.1 ≡ h = cc got in
        let none = only-none name all
        (absent-later name all (subst (λ (n : List ℕ). AllByRecursion (λ y. bytes_eq n y ≡ false) (keys_of all)) (sym same) distinct.0)) in
        λ i. (sym same i, value i) ∷ none i
    by false past got later = later got

name-found : (P : List ℕ → Type 0) (name : List ℕ) (all : TenantStates) (h : TenantState)
    → AllByRecursion P (keys_of all) → lookup (bytes_eq name) all ≡ Some h → P name
name-found P name [] h each got = cc got
name-found P name (e ∷ all) h each got = by (bytes_eq name e.0) refl got (name-found P name all h each.1)
  where
    by : (b : Bool) → bytes_eq name e.0 ≡ b → cond b (Some e.1) (lookup (bytes_eq name) all) ≡ Some h
        → (lookup (bytes_eq name) all ≡ Some h → P name) → P name
    by true here got later = subst P (sym ((bytes_eq-Decides name e.0).0 here)) each.0
    by false past got later = later got

-- This tenant with this repository, and nobody else.
abbrev pub one : List ℕ → Repository → TenantStates
one name repository = (name, Idle repository) ∷ []

nothing-saved : (name : List ℕ) → saved_of (one name empty_repository) ≡ saved_of []
nothing-saved name =
    let same : bytes_eq first_head first_head ≡ true = (bytes_eq-Decides first_head first_head).1 refl in
    ap (λ (b : Bool). listed_by (λ (n : Named). n.tenant) (cond (not b) (record {
      tenant = name;
      repository = empty_repository;
    } ∷ []) [])) same

-- what is extracted goes by what is held at the last checkpoint
pub only-saved : (name : List ℕ) (all : TenantStates) → IsDistinct bytes_eq (keys_of all)
    → saved_of (only name all) ≡ saved_of (one name (last_held (held_of name all)))
unfolding listed_by
only-saved name all distinct = by (lookup (bytes_eq name) all) refl
  where
    by : (o : Option TenantState) → lookup (bytes_eq name) all ≡ o
        → saved_of (only name all)
        ≡ saved_of (one name (last_held (unwrap_or o (Idle empty_repository))))
    by None none = ap saved_of (only-none name all none) ∙ sym (nothing-saved name)
    by (Some h) got = ap saved_of (only-some name all h distinct got)

-- ---- the file of one tenant

no-more : {K : Type 0} (eq : K → K → Bool) (xs : List K) → length (unique_keys eq xs) ≤ length xs
no-more eq [] = omega arith
no-more {K = K} eq (x ∷ xs) = by (is_member eq xs x) (no-more eq xs)
  where
    by : (b : Bool) → length (unique_keys eq xs) ≤ length xs
        → length (cond b (unique_keys eq xs) (x ∷ unique_keys eq xs)) ≤ length (x ∷ xs)
    by true less = omega (arith, less)
    by false less = omega (arith, less)

module _ (digest : List ℕ → List ℕ) (name : List ℕ) (repository : Repository)
    (named : is_tenant_name name ≡ true) (sound : IsSoundRepository digest repository) where
  sound-one : AreSound digest (one name repository)
  sound-one other = by (bytes_eq other name)
    where
      by : (b : Bool) → IsSoundTenantState digest
          (unwrap_or (cond b (Some (Idle repository)) None) (Idle empty_repository))
      by true = sound
      by false = empty_is_sound digest

  distinct-one : IsDistinct bytes_eq (keys_of (one name repository))
  unfolding IsDistinct
  distinct-one = (tt, tt)

  few-one : length (unique_keys same_content (held_contents (one name repository))) < 2 ^ 64
  few-one =
      let cs = map (λ (o : Object). o.content) repository.objects in
      let same : length (unique_keys same_content (cs ++ [])) ≡ length (unique_keys same_content cs) =
      ap (λ (xs : List Content). length (unique_keys same_content xs)) (append-nil cs) in
      let less = no-more same_content cs in
      let size = length-map repository.objects (λ (o : Object). o.content) in
      let few = sound.objects.few in
      omega (arith, same, less, size, few)

  pub text-one : IsTextOf digest (saved_of (one name repository))
      (file_text digest (saved_of (one name repository)))
  text-one =
      text-saved digest (one name repository) (named, tt) distinct-one sound-one (omega arith) few-one

  pub back-one : AnswersNames digest → (loaded : TenantStates)
      → IsLoadedFrom digest (file_text digest (saved_of (one name repository))) loaded
      → (other : List ℕ) → held_of other loaded
      ≡ Idle (last_held (held_of other (one name repository)))
  back-one answers loaded from other =
      back-loaded digest (one name repository) (named, tt) distinct-one sound-one answers text-one
      loaded from other

module _ (digest : List ℕ → List ℕ) where
  text-none : IsTextOf digest (saved_of []) (file_text digest (saved_of []))
  unfolding IsDistinct
  text-none =
      text-saved digest [] tt tt (sound-nil digest) (omega arith) (omega arith)

  back-none : AnswersNames digest → (loaded : TenantStates)
      → IsLoadedFrom digest (file_text digest (saved_of [])) loaded → (other : List ℕ)
      → held_of other loaded ≡ Idle empty_repository
  unfolding IsDistinct
  back-none answers loaded from other =
      back-loaded digest [] tt tt (sound-nil digest) answers text-none loaded from other

-- ---- what is extracted comes back

module _ (digest : List ℕ → List ℕ) (all : TenantStates)
    (names : AllByRecursion (λ name. is_tenant_name name ≡ true) (keys_of all))
    (distinct : IsDistinct bytes_eq (keys_of all)) (sound : AreSound digest all) (name : List ℕ) where
  abbrev Text : List Named → Type 0
  Text ns = IsTextOf digest ns (file_text digest ns)

  abbrev Back : List Named → Type 0
  Back ns = AnswersNames digest → (loaded : TenantStates)
      → IsLoadedFrom digest (file_text digest ns) loaded → (other : List ℕ)
      → held_of other loaded
      ≡ Idle (last_held (held_of other (one name (last_held (held_of name all)))))

  last : IsSoundRepository digest (last_held (held_of name all))
  last = last-sound digest (held_of name all) (sound name)

  -- of a tenant that was never seen nothing is saved
  unseen : lookup (bytes_eq name) all ≡ None
      → (saved_of (only name all) ≡ saved_of []) × (last_held (held_of name all) ≡ empty_repository)
  unseen none = (
    ap saved_of (only-none name all none),
    ap (λ (o : Option TenantState). last_held (unwrap_or o (Idle empty_repository))) none,
  )

  empty-one : (other : List ℕ) → held_of other (one name empty_repository) ≡ Idle empty_repository
  empty-one other = by (bytes_eq other name)
    where
      by : (b : Bool) → unwrap_or (cond b (Some (Idle empty_repository)) None) (Idle empty_repository)
          ≡ Idle empty_repository
      by true = refl
      by false = refl

  pub extracted-text : Text (saved_of (only name all))
  extracted-text = by (lookup (bytes_eq name) all) refl
    where
      by : (o : Option TenantState) → lookup (bytes_eq name) all ≡ o → Text (saved_of (only name all))
      by None none = subst Text (sym (unseen none).0) (text-none digest)
      by (Some h) got =
          subst Text (sym (only-saved name all distinct))
          (text-one digest name (last_held (held_of name all))
          (name-found (λ n. is_tenant_name n ≡ true) name all h names got) last)

  extracted-back : Back (saved_of (only name all))
  extracted-back = by (lookup (bytes_eq name) all) refl
    where
      by : (o : Option TenantState) → lookup (bytes_eq name) all ≡ o → Back (saved_of (only name all))
      by None none =
          subst Back (sym (unseen none).0)
          (λ answers loaded from other. back-none digest answers loaded from other
          ∙ ap (λ (h : TenantState). Idle (last_held h)) (sym (empty-one other))
          ∙ ap (λ (r : Repository). Idle (last_held (held_of other (one name r)))) (sym (unseen none).1))
      by (Some h) got =
          subst Back (sym (only-saved name all distinct))
          (back-one digest name (last_held (held_of name all))
          (name-found (λ n. is_tenant_name n ≡ true) name all h names got) last)

  module _ (answers : AnswersNames digest) (loaded : TenantStates)
      (from : IsLoadedFrom digest (file_text digest (saved_of (only name all))) loaded) where
    pub extracted-own : held_of name loaded ≡ Idle (last_held (held_of name all))
    extracted-own =
        extracted-back answers loaded from name
        ∙ ap (λ (b : Bool). Idle (last_held (unwrap_or (cond b
        (Some (Idle (last_held (held_of name all)))) None) (Idle empty_repository))))
        ((bytes_eq-Decides name name).1 refl)

    pub extracted-others : (other : List ℕ) → bytes_eq other name ≡ false
        → held_of other loaded ≡ Idle empty_repository
    extracted-others other apart =
        extracted-back answers loaded from other
        ∙ ap (λ (b : Bool). Idle (last_held (unwrap_or (cond b
        (Some (Idle (last_held (held_of name all)))) None) (Idle empty_repository)))) apart

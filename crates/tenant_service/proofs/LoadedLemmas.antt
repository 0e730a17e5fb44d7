-- Tenants that were loaded make a service, which has just their repositories.
use Rattle.std.proofs.Common.{◌≡◌, ℕ, ◌+◌, Bool, true, false, cond, List, [], ◌∷◌, ◌++◌, map, Option, None, Some, Ok, Err, refl, sym, ap, subst, ◌∙◌, true≢false, append_assoc}
use Rattle.std.specs.Global.{Vec}
use Rattle.std.specs.List.{AllByRecursion, IsDistinct}
use Rattle.std.specs.Map.{keys_of, lookup}
use Rattle.std.specs.Option.{option_map, unwrap_or}
use Rattle.std.specs.Str.{bytes_eq}
use Rattle.std.specs.declared.cmp.Ordering.TheVariants.{Less}
use Rattle.std.proofs.lemmas.Cmp.{nat_list_cmp_total, tied_itself}
use Rattle.std.proofs.lemmas.List.Sums.{sum_by-cons}
use Rattle.std.proofs.lemmas.Slice.Eq.{bytes_eq-Decides}
use Rattle.byte_devices.specs.Device.{Device}
use Rattle.git_model.specs.Repository.{Repository}
use Rattle.content_pool.specs.Pool.{Cells}
use Rattle.tenant_refs.specs.TenantName.{is_tenant_name}
use Rattle.tenant_tables.specs.View.{held}
use Rattle.import_session.specs.Sound.{IsSoundRepository}
use Rattle.session_laws.proofs.SoundLemmas.{empty_is_sound}
use Rattle.pool_file_format.specs.declared.fault.Fault.{Fault}
use Rattle.pool_file_format.specs.declared.fault.Fault.TheVariants as fault
use Rattle.pool_file_checks.specs.FileRefs.{AreRising}
use Rattle.pool_file_checks.specs.Repositories.{Named}
use Rattle.pool_file_checks.specs.Saving.{IsGood}
use Rattle.pool_file_checks.proofs.Keys.{key_cmp}
use Rattle.pool_file_checks.proofs.Rising.{rising_first, rising_rest}
use Rattle.pool_file.specs.Loading as loading
use Rattle.pool_file.specs.Loading.{loaded_repositories, named_in, AreTenants, IsTenant}
use Rattle.pool_file.specs.declared.tenant.Tenant.{Tenant as Loaded}
use Rattle.pool_file.proofs.Answered.{blamed_ok, blamed_err, blamed_memory}
use Rattle.tenant_service.specs.declared.tenant.Tenant.{Tenant}
use Rattle.tenant_service.specs.Alone.{Closed}
use Rattle.tenant_service.specs.Entries.{entry_of, AreAll}
use Rattle.tenant_service.specs.TenantState.{TenantState, Idle, empty_repository}
use Rattle.tenant_service.specs.Saved.{repository_of, HasJust, LoadsAs, LoadsText, LoadsEach, Loads}
use Rattle.tenant_service.specs.Tenants.{Tenants, Stands, Accounts, IsService, holding_in, holdings, all_held}

-- ---- what is held

abbrev repositories : List Named → List (List ℕ × Repository)
repositories all = map (λ n. (n.tenant, n.repository)) all

lookup-loaded : (p : Cells) (tenant : List ℕ) (ts : List Loaded)
    → lookup (bytes_eq tenant) (holdings p (map entry_of ts))
    ≡ option_map Idle (lookup (bytes_eq tenant) (repositories (map (named_in p) ts)))
lookup-loaded p tenant [] = refl
lookup-loaded p tenant (t ∷ ts) = by (bytes_eq tenant t.name) (lookup-loaded p tenant ts)
  where
    by : (b : Bool) → lookup (bytes_eq tenant) (holdings p (map entry_of ts))
        ≡ option_map Idle (lookup (bytes_eq tenant) (repositories (map (named_in p) ts)))
        → cond b (Some (holding_in p (entry_of t).1))
        (lookup (bytes_eq tenant) (holdings p (map entry_of ts)))
        ≡ option_map Idle (cond b (Some (named_in p t).repository)
        (lookup (bytes_eq tenant) (repositories (map (named_in p) ts))))
    by true rest = refl
    by false rest = rest

idle-or : (o : Option Repository)
    → unwrap_or (option_map Idle o) (Idle empty_repository) ≡ Idle (unwrap_or o empty_repository)
idle-or None = refl
idle-or (Some r) = refl

-- of each tenant its own repository
pub has-loaded : (p : Cells) (ts : List Loaded) → HasJust (loaded_repositories p ts) (holdings p (map entry_of ts))
unfolding loaded_repositories
has-loaded p ts tenant =
    ap (λ (o : Option TenantState). unwrap_or o (Idle empty_repository)) (lookup-loaded p tenant ts)
    ∙ idle-or (lookup (bytes_eq tenant) (repositories (map (named_in p) ts)))

-- ---- a service

sound-good : (digest : List ℕ → List ℕ) (r : Repository) → IsGood digest r
    → IsSoundRepository digest r
sound-good digest r good = record { objects = good.objects; trees = good.trees; refs = good.refs }

sound-or : (digest : List ℕ → List ℕ) (p : Cells) (tenant : List ℕ) (ts : List Loaded)
    → AllByRecursion (IsTenant digest p) ts
    → IsSoundRepository digest (repository_of tenant (map (named_in p) ts))
sound-or digest p tenant [] all = empty_is_sound digest
sound-or digest p tenant (t ∷ ts) all =
    by (bytes_eq tenant t.name) (sound-or digest p tenant ts all.1)
  where
    by : (b : Bool) → IsSoundRepository digest (repository_of tenant (map (named_in p) ts))
        → IsSoundRepository digest (unwrap_or (cond b (Some (named_in p t).repository)
        (lookup (bytes_eq tenant) (repositories (map (named_in p) ts)))) empty_repository)
    by true rest = sound-good digest (named_in p t).repository all.0.good
    by false rest = rest

names-loaded : (digest : List ℕ → List ℕ) (p : Cells) (ts : List Loaded)
    → AllByRecursion (IsTenant digest p) ts
    → AllByRecursion (λ e. is_tenant_name e.0 ≡ true) (map entry_of ts)
names-loaded digest p [] all = tt
names-loaded digest p (t ∷ ts) all = (all.0.name, names-loaded digest p ts all.1)

stands-loaded : (digest : List ℕ → List ℕ) (p : Cells) (ts : List Loaded)
    → AllByRecursion (IsTenant digest p) ts
    → AllByRecursion (λ e. Stands digest p e.1) (map entry_of ts)
stands-loaded digest p [] all = tt
stands-loaded digest p (t ∷ ts) all = (
  record { entries = all.0.stands; settled = all.0.committed; opened = tt; files = tt; chain = tt },
  stands-loaded digest p ts all.1,
)

counts-loaded : (ts : List Loaded) (s : ℕ) → loading.all_held ts s ≡ all_held (map entry_of ts) s
counts-loaded [] s = refl
counts-loaded (t ∷ ts) s =
    sum_by-cons (λ (x : Loaded). held x.table.entries s) t ts
    ∙ ap (λ n. held t.table.entries s + n) (counts-loaded ts s)
    ∙ sym (sum_by-cons (λ (x : List ℕ × Tenant). held x.1.table.entries s) (entry_of t)
    (map entry_of ts))

module _ (digest : List ℕ → List ℕ) (p : Cells) (ts : List Loaded)
    (all : AreTenants digest p ts) where
  accounts-loaded : Accounts digest p (map entry_of ts)
  accounts-loaded = record {
    names = names-loaded digest p ts all.each;
    stands = stands-loaded digest p ts all.each;
    counts = λ s. all.counts s ∙ counts-loaded ts s;
  }

  pub service-loaded : IsService digest p (map entry_of ts)
  unfolding loaded_repositories
  service-loaded = record {
    accounts = accounts-loaded;
    led = λ tenant.
        let r : Repository = repository_of tenant (loaded_repositories p ts) in (
          Closed r,
          rw (has-loaded p ts tenant) refl,
        );
    sound = λ tenant.
        rw (has-loaded p ts tenant)
        (sound-or digest p tenant ts all.each);
  }

-- ---- names that rise are distinct

apart : (x y : List ℕ) → key_cmp x y ≡ Less → bytes_eq x y ≡ false
apart x y less = by (bytes_eq x y) refl
  where
    by : (b : Bool) → bytes_eq x y ≡ b → b ≡ false
    by true same =
        let itself : key_cmp x x ≡ Less =
        subst (λ (z : List ℕ). key_cmp x z ≡ Less) (sym ((bytes_eq-Decides x y).0 same)) less in
        absurd (let w = sym (tied_itself nat_list_cmp_total x) ∙ itself in cc)
    by false other = refl

apart-later : (x last : List ℕ) (xs : List (List ℕ)) → key_cmp x last ≡ Less
    → AreRising (Some last) xs → AllByRecursion (λ y. bytes_eq x y ≡ false) xs
apart-later x last [] less rising = tt
apart-later x last (y ∷ ys) less rising =
    let step : key_cmp x y ≡ Less =
    nat_list_cmp_total.trans x last y less (rising_first (Some last) y ys rising) in
    (apart x y step, apart-later x y ys step (rising_rest (Some last) y ys rising))

apart-first : (x : List ℕ) (xs : List (List ℕ)) → AreRising (Some x) xs
    → AllByRecursion (λ y. bytes_eq x y ≡ false) xs
apart-first x [] rising = tt
apart-first x (y ∷ ys) rising =
    let step : key_cmp x y ≡ Less = rising_first (Some x) y ys rising in
    (apart x y step, apart-later x y ys step (rising_rest (Some x) y ys rising))

pub distinct-rising : (last : Option (List ℕ)) (xs : List (List ℕ)) → AreRising last xs
    → IsDistinct bytes_eq xs
unfolding IsDistinct
distinct-rising last [] rising = tt
distinct-rising last (x ∷ xs) rising =
    let rest = rising_rest last x xs rising in
    (apart-first x xs rest, distinct-rising (Some x) xs rest)

-- ---- one tenant after the other is taken in

keys-loaded : (ts : List Loaded) → keys_of (map entry_of ts) ≡ map (λ t. t.name) ts
keys-loaded [] = refl
keys-loaded (t ∷ ts) = ap (λ (names : List (List ℕ)). t.name ∷ names) (keys-loaded ts)

among : (P : List ℕ → Type 0) (front back : Tenants) (e : List ℕ × Tenant)
    → AllByRecursion P (keys_of (front ++ e ∷ back)) → P e.0
among P [] back e all = all.0
among P (x ∷ front) back e all = among P front back e all.1

absent-front : (front back : Tenants) (e : List ℕ × Tenant)
    → IsDistinct bytes_eq (keys_of (front ++ e ∷ back)) → lookup (bytes_eq e.0) front ≡ None
unfolding IsDistinct
absent-front [] back e distinct = refl
absent-front (x ∷ front) back e distinct =
    by (bytes_eq e.0 x.0) refl (absent-front front back e distinct.1)
  where
    by : (b : Bool) → bytes_eq e.0 x.0 ≡ b → lookup (bytes_eq e.0) front ≡ None
        → cond b (Some x.1) (lookup (bytes_eq e.0) front) ≡ None
    by true same rest =
        let other = among (λ y. bytes_eq x.0 y ≡ false) front back e distinct.0 in
        let back = (bytes_eq-Decides x.0 e.0).1 (sym ((bytes_eq-Decides e.0 x.0).0 same)) in
        absurd (true≢false (sym back ∙ other))
    by false other rest = rest

pub new-name : (taken : Tenants) (t : Loaded) (rest all : List Loaded)
    → AreAll taken (t ∷ rest) all → IsDistinct bytes_eq (map (λ t. t.name) all)
    → lookup (bytes_eq t.name) taken ≡ None
new-name taken t rest all are distinct =
    absent-front taken (map entry_of rest) (entry_of t)
    (rw (ap keys_of are ∙ keys-loaded all) distinct)

pub all-next : (taken more : Tenants) (t : Loaded) (rest all : List Loaded)
    → AreAll taken (t ∷ rest) all → more ≡ taken ++ entry_of t ∷ [] → AreAll more rest all
all-next taken more t rest all are is =
    ap (λ (es : Tenants). es ++ map entry_of rest) is
    ∙ append_assoc taken (entry_of t ∷ []) (map entry_of rest) ∙ are

-- ---- what is answered

loads-as : (digest : List ℕ → List ℕ) (known new : Option (List ℕ)) (p : Cells)
    (ts : List Loaded) → loading.LoadsAs digest known (Ok (loaded_repositories p ts)) new
    → LoadsAs digest known (Ok (holdings p (map entry_of ts))) new
loads-as digest None new p ts h = tt
loads-as digest (Some bytes) new p ts h =
    (record { all = loaded_repositories p ts; read = h.0; has = has-loaded p ts }, h.1)

loads-text : (digest : List ℕ → List ℕ) (known : Option (List ℕ)) (p : Cells)
    (ts : List Loaded) → loading.LoadsText digest known (Ok (loaded_repositories p ts))
    → LoadsText digest known (Ok (holdings p (map entry_of ts)))
loads-text digest None p ts h = tt
loads-text digest (Some bytes) p ts h =
    record { all = loaded_repositories p ts; text = h; has = has-loaded p ts }

loads-each : (digest : List ℕ → List ℕ) (known : Option (List ℕ)) (p : Cells)
    (ts : List Loaded) → loading.LoadsEach digest known (Ok (loaded_repositories p ts))
    → LoadsEach digest known (Ok (holdings p (map entry_of ts)))
loads-each digest None p ts h = tt
loads-each digest (Some bytes) p ts h = λ all text.
    rw (← (h all text))
    (has-loaded p ts)

pub loads-service : (digest : List ℕ → List ℕ) (bound : ℕ) (old new : Device) (p : Cells)
    (loaded : Vec Loaded) → loading.Loads digest bound old (Ok (p, loaded)) new
    → Loads digest bound old (Ok (holdings p (map entry_of loaded.items))) new
loads-service digest bound old new p loaded h = record {
  exact = loads-as digest old.known new.known p loaded.items h.exact;
  found = loads-text digest old.known p loaded.items h.found;
  only = loads-each digest old.known p loaded.items h.only;
  cause = blamed_ok bound old new (loaded_repositories p loaded.items) _ h.cause;
}

-- ---- a fault

as-fault : (digest : List ℕ → List ℕ) (known new : Option (List ℕ)) (e : Fault)
    → loading.LoadsAs digest known (Err e) new → LoadsAs digest known (Err e) new
as-fault digest None new e h = tt
as-fault digest (Some bytes) new (fault.Refused r) h = h
as-fault digest (Some bytes) new fault.Device h = tt
as-fault digest (Some bytes) new fault.Memory h = tt

text-fault : (digest : List ℕ → List ℕ) (known : Option (List ℕ)) (e : Fault)
    → LoadsText digest known (Err e)
text-fault digest None e = tt
text-fault digest (Some bytes) e = tt

each-fault : (digest : List ℕ → List ℕ) (known : Option (List ℕ)) (e : Fault)
    → loading.LoadsEach digest known (Err e) → LoadsEach digest known (Err e)
each-fault digest None e h = tt
each-fault digest (Some bytes) (fault.Refused r) h = λ all text. h all text
each-fault digest (Some bytes) fault.Device h = λ all text. tt
each-fault digest (Some bytes) fault.Memory h = λ all text. tt

pub loads-fault : (digest : List ℕ → List ℕ) (bound : ℕ) (old new : Device) (e : Fault)
    → loading.Loads digest bound old (Err e) new → Loads digest bound old (Err e) new
loads-fault digest bound old new e h = record {
  exact = as-fault digest old.known new.known e h.exact;
  found = text-fault digest old.known e;
  only = each-fault digest old.known e h.only;
  cause = blamed_err bound old new e h.cause;
}

as-memory : (digest : List ℕ → List ℕ) (known new : Option (List ℕ))
    → LoadsAs digest known (Err fault.Memory) new
as-memory digest None new = tt
as-memory digest (Some bytes) new = tt

each-memory : (digest : List ℕ → List ℕ) (known : Option (List ℕ))
    → LoadsEach digest known (Err fault.Memory)
each-memory digest None = tt
each-memory digest (Some bytes) = λ all text. tt

-- What was loaded finds no room.
pub loads-no-room : (digest : List ℕ → List ℕ) (bound : ℕ) (old new : Device)
    (x : Cells × Vec Loaded) → loading.Loads digest bound old (Ok x) new
    → Loads digest bound old (Err fault.Memory) new
loads-no-room digest bound old new x h = record {
  exact = as-memory digest old.known new.known;
  found = text-fault digest old.known fault.Memory;
  only = each-memory digest old.known;
  cause = blamed_memory bound old new (loaded_repositories x.0 x.1.items) h.cause;
}

-- A stream that is given up, and a tenant that is removed.
use Rattle.std.proofs.Common.{◌≡◌, ℕ, Bool, true, false, cond, List, [], ◌∷◌, ◌++◌, not, Option, None, Some, is_some, refl, sym, ap, subst, ◌∙◌, arith, true≢false}
use Rattle.std.specs.Prelude.{IsSome}
use Rattle.std.specs.Map.{lookup, remove_entry, set_value}
use Rattle.std.specs.Option.{option_map, unwrap_or}
use Rattle.std.specs.Str.{bytes_eq}
use Rattle.std.proofs.lemmas.List.{map-append}
use Rattle.std.proofs.lemmas.List.Sums.{sum_by-append}
use Rattle.std.proofs.lemmas.Slice.Eq.{bytes_eq-Decides}
use Rattle.git_model.specs.RefStore.{no_refs}
use Rattle.git_model.specs.Repository.{Repository}
use Rattle.content_pool.specs.Pool.{Cells}
use Rattle.tenant_refs.specs.TenantName.{is_tenant_name}
use Rattle.tenant_tables.specs.View.{held}
use Rattle.tenant_tables.specs.IsBackedBy.{PreservesOthers}
use Rattle.tenant_tables.proofs.HoldLemmas.{held-nil}
use Rattle.tenant_tables.proofs.TableLemmas.{IsBackedBy-nil}
use Rattle.import_session.specs.Sound.{IsSoundRepository}
use Rattle.service_steps.specs.declared.answer.Answer.{Answer}
use Rattle.service_steps.specs.declared.answer.Answer.TheVariants as answer
use Rattle.service_steps.specs.declared.fault.ServiceFault.{ServiceFault}
use Rattle.service_steps.specs.declared.fault.ServiceFault.TheVariants as fault
use Rattle.service_steps.specs.Faults.{code_of}
use Rattle.session_laws.proofs.SoundLemmas.{empty_is_sound}
use Rattle.tenant_service.specs.declared.tenant.OpenStream.TheVariants as phase
use Rattle.tenant_service.specs.declared.tenant.Tenant.{Tenant}
use Rattle.tenant_service.specs.Alone.{Closed}
use Rattle.tenant_service.specs.TenantState.{TenantState, TenantStates, Idle, Busy, Represents, empty_repository, held_of}
use Rattle.tenant_service.specs.Soundness.{IsSoundTenantState}
use Rattle.tenant_service.specs.HeldObjects.{last_held}
use Rattle.tenant_service.specs.Tenants.{Tenants, Stands, Accounts, AreLed, AreSound, holding_in, holdings}
use Rattle.tenant_service.specs.OneStep.{store}
use Rattle.tenant_service.specs.Removing.{Abandons, Removes, abandon_refusal, all_but, answer_unless, removal_refusal, with_stream, without_stream}
use Rattle.tenant_service.proofs.AccountLemmas.{all_parts, all_whole, held-among, changed, found, Exchanged, exchanged, lookup-holdings, bad-missing, held-found, held-missing}

-- ---- what is always true of a service, where one tenant is left without a stream

module _ (digest : List ℕ → List ℕ) (name : List ℕ) (before after : TenantStates)
    (others : (other : List ℕ) → bytes_eq other name ≡ false → held_of other after ≡ held_of other before) where
  pub led-left : (repository : Repository) → held_of name after ≡ Idle repository
      → AreLed digest before → AreLed digest after
  led-left repository own led tenant = by (bytes_eq tenant name) refl
    where
      by : (b : Bool) → bytes_eq tenant name ≡ b → (state : _) × Represents digest state (held_of tenant after)
      by true here = (
        Closed repository,
        rw (ap (λ (n : List ℕ). held_of n after) ((bytes_eq-Decides tenant name).0 here) ∙ own) refl,
      )
      by false apart = rw (others tenant apart) (led tenant)

  pub sound-left : (repository : Repository) → held_of name after ≡ Idle repository
      → IsSoundRepository digest repository → AreSound digest before → AreSound digest after
  sound-left repository own good sound tenant = by (bytes_eq tenant name) refl
    where
      by : (b : Bool) → bytes_eq tenant name ≡ b → IsSoundTenantState digest (held_of tenant after)
      by true here =
          rw (ap (λ (n : List ℕ). held_of n after) ((bytes_eq-Decides tenant name).0 here) ∙ own) good
      by false apart = rw (others tenant apart) (sound tenant)

-- ---- all but one

-- a list without the name
pub all_but-absent : (name : List ℕ) (all : TenantStates) → lookup (bytes_eq name) all ≡ None → all_but name all ≡ all
all_but-absent name [] none = refl
all_but-absent name (e ∷ all) none = by (bytes_eq name e.0) none (all_but-absent name all)
  where
    by : (b : Bool) → cond b (Some e.1) (lookup (bytes_eq name) all) ≡ None
        → (lookup (bytes_eq name) all ≡ None → all_but name all ≡ all)
        → cond (not b) (e ∷ all_but name all) (all_but name all) ≡ e ∷ all
    by true none later = cc none
    by false none later = ap (λ (xs : TenantStates). e ∷ xs) (later none)

-- its entry does not count
all_but-past : (name : List ℕ) (xs ys : TenantStates) (x : TenantState)
    → all_but name (xs ++ (name, x) ∷ ys) ≡ all_but name (xs ++ ys)
all_but-past name [] ys x =
    ap (λ (b : Bool). cond (not b) ((name, x) ∷ all_but name ys) (all_but name ys)) ((bytes_eq-Decides name name).1 refl)
all_but-past name (e ∷ xs) ys x =
    ap (λ (rest : TenantStates). cond (not (bytes_eq name e.0)) (e ∷ rest) rest) (all_but-past name xs ys x)

pub held-gone : (name : List ℕ) (all : TenantStates) → held_of name (all_but name all) ≡ Idle empty_repository
held-gone name [] = refl
held-gone name (e ∷ all) = by (bytes_eq name e.0) refl (held-gone name all)
  where
    by : (b : Bool) → bytes_eq name e.0 ≡ b → held_of name (all_but name all) ≡ Idle empty_repository
        → held_of name (cond (not b) (e ∷ all_but name all) (all_but name all)) ≡ Idle empty_repository
    by true here rest = rest
    by false past rest =
        ap (λ (b : Bool). unwrap_or (cond b (Some e.1) (lookup (bytes_eq name) (all_but name all))) (Idle empty_repository)) past ∙ rest

pub held-beside : (name other : List ℕ) (all : TenantStates) → bytes_eq other name ≡ false
    → held_of other (all_but name all) ≡ held_of other all
held-beside name other [] apart = refl
held-beside name other (e ∷ all) apart = by (bytes_eq name e.0) refl (held-beside name other all apart)
  where
    by : (b : Bool) → bytes_eq name e.0 ≡ b → held_of other (all_but name all) ≡ held_of other all
        → held_of other (cond (not b) (e ∷ all_but name all) (all_but name all)) ≡ held_of other (e ∷ all)
    by true here rest =
        let past : bytes_eq other e.0 ≡ false =
        ap (bytes_eq other) (sym ((bytes_eq-Decides name e.0).0 here)) ∙ apart in
        rest ∙ ap (λ (b : Bool). unwrap_or (cond b (Some e.1) (lookup (bytes_eq other) all)) (Idle empty_repository)) (sym past)
    by false past rest = also (bytes_eq other e.0) rest
      where
        also : (b : Bool) → held_of other (all_but name all) ≡ held_of other all
            → unwrap_or (cond b (Some e.1) (lookup (bytes_eq other) (all_but name all))) (Idle empty_repository)
            ≡ unwrap_or (cond b (Some e.1) (lookup (bytes_eq other) all)) (Idle empty_repository)
        also true rest = refl
        also false rest = rest

-- ---- a tenant that is taken out

remove-past : (name : List ℕ) (front back : Tenants) (t : Tenant) → lookup (bytes_eq name) front ≡ None
    → remove_entry (bytes_eq name) (front ++ (name, t) ∷ back) ≡ front ++ back
remove-past name [] back t none =
    ap (λ (b : Bool). cond b back ((name, t) ∷ remove_entry (bytes_eq name) back)) ((bytes_eq-Decides name name).1 refl)
remove-past name (e ∷ front) back t none = by (bytes_eq name e.0) none (remove-past name front back t)
  where
    by : (b : Bool) → cond b (Some e.1) (lookup (bytes_eq name) front) ≡ None
        → (lookup (bytes_eq name) front ≡ None
        → remove_entry (bytes_eq name) (front ++ (name, t) ∷ back) ≡ front ++ back)
        → cond b (front ++ (name, t) ∷ back) (e ∷ remove_entry (bytes_eq name) (front ++ (name, t) ∷ back))
        ≡ e ∷ (front ++ back)
    by true none later = cc none
    by false none later = ap (λ (xs : Tenants). e ∷ xs) (later none)

-- a tenant that holds nothing
abbrev empty_tenant : Tenant
empty_tenant = record {
  table = record { entries = []; committed = 0 };
  refs = no_refs;
  phase = phase.Closed;
  chain = [];
}

-- the accounts do not need it
accounts-without : (digest : List ℕ → List ℕ) (q : Cells) (front back : Tenants) (name : List ℕ)
    → Accounts digest q (front ++ (name, empty_tenant) ∷ back) → Accounts digest q (front ++ back)
accounts-without digest q front back name h = record {
  names =
      let n = all_parts _ front ((name, empty_tenant) ∷ back) h.names in
      all_whole _ front back n.0 n.1.1;
  stands =
      let n = all_parts _ front ((name, empty_tenant) ∷ back) h.stands in
      all_whole _ front back n.0 n.1.1;
  counts = λ s.
      let a = held-among front back name empty_tenant s in
      let b = sum_by-append (λ (x : List ℕ × Tenant). held x.1.table.entries s) front back in
      let z = held-nil s in
      let c = h.counts s in
      omega arith;
}

pub record Gone (digest : List ℕ → List ℕ) (name : List ℕ) (p q : Cells) (es new : Tenants) : Type 0 where
  pub accounts : Accounts digest q new
  pub left : holdings q new ≡ all_but name (holdings p es)

pub gone : (digest : List ℕ → List ℕ) (name : List ℕ) (p q : Cells) (es new : Tenants) (old : Tenant)
    → Accounts digest p es → lookup (bytes_eq name) es ≡ Some old
    → new ≡ remove_entry (bytes_eq name) es → lookup (bytes_eq name) new ≡ None
    → PreservesOthers p old.table.entries q [] → Gone digest name p q es new
gone digest name p q es new old h got is none leaves =
    let f = found name es old empty_tenant got in
    let c = changed digest p q f.front f.back name old empty_tenant
    (rw (← f.is) h)
    (record { entries = IsBackedBy-nil digest q; settled = refl; opened = tt; files = tt; chain = tt }) leaves in
    let rest : new ≡ f.front ++ f.back =
    is ∙ ap (remove_entry (bytes_eq name)) f.is ∙ remove-past name f.front f.back old f.apart in
    let absent : lookup (bytes_eq name) (holdings q new) ≡ None =
    lookup-holdings q name new ∙ ap (option_map (holding_in q)) none in
    let shows : (r : Cells) (t : Tenant)
    → all_but name (holdings r (f.front ++ (name, t) ∷ f.back)) ≡ all_but name (holdings r f.front ++ holdings r f.back) =
    λ r t. ap (all_but name) (map-append (λ (e : List ℕ × Tenant). (e.0, holding_in r e.1)) f.front ((name, t) ∷ f.back))
    ∙ all_but-past name (holdings r f.front) (holdings r f.back) (holding_in r t) in
    record {
      accounts = rw rest (accounts-without digest q f.front f.back name c.accounts);
      left =
          sym (all_but-absent name (holdings q new) absent)
          ∙ ap (λ (xs : Tenants). all_but name (holdings q xs)) rest
          ∙ ap (all_but name) (map-append (λ (e : List ℕ × Tenant). (e.0, holding_in q e.1)) f.front f.back)
          ∙ sym (shows q empty_tenant)
          ∙ ap (all_but name) c.shown
          ∙ all_but-past name (holdings p f.front) (holdings p f.back) (holding_in q empty_tenant)
          ∙ sym (shows p old)
          ∙ ap (λ (xs : Tenants). all_but name (holdings p xs)) (sym f.is);
    }

-- one that is not there
pub gone-missing : (digest : List ℕ → List ℕ) (name : List ℕ) (p : Cells) (es new : Tenants)
    → Accounts digest p es → new ≡ es → lookup (bytes_eq name) es ≡ None → Gone digest name p p es new
gone-missing digest name p es new h same none =
    let absent : lookup (bytes_eq name) (holdings p es) ≡ None =
    lookup-holdings p name es ∙ ap (option_map (holding_in p)) none in
    record {
      accounts = rw same h;
      left = ap (holdings p) same ∙ sym (all_but-absent name (holdings p es) absent);
    }

-- ---- the calls under a name

none-of : {X : Type 0} (o : Option X) → is_some o ≡ false → o ≡ None
none-of None h = refl
none-of (Some x) h = absurd (true≢false h)

no-some : {X : Type 0} (o : Option X) → o ≡ None → IsSome o → ⊥
no-some o none some = true≢false (sym some ∙ ap is_some none)

-- a good name goes by what is held
refused-good : (name : List ℕ) (all : TenantStates) (by : TenantState → Option ServiceFault) → is_tenant_name name ≡ true
    → cond (is_tenant_name name) (by (held_of name all)) (Some fault.BadTenantName) ≡ by (held_of name all)
refused-good name all by good = ap (λ (b : Bool). cond b (by (held_of name all)) (Some fault.BadTenantName)) good

-- and a bad one is refused
refused-bad : (name : List ℕ) (o : Option ServiceFault) → is_tenant_name name ≡ false
    → cond (is_tenant_name name) o (Some fault.BadTenantName) ≡ Some fault.BadTenantName
refused-bad name o bad = ap (λ (b : Bool). cond b o (Some fault.BadTenantName)) bad

-- the tenant that has what it had
shown-same : (digest : List ℕ → List ℕ) (name : List ℕ) (p q : Cells) (es : Tenants) (old new : Tenant)
    → Accounts digest p es → lookup (bytes_eq name) es ≡ Some old → Stands digest q new
    → PreservesOthers p old.table.entries q new.table.entries → holding_in q new ≡ holding_in p old
    → holdings q (set_value (bytes_eq name) es new) ≡ holdings p es
shown-same digest name p q es old new h got stands leaves same =
    let f = found name es old new got in
    let c = changed digest p q f.front f.back name old new (rw (← f.is) h) stands leaves in
    ap (holdings q) f.set ∙ c.shown
    ∙ ap (λ (x : TenantState). holdings p f.front ++ (name, x) ∷ holdings p f.back) same
    ∙ sym (map-append (λ (e : List ℕ × Tenant). (e.0, holding_in p e.1)) f.front ((name, old) ∷ f.back))
    ∙ ap (holdings p) (sym f.is)

-- without a stream there is nothing to give up
idle-stays : (held : TenantState) → IsSome (without_stream held) → Idle (last_held held) ≡ held
idle-stays (Idle repository) refused = refl
idle-stays (Busy opened status) refused = absurd (true≢false (sym refused))

pub abandons-found : (digest : List ℕ → List ℕ) (given name : List ℕ) (p q : Cells) (es : Tenants) (old new : Tenant) (told : Answer)
    → is_tenant_name given ≡ true → name ≡ given → Accounts digest p es
    → lookup (bytes_eq name) es ≡ Some old → Stands digest q new
    → PreservesOthers p old.table.entries q new.table.entries
    → told ≡ answer_unless (without_stream (holding_in p old))
    → holding_in q new ≡ Idle (last_held (holding_in p old))
    → Abandons digest given (store p es) told (store q (set_value (bytes_eq name) es new))
abandons-found digest given name p q es old new told good is h got stands leaves says own =
    rw (← is)
    (record {
      accounts = x.accounts;
      answered = says ∙ ap answer_unless (sym refusal);
      own = x.here ∙ own ∙ ap (λ (held : TenantState). Idle (last_held held)) (sym there);
      others = x.others;
      refused = λ refused.
          shown-same digest name p q es old new h got stands leaves
          (own ∙ idle-stays (holding_in p old) (sym (ap is_some refusal) ∙ refused));
    })
  where
    x : Exchanged digest p es name new q (set_value (bytes_eq name) es new)
    x = exchanged digest name p q es old new h got stands leaves

    there : held_of name (holdings p es) ≡ holding_in p old
    there = held-found p name es old got

    refusal : abandon_refusal name (holdings p es) ≡ without_stream (holding_in p old)
    refusal = refused-good name (holdings p es) without_stream (ap is_tenant_name is ∙ good) ∙ ap without_stream there

pub abandons-missing : (digest : List ℕ → List ℕ) (given name : List ℕ) (p : Cells) (es new : Tenants) (told : Answer)
    → is_tenant_name given ≡ true → name ≡ given → Accounts digest p es
    → lookup (bytes_eq name) es ≡ None → new ≡ es → told ≡ answer.Fault (code_of fault.NoStream)
    → Abandons digest given (store p es) told (store p new)
abandons-missing digest given name p es new told good is h none same says =
    rw same
    (record {
      accounts = h;
      answered = says ∙ ap answer_unless (sym refusal);
      own = there ∙ ap (λ (held : TenantState). Idle (last_held held)) (sym there);
      others = λ other apart. refl;
      refused = λ refused. refl;
    })
  where
    there : held_of given (holdings p es) ≡ Idle empty_repository
    there = ap (λ (n : List ℕ). held_of n (holdings p es)) (sym is) ∙ held-missing p name es none

    refusal : abandon_refusal given (holdings p es) ≡ Some fault.NoStream
    refusal = refused-good given (holdings p es) without_stream good ∙ ap without_stream there

pub abandons-bad : (digest : List ℕ → List ℕ) (given : List ℕ) (p : Cells) (es : Tenants) (told : Answer)
    → is_tenant_name given ≡ false → Accounts digest p es → told ≡ answer.Fault (code_of fault.BadTenantName)
    → Abandons digest given (store p es) told (store p es)
abandons-bad digest given p es told bad h says =
    let there = held-missing p given es (bad-missing given es h.names bad) in
    record {
      accounts = h;
      answered = says ∙ ap answer_unless (sym (refused-bad given (without_stream (held_of given (holdings p es))) bad));
      own = there ∙ ap (λ (held : TenantState). Idle (last_held held)) (sym there);
      others = λ other apart. refl;
      refused = λ refused. refl;
    }

pub removes-gone : (digest : List ℕ → List ℕ) (given name : List ℕ) (p q : Cells) (es new : Tenants)
    → is_tenant_name given ≡ true → name ≡ given → is_some (with_stream (held_of name (holdings p es))) ≡ false
    → Gone digest name p q es new → Removes digest given (store p es) answer.Ok (store q new)
removes-gone digest given name p q es new good is idle g =
    rw (← is)
    (record {
      accounts = g.accounts;
      answered = ap answer_unless (sym free);
      removed = λ _. g.left;
      refused = λ some. absurd (no-some _ free some);
    })
  where
    free : removal_refusal name (holdings p es) ≡ None
    free =
        refused-good name (holdings p es) with_stream (ap is_tenant_name is ∙ good)
        ∙ none-of (with_stream (held_of name (holdings p es))) idle

is-open : (held : TenantState) → is_some (with_stream held) ≡ true → with_stream held ≡ Some fault.StreamIsOpen
is-open (Idle repository) h = absurd (true≢false (sym h))
is-open (Busy opened status) h = refl

-- a call that removes nothing
removes-none : (digest : List ℕ → List ℕ) (given : List ℕ) (p : Cells) (es : Tenants) (told : Answer) (refusal : ServiceFault)
    → Accounts digest p es → removal_refusal given (holdings p es) ≡ Some refusal → told ≡ answer.Fault (code_of refusal)
    → Removes digest given (store p es) told (store p es)
removes-none digest given p es told refusal h is says = record {
  accounts = h;
  answered = says ∙ ap answer_unless (sym is);
  removed = λ none. absurd (no-some _ none (ap is_some is));
  refused = λ some. refl;
}

pub removes-streaming : (digest : List ℕ → List ℕ) (given name : List ℕ) (p : Cells) (es : Tenants) (told : Answer)
    → is_tenant_name given ≡ true → name ≡ given → is_some (with_stream (held_of name (holdings p es))) ≡ true
    → Accounts digest p es → told ≡ answer.Fault (code_of fault.StreamIsOpen)
    → Removes digest given (store p es) told (store p es)
removes-streaming digest given name p es told good is busy h says =
    removes-none digest given p es told fault.StreamIsOpen h
    (refused-good given (holdings p es) with_stream good
    ∙ is-open (held_of given (holdings p es))
    (ap (λ (n : List ℕ). is_some (with_stream (held_of n (holdings p es)))) (sym is) ∙ busy)) says

pub removes-bad : (digest : List ℕ → List ℕ) (given : List ℕ) (p : Cells) (es : Tenants) (told : Answer)
    → is_tenant_name given ≡ false → Accounts digest p es → told ≡ answer.Fault (code_of fault.BadTenantName)
    → Removes digest given (store p es) told (store p es)
removes-bad digest given p es told bad h says =
    removes-none digest given p es told fault.BadTenantName h
    (refused-bad given (with_stream (held_of given (holdings p es))) bad) says

-- ---- what is held of each tenant after a removal

pub removed-others : (name : List ℕ) (before after : TenantStates)
    → (removal_refusal name before ≡ None → after ≡ all_but name before)
    → (IsSome (removal_refusal name before) → after ≡ before)
    → (other : List ℕ) → bytes_eq other name ≡ false → held_of other after ≡ held_of other before
removed-others name before after removed refused other apart = by (removal_refusal name before) refl
  where
    by : (o : Option ServiceFault) → removal_refusal name before ≡ o → held_of other after ≡ held_of other before
    by None none = ap (held_of other) (removed none) ∙ held-beside name other before apart
    by (Some fault) some = ap (held_of other) (refused (ap is_some some))

module _ (digest : List ℕ → List ℕ) (name : List ℕ) (before after : TenantStates)
    (removed : removal_refusal name before ≡ None → after ≡ all_but name before)
    (refused : IsSome (removal_refusal name before) → after ≡ before) where
  pub removed-led : AreLed digest before → AreLed digest after
  removed-led led = by (removal_refusal name before) refl
    where
      by : (o : Option ServiceFault) → removal_refusal name before ≡ o → AreLed digest after
      by None none =
          led-left digest name before after (removed-others name before after removed refused)
          empty_repository (ap (held_of name) (removed none) ∙ held-gone name before) led
      by (Some fault) some = subst (AreLed digest) (sym (refused (ap is_some some))) led

  pub removed-sound : AreSound digest before → AreSound digest after
  removed-sound sound = by (removal_refusal name before) refl
    where
      by : (o : Option ServiceFault) → removal_refusal name before ≡ o → AreSound digest after
      by None none =
          sound-left digest name before after (removed-others name before after removed refused)
          empty_repository (ap (held_of name) (removed none) ∙ held-gone name before) (empty_is_sound digest) sound
      by (Some fault) some = subst (AreSound digest) (sym (refused (ap is_some some))) sound
